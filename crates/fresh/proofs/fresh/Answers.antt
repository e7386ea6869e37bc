-- `fresh::fresh` meets its contract. Assumes nothing.
use Rattle.fresh.proofs.FillLaws.{fresh_made, fresh_not}
use Rattle.fresh.proofs.fresh.Goals as goal

pub returns-then-not-is_shaped : goal.returns-then-not-is_shaped
returns-then-not-is_shaped c = fresh_not _ _ _ c.is_shaped.ensures c.if-not-is_shaped.true

pub returns : goal.returns
returns c =
    fresh_made _ _ _ _ _ _ c.is_shaped.ensures c.if-not-is_shaped.false c.fill_each.ensures
    c.edge_word.ensures c.fill_each-2.ensures (c.fill.ensures.after (λ y e. e))
