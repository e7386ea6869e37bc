-- `fresh::fill_each` meets its contract. Assumes nothing.
use Rattle.std.proofs.Common.{arith}
use Rattle.std.proofs.lemmas.List.FromFn.{fill_by_all}
use Rattle.std.proofs.lemmas.List.Edits.{fill_by_more}
use Rattle.fresh.proofs.fill_each.Goals as goal

pub loop-i-preserved : goal.loop-i-preserved
loop-i-preserved g c = rw c.each_of.ensures (fill_by_more _ c.loop-i.words _ _ (omega arith) c.loop-i.invariant)

pub returns : goal.returns
returns g c = fill_by_all _ _ _ c.args.first (omega arith) (λ k h. c.loop-i.invariant k (omega arith))
