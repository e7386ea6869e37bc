-- `admit::pages_64` meets its contract. Assumes nothing.
use Rattle.admit.proofs.PageLaws.{checked_as, wrong_as}
use Rattle.admit.proofs.pages_64.Goals as goal

pub returns-then-free_64 : goal.returns-then-free_64
returns-then-free_64 c = checked_as _ _ _ _ c.if-at-eq0.true (c.free_64.ensures.yes c.if-free_64.true)

pub returns-else-free_64 : goal.returns-else-free_64
returns-else-free_64 c = wrong_as _ _ _ _ c.if-at-eq0.true (c.free_64.ensures.no c.if-free_64.false)
