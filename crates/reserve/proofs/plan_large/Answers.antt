-- `reserve::plan_large` meets its contract. Assumes nothing.
use Rattle.reserve.proofs.PlanLaws.{large_huge, large_run}
use Rattle.reserve.proofs.plan_large.Goals as goal

pub returns-then-n-gt2093056 : goal.returns-then-n-gt2093056
returns-then-n-gt2093056 c = large_huge _ _ _ c.if-n-gt2093056.true

pub returns : goal.returns
returns c = large_run _ _ _ _ _ c.if-n-gt2093056.false c.pages_for.ensures c.plan_run.ensures
