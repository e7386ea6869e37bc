-- `reserve::plan_run` meets its contract. Assumes nothing.
use Rattle.reserve.proofs.PlanLaws.{run_at, run_none}
use Rattle.reserve.proofs.plan_run.Goals as goal

pub returns-in-Some : goal.returns-in-Some
returns-in-Some c = run_at _ _ _ _ c.find_pages.ensures _ c.in-Some.is

pub returns-in-None : goal.returns-in-None
returns-in-None c = run_none _ _ _ _ c.find_pages.ensures c.in-None.is
