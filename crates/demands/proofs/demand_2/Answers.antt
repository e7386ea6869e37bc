-- `demands::demand_2` meets its contract. Assumes nothing.
use Rattle.demands.proofs.RuleClaim.{demand_2}
use Rattle.demands.proofs.demand_2.Goals as goal

pub returns : goal.returns
returns c = demand_2
