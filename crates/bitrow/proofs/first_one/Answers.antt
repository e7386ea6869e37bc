-- `bitrow::first_one` meets its contract.
-- Assumes nothing.
use Rattle.bitrow.proofs.Words.{one_lowest}
use Rattle.bitrow.proofs.first_one.Goals as goal

pub returns : goal.returns
returns c = one_lowest _
