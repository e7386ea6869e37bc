-- `refusals::first_decides` meets its contract. Assumes nothing.
use Rattle.refusals.proofs.MeanLaws.{first_decides}
use Rattle.refusals.proofs.first_decides.Goals as goal

pub returns : goal.returns
returns c = first_decides
