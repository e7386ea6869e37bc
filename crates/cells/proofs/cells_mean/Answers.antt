-- `cells::cells_mean` meets its contract. Assumes nothing.
use Rattle.cells.proofs.CellLaws.{cells_mean}
use Rattle.cells.proofs.cells_mean.Goals as goal

pub returns : goal.returns
returns c = cells_mean
