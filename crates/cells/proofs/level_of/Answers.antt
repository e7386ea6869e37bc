-- `cells::level_of` meets its contract. Assumes nothing.
use Rattle.cells.proofs.CellLaws.{tenths_most}
use Rattle.cells.proofs.level_of.Goals as goal

pub returns : goal.returns
returns c = tenths_most _ _ c.requires.order c.requires.some
