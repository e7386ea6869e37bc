-- `cells::goes_on` meets its contract. Assumes nothing.
use mathlib.Core.Path.{refl}
use Rattle.cells.specs.Cells.{goes_on}
use Rattle.cells.proofs.goes_on.Goals as goal

pub returns : goal.returns
unfolding goes_on
returns c = refl
