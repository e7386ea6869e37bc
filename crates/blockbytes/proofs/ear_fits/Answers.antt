-- `blockbytes::ear_fits` meets its contract. Assumes nothing.
use Rattle.std.proofs.Common.{arith}
use Rattle.blockbytes.proofs.PartLaws.{fits_left, fits_right, fits_neither}
use Rattle.blockbytes.proofs.ear_fits.Goals as goal

pub returns-in-0 : goal.returns-in-0
returns-in-0 c = fits_left _ _ _ _ c.in-0.is c.is_chunks.ensures

pub returns-in-1 : goal.returns-in-1
returns-in-1 c = fits_right _ _ _ _ c.in-1.is c.is_chunks-in-1.ensures

pub returns-in_default : goal.returns-in_default
returns-in_default c = fits_neither _ _ _ _ (omega arith)
