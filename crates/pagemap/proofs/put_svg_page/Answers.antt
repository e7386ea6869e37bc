-- `pagemap::put_svg_page` meets its contract. Assumes nothing.
use native.Mathlib.Omega.{arith}
use Rattle.pagemap.specs.Drawing.{svg_page}
use Rattle.pagemap.proofs.put_svg_page.Goals as goal

pub returns : goal.returns
unfolding svg_page
returns c = record { text = c.put_filled.ensures.appends; room = omega arith }
