-- `resize::can_grow` meets its contract. Assumes nothing.
use native.Mathlib.Omega.{arith}
use Rattle.resize.proofs.Forms.{grow_far, grow_near}
use Rattle.resize.proofs.can_grow.Goals as goal

pub returns-then-g-j-gt512 : goal.returns-then-g-j-gt512
returns-then-g-j-gt512 c = grow_far _ _ _ _ (omega arith)

pub returns : goal.returns
returns c = grow_near _ _ _ _ (omega arith) c.next_bit.ensures
