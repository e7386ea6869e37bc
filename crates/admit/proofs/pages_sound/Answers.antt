-- `admit::pages_sound` meets its contract. Assumes nothing.
use Rattle.std.proofs.Common.{arith}
use Rattle.admit.proofs.PageLaws.{blocks_start, blocks_off, blocks_done}
use Rattle.admit.proofs.pages_sound.Goals as goal

pub loop-i-init : goal.loop-i-init
loop-i-init c = blocks_start _ _

pub returns-in-None : goal.returns-in-None
returns-in-None c = blocks_off c.loop-i.invariant (omega arith) c.in-None.ensures

pub returns : goal.returns
returns c = blocks_done c.loop-i.invariant (omega arith)
