-- `text::decimal_length` meets its contract. Assumes nothing.
use Rattle.std.proofs.Common.{arith}
use Rattle.text.proofs.TextLaws.{digits_first, digits_next, digits_done, digits_full}
use Rattle.text.proofs.decimal_length.Goals as goal

pub loop-k-init : goal.loop-k-init
loop-k-init c = digits_first _

pub returns-then-n-p : goal.returns-then-n-p
returns-then-n-p c = digits_done c.loop-k.invariant (omega arith) (omega arith) (omega arith)

pub loop-k-preserved : goal.loop-k-preserved
loop-k-preserved c = digits_next c.loop-k.invariant (omega arith)

pub returns : goal.returns
returns c = digits_full c.loop-k.invariant (omega arith) (omega arith)
