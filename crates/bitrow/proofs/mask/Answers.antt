-- `bitrow::mask` meets its contract.
-- Assumes nothing.
use Rattle.std.proofs.Common.{arith}
use Rattle.bitrow.proofs.Masks.{mask_value}
use Rattle.bitrow.proofs.mask.Goals as goal

pub returns : goal.returns
returns c = mask_value c.args.o c.args.n (omega arith) (omega arith)
