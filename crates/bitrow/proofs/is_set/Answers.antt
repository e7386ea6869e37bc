-- `bitrow::is_set` meets its contract: the code reads as the definition.
-- Assumes nothing.
use Rattle.std.proofs.Common.{refl}
use Rattle.bitrow.specs.Row.{bit, bit_at, is_set}
use Rattle.bitrow.proofs.is_set.Goals as goal

pub returns : goal.returns
unfolding is_set bit_at bit
returns c = refl
