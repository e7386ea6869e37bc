-- `bitrow::put_bit` meets its contract: one place is a part of one word.
-- Assumes nothing.
use Rattle.bitrow.specs.Row.{put_bits}
use Rattle.bitrow.proofs.put_bit.Goals as goal

pub returns : goal.returns
unfolding put_bits
returns c = c.put_in_word.ensures
