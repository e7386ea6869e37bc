-- `blocks::blocks_apart` meets its contract. Assumes nothing.
use Rattle.blocks.proofs.ApartLaws.{live_is, is_live, live_rising, live_off}
use Rattle.blocks.proofs.blocks_apart.Goals as goal

pub returns : goal.returns
returns c = record { listed = λ c p b. (live_is c p, is_live c p); rising = live_rising; off = live_off }
