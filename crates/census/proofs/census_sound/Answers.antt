-- `census::census_sound` meets its contract. Assumes nothing.
use native.Mathlib.Omega.{arith}
use Rattle.census.proofs.MeanLaws.{listed_none, listed_all}
use Rattle.census.proofs.census_sound.Goals as goal

pub returns-then-room-n : goal.returns-then-room-n
returns-then-room-n c = listed_none _ _ _ _ c.live_count-n.ensures (omega arith)

pub returns : goal.returns
returns c =
    listed_all _ _ _ _ _ c.live_count-n.ensures (omega arith) c.write_pages.ensures
