-- `census::write_block` meets its contract. Assumes nothing.
use native.Mathlib.Omega.{arith}
use lib.ListN.{length-set}
use Rattle.census.proofs.WriteLaws.{wrote_block}
use Rattle.census.proofs.write_block.Goals as goal

pub bounds-room-i-2 : goal.bounds-room-i-2
bounds-room-i-2 c =
    omega (arith, length-set c.args.room.now c.args.i c.args.place)

pub returns : goal.returns
returns c = wrote_block _ _ _ _
