-- `blocks::free_bit` meets its contract. Assumes nothing.
use Rattle.std.proofs.Common.{arith}
use Rattle.records.specs.Pool.{pool}
use Rattle.blocks.proofs.StoreForms.{bit_freed}
use Rattle.blocks.proofs.free_bit.Goals as goal

pub returns : goal.returns
returns c =
    let i = c.args.i in
    bit_freed (pool c.args.bits.now c.args.words.now c.args.slots.now) i (omega arith) _
