-- `blocks::fill_word` meets its contract. Assumes nothing.
use Rattle.std.proofs.Common.{refl, arith}
use Rattle.records.specs.Pool.{pool}
use Rattle.blocks.proofs.StoreForms.{word_filled}
use Rattle.blocks.proofs.fill_word.Goals as goal

pub returns : goal.returns
returns c = λ g k t.
    let i = c.args.i in
    word_filled (pool c.args.bits.now c.args.words.now c.args.slots.now) i
    (omega arith) _ g k t refl
