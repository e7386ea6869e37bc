-- `blocks::put_class` meets its contract. Assumes nothing.
use Rattle.std.proofs.Common.{arith}
use Rattle.classes.proofs.ClassLaws.{pages_read}
use Rattle.blocks.proofs.StoreForms.{class_stored}
use Rattle.blocks.proofs.put_class.Goals as goal

pub put_bits-requires : goal.put_bits-requires
put_bits-requires c = let e = pages_read _ c.class_row.ensures c.from-n.ensures in (omega arith, omega arith)

pub class_words-requires : goal.class_words-requires
class_words-requires c =
    let e = pages_read _ c.class_row.ensures c.from-n.ensures in record { low = omega arith; word = omega arith; class = c.requires.class; count = e }

pub returns : goal.returns
returns c =
    class_stored _ _ _ _ c.requires.class (pages_read _ c.class_row.ensures c.from-n.ensures) _ _ c.put_bits.ensures
    c.class_words.ensures
