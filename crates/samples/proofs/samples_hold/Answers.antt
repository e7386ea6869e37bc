-- `samples::samples_hold` meets its contract: each row is computed.
-- Assumes nothing.
use mathlib.Core.Path.{refl}
use Rattle.classes.specs.Classes.{rows, first_holding, class_for}
use Rattle.bitrow.specs.Row.{bit, bit_at}
use Rattle.gaps.specs.Gaps.{gaps_from, gaps_of, better, shortest, find_in_chunk, find_from, find_pages}
use Rattle.samples.specs.Samples.{page_bits, samples, Says, none, row}
use Rattle.samples.proofs.samples_hold.Goals as goal

pub returns : goal.returns
unfolding samples Says rows first_holding class_for page_bits gaps_from gaps_of better shortest find_in_chunk find_from find_pages bit bit_at
returns c =
    row refl (row refl (row refl (row refl (row refl (row refl (row refl (row refl
    (row refl (row refl (row refl (row refl (row refl none))))))))))))
