-- `sweep::sweep_sound` meets its contract. Assumes nothing.
use mathlib.Core.Path.{refl}
use Rattle.sweep.proofs.SpareLaws.{gain_answer}
use Rattle.sweep.proofs.sweep_sound.Goals as goal

pub returns : goal.returns
returns c =
    gain_answer _ _ refl c.swept_bits-pages.ensures.pages c.give_back.ensures
