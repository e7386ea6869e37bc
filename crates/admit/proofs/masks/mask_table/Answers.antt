-- `admit::masks::mask_table` meets its contract. Assumes nothing.
use mathlib.Core.Path.{refl}
use Rattle.classes.specs.Classes.{rows}
use Rattle.admit.specs.Masks.{mask_table, masks_of}
use Rattle.admit.proofs.masks.mask_table.Goals as goal

pub returns : goal.returns
unfolding mask_table masks_of rows
returns c = refl
