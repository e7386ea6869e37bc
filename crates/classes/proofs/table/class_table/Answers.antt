-- `classes::table::class_table` meets its contract. The table's rule is one computed test: the array is the list of the smallest
-- classes that hold 0, 1, .. 3,072 bytes. Another says the same of what the calculation gives.
-- Assumes nothing.
use mathlib.Core.Path.{refl, sym}
use Rattle.classes.specs.Classes.{rows, first_holding, class_for}
use Rattle.classes.proofs.ClassLaws.{all_calculated}
use Rattle.classes.proofs.table.class_table.Goals as goal

pub returns : goal.returns
unfolding rows first_holding class_for
returns c = record { value = refl; value_2 = sym all_calculated }
