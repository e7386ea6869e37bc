-- `reserve::answer_of` meets its contract. Assumes nothing.
use Prim.Native.Nat.{◌<◌}
use mathlib.Core.Path.{refl}
use native.Mathlib.Omega.{arith}
use Rattle.reserve.proofs.AnswerForms.{answer_as, low_as, large_is}
use Rattle.reserve.proofs.answer_of.Goals as goal

pub slot_given-requires : goal.slot_given-requires
slot_given-requires c = low_as c.in-TakeSlot.is c.requires

pub slot_given-requires-in-NewClass : goal.slot_given-requires-in-NewClass
slot_given-requires-in-NewClass c =
    let r : (_ < 8192) × (_ < 30) = low_as c.in-NewClass.is c.requires in (r.0, r.1, omega arith)

pub overflow_add-pages : goal.overflow_add-pages
overflow_add-pages c =
    let r : (_ < 8192) × (_ < 511) = low_as c.in-NewLarge.is c.requires in omega (arith, r.1)

pub overflow_mul-result : goal.overflow_mul-result
overflow_mul-result c =
    let r : (_ < 8192) × (_ < 511) = low_as c.in-NewLarge.is c.requires in omega (arith, r.0)

pub overflow_mul-result-in-NewLarge : goal.overflow_mul-result-in-NewLarge
overflow_mul-result-in-NewLarge c =
    let r : (_ < 8192) × (_ < 511) = low_as c.in-NewLarge.is c.requires in omega (arith, r.1)

pub returns-in-NewLarge : goal.returns-in-NewLarge
returns-in-NewLarge c = answer_as c.in-NewLarge.is (large_is _ _ refl)
