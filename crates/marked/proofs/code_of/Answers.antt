-- `marked::code_of` meets its contract. Assumes nothing.
use Rattle.reserve.proofs.AnswerForms.{low_as}
use native.Mathlib.Omega.{arith}
use Rattle.marked.proofs.code_of.Goals as goal

pub overflow_mul-result : goal.overflow_mul-result
overflow_mul-result c =
    let (page, class, slot) = low_as c.in-TakeSlot.is c.requires in omega arith

pub overflow_add-result : goal.overflow_add-result
overflow_add-result c =
    let (page, class, slot) = low_as c.in-TakeSlot.is c.requires in omega arith
