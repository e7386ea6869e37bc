-- `reserve::slot_given` meets its contract. Assumes nothing.
use native.Mathlib.Omega.{arith}
use Rattle.classes.proofs.ClassLaws.{size_read}
use Rattle.reserve.proofs.AnswerForms.{slot_room, slot_is}
use Rattle.reserve.proofs.slot_given.Goals as goal

pub overflow_mul-result-2 : goal.overflow_mul-result-2
overflow_mul-result-2 c =
    omega (arith, slot_room c.requires.1 c.requires.2 (size_read _ c.class_row-row.ensures c.from-bytes.ensures))

pub overflow_add-result : goal.overflow_add-result
overflow_add-result c =
    omega (arith, slot_room c.requires.1 c.requires.2 (size_read _ c.class_row-row.ensures c.from-bytes.ensures))

pub returns : goal.returns
returns c = slot_is _ _ _ (size_read _ c.class_row-row.ensures c.from-bytes.ensures)
