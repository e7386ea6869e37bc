-- `resize::fit_slot` meets its contract. Assumes nothing.
use native.Mathlib.Omega.{arith}
use Rattle.classes.proofs.ClassLaws.{size_read}
use Rattle.resize.proofs.Forms.{slot_same, slot_other, slot_large}
use Rattle.resize.proofs.fit_slot.Goals as goal
use Rattle.resize.proofs.fit_slot.Goals.{else-n-le3072-via-then-n-le3072+else-class_of-b, else-n-le3072-via-else-n-le3072}

pub returns-then-class_of-b : goal.returns-then-class_of-b
returns-then-class_of-b c =
    slot_same _ _ (size_read _ c.class_row-row.ensures c.from-bytes.ensures) (omega arith) c.class_of.ensures c.if-class_of-b.true

pub returns-else-n-le3072 : goal.returns-else-n-le3072
returns-else-n-le3072 c =
    let bytes = size_read _ c.class_row-row.ensures c.from-bytes.ensures in
    elim c.else-n-le3072.branch [
      | else-n-le3072-via-then-n-le3072+else-class_of-b w ↦ slot_other _ _ bytes (omega arith) w.class_of.ensures w.if-class_of-b.false
      | else-n-le3072-via-else-n-le3072 w ↦ slot_large _ _ bytes (omega arith)
    ]
