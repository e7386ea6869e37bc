-- `totals::page_amount` meets its contract. Assumes nothing.
use mathlib.Core.Path.{refl, sym}
use native.Mathlib.Omega.{arith}
use Rattle.classes.proofs.ClassLaws.{row_read}
use Rattle.records.proofs.AdmitLaws.{admitted}
use Rattle.records.proofs.KindLaws.{others_bare}
use Rattle.records.proofs.RunLaws.{class_at_low, large_at_low}
use Rattle.totals.proofs.AmountLaws.{page_none, page_large, page_class, slots_few, bytes_few}
use Rattle.totals.proofs.page_amount.Goals as goal

pub offset_bounds-table-b : goal.offset_bounds-table-b
offset_bounds-table-b c = let l = class_at_low _ _ _ (sym c.in-Class.ensures) in omega arith

pub bounds-table-b : goal.bounds-table-b
bounds-table-b c = let l = class_at_low _ _ _ (sym c.in-Class.ensures) in omega arith

pub overflow_mul-g : goal.overflow_mul-g
overflow_mul-g c = let s = (admitted _ _ c.args.pool.now.sound).shape in omega arith

pub count_bits-n-requires : goal.count_bits-n-requires
count_bits-n-requires c =
    let s = (admitted _ _ c.args.pool.now.sound).shape in
    let m = slots_few _ (row_read _ _ _ _ c.requires.table refl refl) c.from.ensures in
    (omega arith, omega arith)

pub overflow_mul-result : goal.overflow_mul-result
overflow_mul-result c =
    let m = bytes_few _ _ _ (row_read _ _ _ _ c.requires.table refl refl) c.from.ensures c.count_bits-n.ensures c.from-in-Class.ensures in
    omega arith

pub returns-in-Class : goal.returns-in-Class
returns-in-Class c =
    page_class _ _ _ c.in-Class.ensures (row_read _ _ _ _ c.requires.table refl refl) c.from.ensures c.count_bits-n.ensures c.from-in-Class.ensures

pub overflow_add-result : goal.overflow_add-result
overflow_add-result c = let l = large_at_low _ _ _ (sym c.in-Large.ensures) in omega arith

pub overflow_mul-result-in-Large : goal.overflow_mul-result-in-Large
overflow_mul-result-in-Large c = let l = large_at_low _ _ _ (sym c.in-Large.ensures) in omega arith

pub returns-in-Large : goal.returns-in-Large
returns-in-Large c = page_large _ _ _ c.in-Large.ensures

pub returns-in_default : goal.returns-in_default
returns-in_default c = page_none _ _ c.kind_at.ensures (others_bare _ c.in_default.not-Large c.in_default.not-Class)
