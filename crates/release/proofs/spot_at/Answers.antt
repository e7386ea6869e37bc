-- `release::spot_at` meets its contract. Assumes nothing.
use Rattle.classes.proofs.ClassLaws.{size_read, slots_read}
use Rattle.records.proofs.AdmitLaws.{admitted}
use mathlib.Core.Path.{◌∙◌}
use native.Mathlib.Omega.{arith}
use Rattle.release.proofs.GiveLaws.{leads_large, leads_class}
use Rattle.release.proofs.spot_at.Goals as goal

pub returns-in-Some-Large : goal.returns-in-Some-Large
returns-in-Some-Large c = leads_large _ _ _ c.in-Some-Large.is c.in-Some-Large.field-0-is c.area_at.ensures

pub class_row-row-requires : goal.class_row-row-requires
class_row-row-requires c = (leads_class _ _ _ c.in-Some-Class.is c.in-Some-Class.field-0-is c.area_at.ensures).1

pub overflow_mul-g : goal.overflow_mul-g
overflow_mul-g c = omega (arith, leads_class _ _ _ c.in-Some-Class.is c.in-Some-Class.field-0-is c.area_at.ensures)

pub overflow_sub-q : goal.overflow_sub-q
overflow_sub-q c = (leads_class _ _ _ c.in-Some-Class.is c.in-Some-Class.field-0-is c.area_at.ensures).2

pub slot_spot-requires : goal.slot_spot-requires
slot_spot-requires c =
    let h = (admitted _ _ c.args.pool.now.sound).shape in
    let l = leads_class _ _ _ c.in-Some-Class.is c.in-Some-Class.field-0-is c.area_at.ensures in
    let a = l.0 in
    record {
      low = omega arith;
      long = omega arith;
      class = l.1;
      size = size_read _ c.class_row-row.ensures c.from-bytes.ensures;
      count = slots_read _ c.class_row-row.ensures c.from-count.ensures;
    }

pub returns-in-Some-Class : goal.returns-in-Some-Class
returns-in-Some-Class c =
    c.slot_spot.ensures ∙ (leads_class _ _ _ c.in-Some-Class.is c.in-Some-Class.field-0-is c.area_at.ensures).3
