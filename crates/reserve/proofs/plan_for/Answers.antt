-- `reserve::plan_for` meets its contract. Assumes nothing.
use Rattle.classes.proofs.ClassLaws.{slots_read}
use Rattle.records.proofs.AdmitLaws.{admitted}
use Rattle.reserve.proofs.PlanLaws.{class_low, plan_small, plan_large_lem}
use native.Mathlib.Omega.{arith}
use Rattle.reserve.proofs.plan_for.Goals as goal

pub class_row-row-requires : goal.class_row-row-requires
class_row-row-requires c = class_low c.if-n-le3072.true c.class_of-b.ensures

pub slot_page-g-requires : goal.slot_page-g-requires
slot_page-g-requires c = record { class = class_low c.if-n-le3072.true c.class_of-b.ensures; count = slots_read _ c.class_row-row.ensures c.from-k.ensures }

pub plan_slot-requires : goal.plan_slot-requires
plan_slot-requires c = record { class = class_low c.if-n-le3072.true c.class_of-b.ensures; count = slots_read _ c.class_row-row.ensures c.from-k.ensures; first = c.slot_page-g.ensures }

pub returns-then-n-le3072 : goal.returns-then-n-le3072
returns-then-n-le3072 c =
    plan_small _ _ _ _ _ c.if-n-le3072.true c.class_of-b.ensures c.plan_slot.ensures

pub plan_large-requires : goal.plan_large-requires
plan_large-requires c =
    let a = admitted _ _ c.args.pool.now.sound in let h = a.shape in record { long = omega arith; few = omega arith; large = omega arith }

pub returns : goal.returns
returns c = plan_large_lem _ _ _ _ c.if-n-le3072.false c.plan_large.ensures
