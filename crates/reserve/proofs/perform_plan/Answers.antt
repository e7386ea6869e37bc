-- `reserve::perform_plan` meets its contract. Assumes nothing.
use mathlib.Core.Path.{refl}
use mathlib.Core.Bool.{false}
use Prim.Native.Nat.{◌<◌}
use native.Mathlib.Omega.{arith}
use Rattle.records.proofs.AdmitLaws.{admitted}
use Rattle.blocks.specs.Blocks.{IsSlot}
use Rattle.reserve.specs.Plans.{PagesFree}
use Rattle.reserve.proofs.StoreForms.{ok_as, perform_as, slot_few, class_taken, large_room}
use Rattle.reserve.proofs.perform_plan.Goals as goal

pub returns-in-Refuse : goal.returns-in-Refuse
returns-in-Refuse c = perform_as _ c.in-Refuse.is refl

pub put_slot-requires : goal.put_slot-requires
put_slot-requires c =
    let start = c in
    let h = (admitted _ _ start.requires.0).shape in
    let r : IsSlot _ _ _ _ _ false = ok_as _ _ c.in-TakeSlot.is start.requires.1 in let i = r.inside in record { low = omega arith; slot = slot_few r; long = omega arith }

pub returns-in-TakeSlot : goal.returns-in-TakeSlot
returns-in-TakeSlot c =
    perform_as _ c.in-TakeSlot.is c.put_slot.ensures

pub put_class-requires : goal.put_class-requires
put_class-requires c =
    let start = c in
    let h = (admitted _ _ start.requires.0).shape in
    let r : (_ < 30) × PagesFree _ _ _ _ = ok_as _ _ c.in-NewClass.is start.requires.1 in let i = r.1.inside in record { class = r.0; low = omega arith; bit = omega arith; word = omega arith }

pub put_slot-requires-in-NewClass : goal.put_slot-requires-in-NewClass
put_slot-requires-in-NewClass c =
    let start = c in
    let h = (admitted _ _ start.requires.0).shape in
    let r : (_ < 30) × PagesFree _ _ _ _ = ok_as _ _ c.in-NewClass.is start.requires.1 in let i = r.1.inside in
    let k = r.1.some in record { low = omega arith; slot = omega arith; long = omega arith }

pub returns-in-NewClass : goal.returns-in-NewClass
returns-in-NewClass c =
    perform_as _ c.in-NewClass.is (class_taken _ _ _ c.put_class.ensures c.put_slot-in-NewClass.ensures)

pub put_large-requires : goal.put_large-requires
put_large-requires c =
    let start = c in
    large_room (admitted _ _ start.requires.0).shape (ok_as _ _ c.in-NewLarge.is start.requires.1)

pub returns-in-NewLarge : goal.returns-in-NewLarge
returns-in-NewLarge c =
    perform_as _ c.in-NewLarge.is c.put_large.ensures
