-- `release::give_back` meets its contract. Assumes nothing.
use native.Mathlib.Omega.{arith}
use mathlib.Core.Bool.{true}
use mathlib.Core.Path.{refl}
use Rattle.records.proofs.AdmitLaws.{admitted}
use Rattle.blocks.specs.Blocks.{IsSlot, IsLarge}
use Rattle.release.proofs.GiveLaws.{found, large_ends, large_zeros, few_slots, gave_nothing, gave_stored}
use Rattle.release.proofs.give_back.Goals as goal

pub returns-in-Nowhere : goal.returns-in-Nowhere
returns-in-Nowhere c = gave_nothing _ _ c.in-Nowhere.is

pub free_large-requires : goal.free_large-requires
free_large-requires c =
    let start = c in
    let a = admitted _ _ start.requires.0 in let h = a.shape in
    let (r, _) : IsLarge _ _ _ _ × _ = found _ _ _ start.requires.1.1 c.in-Run.is in
    let e = large_ends _ _ a.whole r in
    record { few = e.1; low = omega arith; bit = omega arith; word = omega arith; zero = large_zeros _ _ a.whole r }

pub returns-in-Run : goal.returns-in-Run
returns-in-Run c =
    gave_stored _ c.in-Run.is c.free_large.ensures refl

pub put_slot-requires : goal.put_slot-requires
put_slot-requires c =
    let start = c in
    let h = (admitted _ _ start.requires.0).shape in
    let (r, _) : IsSlot _ _ _ _ _ true × _ = found _ _ _ start.requires.1.1 c.in-Slot.is in let i = r.inside in record { low = omega arith; slot = few_slots r; long = omega arith }

pub returns-in-Slot : goal.returns-in-Slot
returns-in-Slot c =
    gave_stored _ c.in-Slot.is c.put_slot.ensures refl
