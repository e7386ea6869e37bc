-- `resize::change_of` meets its contract. Assumes nothing.
use Prim.Native.Nat.{◌≤◌}
use native.Mathlib.Omega.{arith}
use Rattle.resize.specs.Settle.{ChunkIn}
use Rattle.resize.proofs.Forms.{low_as, change_none, run_big, run_fits, slot_big, slot_fits}
use Rattle.resize.proofs.change_of.Goals as goal

pub returns-in-Nowhere : goal.returns-in-Nowhere
returns-in-Nowhere c = change_none _ _ c.in-Nowhere.is

pub returns-then-n-gt2093056 : goal.returns-then-n-gt2093056
returns-then-n-gt2093056 c = run_big _ _ c.in-Run.is (omega arith)

pub fit_run-requires : goal.fit_run-requires
fit_run-requires c =
    let (chunk, inside) : ChunkIn _ _ × (_ ≤ _) = low_as _ c.in-Run.is c.requires in
    record { chunk = chunk; inside = inside; most = omega arith }

pub returns-else-n-gt2093056 : goal.returns-else-n-gt2093056
returns-else-n-gt2093056 c = run_fits _ _ c.in-Run.is (omega arith) c.fit_run.ensures

pub returns-then-n-gt2093056-2 : goal.returns-then-n-gt2093056-2
returns-then-n-gt2093056-2 c = slot_big _ _ c.in-Slot.is (omega arith)

pub fit_slot-requires : goal.fit_slot-requires
fit_slot-requires c = low_as _ c.in-Slot.is c.requires

pub returns-else-n-gt2093056-2 : goal.returns-else-n-gt2093056-2
returns-else-n-gt2093056-2 c = slot_fits _ _ c.in-Slot.is (omega arith) c.fit_slot.ensures
