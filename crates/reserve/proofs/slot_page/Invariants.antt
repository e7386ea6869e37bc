-- `reserve::slot_page` meets its contract. Assumes nothing.
use mathlib.Core.Path.{◌≡◌}
use Prim.Native.Nat.{◌*◌}
use Rattle.records.specs.Pool.{pool}
use Rattle.reserve.proofs.PlanLaws.{Passed}
use Rattle.reserve.proofs.slot_page.Given as goal

abbrev pub invariant-loop-g : goal.invariant-loop-g
invariant-loop-g l = (l.end ≡ 512 * l.pool.chunks) × Passed (pool l.pool.bits.now l.pool.words.now l.pool.slots.now) l.b (512 * l.pool.chunks) l.g
