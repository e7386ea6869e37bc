-- `sweep::empty_64` meets its contract. Assumes nothing.
use Prim.Native.Nat.{◌≤◌}
use Rattle.records.specs.Pool.{pool}
use Rattle.sweep.proofs.MaskLaws.{Marking}
use Rattle.sweep.proofs.empty_64.Given as goal

abbrev pub invariant-loop-i : goal.invariant-loop-i
invariant-loop-i l = (l.pool.chunks ≤ 16) × Marking (pool l.pool.bits.now l.pool.words.now l.pool.slots.now) l.k l.i l.mask l.last
