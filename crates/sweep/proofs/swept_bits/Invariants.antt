-- `sweep::swept_bits` meets its contract. Assumes nothing.
use Prim.Native.Nat.{◌≤◌}
use Rattle.records.specs.Pool.{pool}
use Rattle.sweep.proofs.SpareLaws.{Sparing}
use Rattle.sweep.proofs.swept_bits.Given as goal

abbrev pub invariant-loop-k : goal.invariant-loop-k
invariant-loop-k l = (l.pool.chunks ≤ 16) × Sparing l.pool.chunks (pool l.pool.bits.now l.pool.words.now l.pool.slots.now) l.k l.spare l.last l.pages
