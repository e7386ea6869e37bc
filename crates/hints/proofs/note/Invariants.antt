-- `hints::note` meets its contract. Assumes nothing.
use mathlib.Core.Path.{◌≡◌}
use Prim.Native.Nat.{◌*◌}
use Rattle.records.specs.Pool.{pool}
use Rattle.hints.proofs.NoteLaws.{Told, Placed}
use Rattle.hints.proofs.note.Given as goal

abbrev pub invariant-loop-k : goal.invariant-loop-k
invariant-loop-k l = (l.from ≡ 144 * l.b) × (Placed (pool l.pool.bits.now l.pool.words.now l.pool.slots.now) l.g l.b) × (Told l.pool.slots.now l.b l.g l.k l.o)
