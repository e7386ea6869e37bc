-- `hints::build` meets its contract. Assumes nothing.
use Rattle.records.specs.Pool.{pool}
use Rattle.hints.specs.Hints.{Marks}
use Prim.Native.Nat.{◌*◌}
use mathlib.Core.Path.{◌≡◌}
use Rattle.hints.proofs.build.Given as goal

abbrev pub invariant-loop-g : goal.invariant-loop-g
invariant-loop-g l = (l.n ≡ 512 * l.pool.chunks) × (Marks l.g (pool l.pool.bits.now l.pool.words.now l.pool.slots.now) l.rows l.opens)
