-- `gaps::best_in_chunk` meets its contract. The loop's invariant: the search has come to word i, and gives from there what the chunk gives.
-- Assumes nothing.
use mathlib.Core.Path.{◌≡◌}
use Prim.Native.Nat.{◌+◌, ◌-◌, ◌*◌}
use Rattle.gaps.proofs.Chunks.{Chunk}
use Rattle.gaps.proofs.best_in_chunk.Given as goal

abbrev pub invariant-loop-i : goal.invariant-loop-i
invariant-loop-i l = (l.to ≡ 512 * l.k + 512) × Chunk l.bits l.k l.n l.initial.s.best l.i l.s

abbrev pub decreases-loop-i : goal.decreases-loop-i
decreases-loop-i l = 8 - l.i
