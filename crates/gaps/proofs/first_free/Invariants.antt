-- `gaps::first_free` meets its contract. The loop's invariant: the search from word i on finds what the whole one finds.
-- Assumes nothing.
use Prim.Native.Nat.{◌-◌, ◌≤◌}
use Rattle.gaps.specs.Gaps.{barred}
use Rattle.gaps.proofs.Chunks.{Seeks}
use Rattle.gaps.proofs.first_free.Given as goal

abbrev pub invariant-loop-i : goal.invariant-loop-i
invariant-loop-i l = (l.i ≤ 8) × Seeks (barred l.bits l.k) l.k l.i

abbrev pub decreases-loop-i : goal.decreases-loop-i
decreases-loop-i l = 8 - l.i
