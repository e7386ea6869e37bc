-- `bitrow::count_bits` meets its contract. The loop's invariant: the sum and the count from i on make the whole count.
-- Assumes nothing.
use Rattle.std.proofs.Common.{◌≡◌, ◌+◌, ◌-◌, ◌≤◌}
use Rattle.bitrow.specs.Row.{count_bits}
use Rattle.bitrow.proofs.count_bits.Given as goal

abbrev pub invariant-loop-i : goal.invariant-loop-i
invariant-loop-i l =
    (l.to ≡ l.from + l.n)
    × (l.from ≤ l.i)
    × (l.i ≤ l.to)
    × (l.sum ≤ l.i - l.from)
    × (l.sum + count_bits l.words l.i (l.to - l.i) ≡ count_bits l.words l.from l.n)

abbrev pub decreases-loop-i : goal.decreases-loop-i
decreases-loop-i l = l.to - l.i
