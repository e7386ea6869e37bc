-- `bitrow::put_bits` meets its contract. The loop's invariant: the places from i on, changed too, make the whole change.
-- Assumes nothing.
use Rattle.std.proofs.Common.{◌≡◌, ◌+◌, ◌-◌, ◌≤◌, length}
use Rattle.bitrow.specs.Row.{digit, put_bits}
use Rattle.bitrow.proofs.put_bits.Given as goal

abbrev pub invariant-loop-i : goal.invariant-loop-i
invariant-loop-i l =
    (l.to ≡ l.from + l.n)
    × (l.i ≤ l.to)
    × (length l.words ≡ length l.initial.words)
    × (put_bits (digit l.v) l.words l.i (l.to - l.i) ≡ put_bits (digit l.v) l.initial.words l.from l.n)

abbrev pub decreases-loop-i : goal.decreases-loop-i
decreases-loop-i l = l.to - l.i
