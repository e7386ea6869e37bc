-- `bitrow::next_bit` meets its contract. The loop's invariant: the search from q on gives the whole answer, which is `to` once q is behind it.
-- Assumes nothing.
use Rattle.std.proofs.Common.{◌≡◌, ◌+◌, ◌-◌, ◌<◌}
use Rattle.bitrow.specs.Row.{digit, next_bit}
use Rattle.bitrow.proofs.Rows.{next_from}
use Rattle.bitrow.proofs.next_bit.Given as goal

abbrev pub invariant-loop-q : goal.invariant-loop-q
invariant-loop-q l =
    (l.q < l.to + 64) × (next_from (digit l.v) l.words l.q l.to ≡ next_bit (digit l.v) l.words l.from (l.to - l.from))

abbrev pub decreases-loop-q : goal.decreases-loop-q
decreases-loop-q l = l.to - l.q
