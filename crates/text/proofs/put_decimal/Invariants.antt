-- `text::put_decimal` meets its contract. Assumes nothing.
use Rattle.std.proofs.Common.{◌≡◌, ◌+◌, ◌≤◌, length}
use lib.Seq.{sets}
use Rattle.text.specs.Text.{decimal}
use Rattle.text.proofs.put_decimal.Given as goal

abbrev pub invariant-loop-m : goal.invariant-loop-m
invariant-loop-m l =
    (l.i + 1 ≡ l.at + length (decimal l.m))
    × (length (decimal l.m) ≤ length (decimal l.n))
    × (sets l.out l.at (decimal l.m) ≡ sets l.initial.out l.at (decimal l.n))

abbrev pub decreases-loop-m : goal.decreases-loop-m
decreases-loop-m l = l.m
