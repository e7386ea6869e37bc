-- `fresh::fill_each` meets its contract. Assumes nothing.
use Rattle.std.proofs.Common.{◌≡◌, ℕ, ◌<◌, get_or}
use Rattle.fresh.specs.Fill.{each}
use Rattle.fresh.proofs.fill_each.Given as goal

abbrev pub invariant-loop-i : goal.invariant-loop-i
invariant-loop-i g l = (k : ℕ) → k < l.i → get_or l.words k l.first ≡ each l.m l.first l.rest k
