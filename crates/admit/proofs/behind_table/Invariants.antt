-- `admit::behind_table` meets its contract. Assumes nothing.
use Rattle.std.proofs.Common.{◌≡◌, ℕ, ◌<◌, length, get_or}
use Rattle.records.specs.Kinds.{behind}
use Rattle.admit.proofs.behind_table.Given as goal

abbrev pub invariant-loop-k : goal.invariant-loop-k
invariant-loop-k l = (length l.behinds ≡ 30) × ((j : ℕ) → j < l.k → get_or l.behinds j 0 ≡ behind j)
