-- `blocks::class_words` meets its contract. Assumes nothing.
use Rattle.std.proofs.Common.{◌≤◌}
use Rattle.blocks.proofs.StoreForms.{Written}
use Rattle.blocks.proofs.class_words.Given as goal

abbrev pub invariant-loop-k : goal.invariant-loop-k
invariant-loop-k l = (l.n ≤ 7) × (Written l.words l.initial.words l.g l.b l.n l.k)
