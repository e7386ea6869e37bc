-- `gaps::find_pages` meets its contract. The loop's invariant: no gap is found so far, and the chunks from k on give what all chunks give.
-- Assumes nothing.
use Rattle.gaps.proofs.Choice.{Sought}
use Rattle.gaps.proofs.find_pages.Given as goal

abbrev pub invariant-loop-k : goal.invariant-loop-k
invariant-loop-k l = Sought l.bits l.n l.c l.k l.best
