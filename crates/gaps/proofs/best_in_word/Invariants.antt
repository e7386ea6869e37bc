-- `gaps::best_in_word` meets its contract. The loop's invariant: the search has come to a place of the word, gives from there what it gave
-- from q on, and the edges are those from there on.
-- Assumes nothing.
use Rattle.gaps.proofs.Turns.{Within}
use Rattle.gaps.proofs.best_in_word.Given as goal

abbrev pub invariant-loop-edges : goal.invariant-loop-edges
invariant-loop-edges l = Within l.w l.q l.to l.n l.initial.r l.edges l.r

abbrev pub decreases-loop-edges : goal.decreases-loop-edges
decreases-loop-edges l = l.edges
