-- `gaps::best_in_word` meets its contract. The loop's invariant: the search has come to a place of the word, gives from there what it gave
-- from q on, and the edges are those from there on.
-- Assumes nothing.
use Prim.Native.Nat.{◌-◌}
use native.Mathlib.Omega.{arith}
use lib.Bits.{and_le_r}
use lib.Count.{trailing_le}
use Rattle.bitrow.proofs.Words.{one_lowest}
use Rattle.gaps.proofs.Turns.{word_start, word_turn, word_done, word_settled}
use Rattle.gaps.proofs.best_in_word.Goals as goal

pub loop-edges-init : goal.loop-edges-init
loop-edges-init c =
    let room = c.requires.room in let some = c.requires.some in let ready = c.requires.ready in
    word_start room (omega arith) ready c.edges_of-edges.ensures

pub overflow_cast-e : goal.overflow_cast-e
overflow_cast-e c = omega (arith, trailing_le 64 c.loop-edges.edges)

pub overflow_add-e : goal.overflow_add-e
overflow_add-e c = omega (arith, trailing_le 64 c.loop-edges.edges)

pub loop-edges-smaller : goal.loop-edges-smaller
loop-edges-smaller c = let edges = c.loop-edges.edges in omega (arith, and_le_r edges (edges - 1))

pub loop-edges-preserved : goal.loop-edges-preserved
loop-edges-preserved c =
    let room = c.requires.room in let some = c.requires.some in let ready = c.requires.ready in
    word_turn room c.loop-edges.invariant some (omega arith) (one_lowest _) c.at_edge-r.ensures

pub returns-else-r-n : goal.returns-else-r-n
returns-else-r-n c =
    let l = c.loop-edges in
    let room = c.requires.room in let some = c.requires.some in let ready = c.requires.ready in
    word_settled room l.invariant (c.if-r-n.false)

pub returns-after-loop-edges : goal.returns-after-loop-edges
returns-after-loop-edges c =
    let room = c.requires.room in let some = c.requires.some in let ready = c.requires.ready in
    word_done room c.loop-edges.invariant (omega arith)
