-- `gaps::best_in_chunk` meets its contract. The loop's invariant: the search has come to word i, and gives from there what the chunk gives.
-- Assumes nothing.
use mathlib.Core.Path.{refl, ◌∙◌}
use native.Mathlib.Omega.{arith}
use Rattle.gaps.proofs.Chunks.{chunk_full, chunk_start, chunk_turn, start_le, chunk_done, chunk_settled}
use Rattle.gaps.proofs.best_in_chunk.Goals as goal
use Rattle.gaps.proofs.best_in_chunk.Goals.{then-loop-i-test+else-s-n, else-loop-i-test}

pub returns-then-first_free-to : goal.returns-then-first_free-to
returns-then-first_free-to c = chunk_full _ _ _ _ _ (omega arith) c.first_free.ensures c.if-first_free-to.true

pub loop-i-init : goal.loop-i-init
loop-i-init c = (refl, chunk_start (omega arith))

pub best_in_word-s-requires : goal.best_in_word-s-requires
best_in_word-s-requires c =
    let l = c.loop-i in record { room = omega arith; some = omega arith; ready = l.invariant.1.ready }

pub loop-i-preserved : goal.loop-i-preserved
loop-i-preserved c =
    let l = c.loop-i in
    (refl, chunk_turn l.invariant.1 (omega arith) c.page_word-w.ensures c.best_in_word-s.ensures)

pub overflow_sub-to : goal.overflow_sub-to
overflow_sub-to c = start_le c.loop-i.invariant.1

pub returns : goal.returns
returns c =
    let l = c.loop-i in
    c.better_gap.ensures
    ∙ elim c.loop-i-test.branch [
      | then-loop-i-test+else-s-n e ↦ chunk_settled l.invariant.1 _ e.if-s-n.false
      | else-loop-i-test e ↦ chunk_done l.invariant.1 e.loop-i-test.false (omega arith)
    ]
