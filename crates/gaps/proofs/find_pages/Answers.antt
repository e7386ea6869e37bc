-- `gaps::find_pages` meets its contract. The loop's invariant: no gap is found so far, and the chunks from k on give what all chunks give.
-- Assumes nothing.
use native.Mathlib.Omega.{arith}
use Rattle.gaps.proofs.Choice.{len_of, sought_start, sought_turn, sought_at, sought_none}
use Rattle.gaps.proofs.find_pages.Goals as goal
use Rattle.gaps.proofs.find_pages.Goals.{else-loop-k-test, then-loop-k-test+then-best-lt512}

pub loop-k-init : goal.loop-k-init
loop-k-init c = sought_start _ _ _

pub loop-k-preserved : goal.loop-k-preserved
loop-k-preserved c = sought_turn _ _ _ _ _ _ (omega arith) c.best_in_chunk-best.ensures c.loop-k.invariant (omega arith)

pub returns-then-best-lt512-2 : goal.returns-then-best-lt512-2
returns-then-best-lt512-2 c =
    elim c.loop-k-test.branch [
      | else-loop-k-test w ↦ absurd (omega (arith, len_of c.loop-k.invariant.none, len_of w.best-is))
      | then-loop-k-test+then-best-lt512 w ↦ rw w.best-is (sought_at _ _ _ _ _ _ (omega arith) w.best_in_chunk-best.ensures c.loop-k.invariant (omega arith))
    ]

pub returns-else-best-lt512-2 : goal.returns-else-best-lt512-2
returns-else-best-lt512-2 c =
    elim c.loop-k-test.branch [
      | else-loop-k-test w ↦ sought_none _ _ _ _ _ (omega arith) c.loop-k.invariant
      | then-loop-k-test+then-best-lt512 w ↦ absurd (omega (arith, len_of w.best-is))
    ]
