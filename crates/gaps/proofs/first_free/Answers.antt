-- `gaps::first_free` meets its contract. The loop's invariant: the search from word i on finds what the whole one finds.
-- Assumes nothing.
use native.Mathlib.Omega.{arith}
use Rattle.gaps.specs.Gaps.{barred}
use Rattle.gaps.proofs.Chunks.{free_start, free_turn, free_found, free_none}
use Rattle.gaps.proofs.first_free.Goals as goal

pub loop-i-init : goal.loop-i-init
loop-i-init c = (omega arith, free_start _ _)

pub returns-then-t-lt64 : goal.returns-then-t-lt64
returns-then-t-lt64 c =
    let l = c.loop-i in
    let start = c.args in
    free_found (barred start.bits.now start.k) start.k l.i _ _ l.invariant.1 (omega arith) c.page_word-w.ensures
    c.first_zero-t.ensures (omega arith)

pub loop-i-preserved : goal.loop-i-preserved
loop-i-preserved c =
    let l = c.loop-i in
    let start = c.args in (
      omega arith,
      free_turn (barred start.bits.now start.k) start.k l.i _ _ l.invariant.1 (omega arith) c.page_word-w.ensures
          c.first_zero-t.ensures (omega arith),
    )

pub returns : goal.returns
returns c =
    let start = c.args in
    free_none (barred start.bits.now start.k) start.k c.loop-i.i (omega arith) c.loop-i.invariant.1
