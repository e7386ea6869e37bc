-- `gaps::page_word` meets its contract.
-- Assumes nothing.
use native.Mathlib.Omega.{arith}
use Rattle.gaps.proofs.Chunks.{word_first, word_later}
use Rattle.gaps.proofs.page_word.Goals as goal

pub returns-then-i-eq0 : goal.returns-then-i-eq0
returns-then-i-eq0 c =
    let start = c.args in word_first start.bits.now start.k (omega arith) start.i c.if-i-eq0.true

pub returns-else-i-eq0 : goal.returns-else-i-eq0
returns-else-i-eq0 c =
    let start = c.args in word_later start.bits.now start.k (omega arith) start.i c.if-i-eq0.false
