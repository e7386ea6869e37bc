-- `text::put_filled` meets its contract. Assumes nothing.
use Rattle.text.proofs.TextLaws.{filling_next, filling_done}
use Rattle.text.proofs.put_filled.Goals as goal

pub loop-b-preserved : goal.loop-b-preserved
loop-b-preserved c =
    filling_next c.loop-b.invariant c.loop-b-test.true c.seen.ensures c.number_at-n.ensures
    c.put_piece-j.ensures c.shows_after-v.ensures c.number_takes-k.ensures.0 c.number_takes-k.ensures.1

pub returns-clause-appends : goal.returns-clause-appends
returns-clause-appends c = (filling_done c.loop-b.invariant c.loop-b-test.false).0
