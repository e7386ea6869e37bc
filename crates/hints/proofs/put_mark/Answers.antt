-- `hints::put_mark` meets its contract. Assumes nothing.
use Rattle.hints.proofs.RowLaws.{mark_put}
use Rattle.hints.proofs.put_mark.Goals as goal

pub returns : goal.returns
returns c = mark_put _ _ _ c.put_bit.ensures c.put_bit-2.ensures
