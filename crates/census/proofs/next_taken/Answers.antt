-- `census::next_taken` meets its contract. Assumes nothing.
use Rattle.census.proofs.PartLaws.{next_high, next_some, next_none}
use Rattle.census.proofs.next_taken.Goals as goal

pub overflow_sub-r : goal.overflow_sub-r
overflow_sub-r c = next_high _ _ _ _ _ c.requires.order c.next_bit.ensures

pub returns-then-r-n : goal.returns-then-r-n
returns-then-r-n c = next_some _ _ _ _ _ c.requires.order c.next_bit.ensures c.if-r-n.true

pub returns-else-r-n : goal.returns-else-r-n
returns-else-r-n c = next_none _ _ _ _ _ c.requires.order c.next_bit.ensures c.if-r-n.false
