-- `reserve::lowest_free` meets its contract. Assumes nothing.
use Rattle.reserve.proofs.PlanLaws.{free_is}
use Rattle.reserve.proofs.lowest_free.Goals as goal

pub overflow_sub-result : goal.overflow_sub-result
overflow_sub-result c = let low = c.requires.low in let long = c.requires.long in let count = c.requires.count in let few = c.requires.few in (free_is _ _ _ _ _ count c.next_bit.ensures).0

pub returns : goal.returns
returns c = let low = c.requires.low in let long = c.requires.long in let count = c.requires.count in let few = c.requires.few in (free_is _ _ _ _ _ count c.next_bit.ensures).1
