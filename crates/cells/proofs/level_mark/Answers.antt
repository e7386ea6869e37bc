-- `cells::level_mark` meets its contract. Assumes nothing.
use Rattle.cells.proofs.CellLaws.{mark_digit, mark_full}
use Rattle.cells.proofs.level_mark.Goals as goal

pub returns-then-t-lt10 : goal.returns-then-t-lt10
returns-then-t-lt10 c = mark_digit _ c.if-t-lt10.true

pub returns-else-t-lt10 : goal.returns-else-t-lt10
returns-else-t-lt10 c = mark_full _ c.if-t-lt10.false
