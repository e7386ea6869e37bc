-- `admit::next_word` meets its contract. Assumes nothing.
use Rattle.admit.proofs.Steps.{after_zero, after_more}
use Rattle.admit.proofs.next_word.Goals as goal

pub returns-then-due-eq0 : goal.returns-then-due-eq0
returns-then-due-eq0 c = after_zero _ c.if-due-eq0.true

pub returns-else-due-eq0 : goal.returns-else-due-eq0
returns-else-due-eq0 c = after_more _ c.if-due-eq0.false
