-- `classes::class_rows` meets its contract: the constant rows are those of RULES 2.1.
-- Assumes nothing.
use borrow.Author.Rules.{rules}
use Rattle.classes.specs.Classes.{rows}
use Rattle.classes.proofs.class_rows.Goals as goal

pub returns : goal.returns
unfolding rows
returns c = search rules
