-- `classes::class_row` meets its contract: the constant rows are those of RULES 2.1.
-- Assumes nothing.
use borrow.Author.Rules.{rules}
use Rattle.classes.specs.Classes.{rows, row_at}
use Rattle.classes.proofs.class_row.Goals as goal

pub returns : goal.returns
unfolding rows row_at
returns c = search rules
