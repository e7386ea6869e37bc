-- `hints::set_mark` meets its contract. Assumes nothing.
use native.Mathlib.Omega.{arith}
use Rattle.hints.proofs.RowLaws.{mark_set, top_inside}
use Rattle.hints.proofs.set_mark.Goals as goal

pub bounds-row-t : goal.bounds-row-t
bounds-row-t c = let (long, low) = c.requires in top_inside c.args.row.now _ _ long (omega arith)

pub returns : goal.returns
returns c = let (long, low) = c.requires in mark_set c.args.row.now c.args.g long low
