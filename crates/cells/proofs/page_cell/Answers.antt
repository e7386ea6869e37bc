-- `cells::page_cell` meets its contract. Assumes nothing.
use mathlib.Core.Path.{sym}
use native.Mathlib.Omega.{arith}
use Rattle.records.specs.declared.Kind.TheVariants.{Edge, Free, Damaged, Large, Class, Inner}
use Rattle.records.proofs.RunLaws.{large_at_low, class_at_low}
use Rattle.records.proofs.AdmitLaws.{admitted}
use Rattle.cells.proofs.CellLaws.{shown, large_shown, behind_shown}
use Rattle.cells.proofs.page_cell.Goals as goal

pub returns-in-Edge : goal.returns-in-Edge
returns-in-Edge c = shown _ _ _ Edge c.in-Edge.ensures c.plain_cell.ensures

pub returns-in-Free : goal.returns-in-Free
returns-in-Free c = shown _ _ _ Free c.in-Free.ensures c.plain_cell-in-Free.ensures

pub returns-in-Damaged : goal.returns-in-Damaged
returns-in-Damaged c = shown _ _ _ Damaged c.in-Damaged.ensures c.plain_cell-in-Damaged.ensures

pub overflow_add-n : goal.overflow_add-n
overflow_add-n c = let k = large_at_low _ _ _ (sym c.in-Large.ensures) in omega arith

pub returns-in-Large : goal.returns-in-Large
returns-in-Large c = shown _ _ _ (Large _) c.in-Large.ensures (large_shown _ c.plain_cell-in-Large.ensures)

pub run_cell-requires : goal.run_cell-requires
run_cell-requires c =
    let s = (admitted _ _ c.args.pool.now.sound).shape in record { class = class_at_low _ _ _ (sym c.in-Class.ensures); long = omega arith; low = omega arith }

pub returns-in-Class : goal.returns-in-Class
returns-in-Class c = shown _ _ _ (Class _) c.in-Class.ensures c.run_cell.ensures

pub returns-in-Inner : goal.returns-in-Inner
returns-in-Inner c = shown _ _ _ (Inner _) c.in-Inner.ensures (behind_shown _ c.requires.level c.goes_on.ensures)
