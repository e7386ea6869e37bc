-- `cells::run_cell` meets its contract. Assumes nothing.
use native.Mathlib.Omega.{arith}
use Rattle.cells.proofs.CellLaws.{run_shown, run_slots, run_most}
use Rattle.cells.proofs.run_cell.Goals as goal

pub count_bits-n-requires : goal.count_bits-n-requires
count_bits-n-requires c = let s = run_slots _ c.requires.class c.class_row-row.ensures c.from-s.ensures in (omega arith, omega arith)

pub level_of-t-requires : goal.level_of-t-requires
level_of-t-requires c =
    let s = run_slots _ c.requires.class c.class_row-row.ensures c.from-s.ensures in
    record { order = run_most _ _ c.count_bits-n.ensures; some = s.0; few = s.1 }

pub returns : goal.returns
returns c =
    let t = c.level_of-t.ensures in (
      run_shown _ _ _ c.class_row-row.ensures c.from-s.ensures c.count_bits-n.ensures t.0 c.level_mark.ensures c.from.ensures,
      omega arith,
      t.1,
    )
