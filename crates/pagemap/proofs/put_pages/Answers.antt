-- `pagemap::put_pages` meets its contract. Assumes nothing.
use native.Mathlib.Omega.{arith}
use Rattle.records.proofs.AdmitLaws.{admitted}
use Rattle.pagemap.proofs.DrawLaws.{drawing_first, drawing_kept, drawing_done, drawing_room, drawing_next}
use Rattle.pagemap.proofs.put_pages.Goals as goal

pub overflow_mul-g-end : goal.overflow_mul-g-end
overflow_mul-g-end c = let s = (admitted _ _ c.args.pool.now.sound).shape in omega arith

pub loop-g-init : goal.loop-g-init
loop-g-init c = drawing_first

pub page_cell-last-requires : goal.page_cell-last-requires
page_cell-last-requires c = record { inside = c.loop-g-test.true; level = c.loop-g.invariant.level }

pub put_page-i-requires : goal.put_page-i-requires
put_page-i-requires c =
    let s = (admitted _ _ c.args.pool.now.sound).shape in
    let p = c.page_cell-last.ensures in
    record { room = drawing_room c.loop-g.invariant c.loop-g-test.true c.requires; low = omega arith; joined = p.1; level = p.2 }

pub loop-g-preserved : goal.loop-g-preserved
loop-g-preserved c =
    drawing_next c.loop-g.invariant c.loop-g-test.true c.page_cell-last.ensures c.put_page-i.ensures.text c.put_page-i.ensures.room

pub shape_of-out : goal.shape_of-out
shape_of-out c = drawing_kept c.loop-g.invariant

pub returns : goal.returns
returns c =
    let both = drawing_done c.loop-g.invariant c.loop-g-test.false in record { text = both.0; room = both.1 }
