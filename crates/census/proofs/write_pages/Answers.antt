-- `census::write_pages` meets its contract. Assumes nothing.
use native.Mathlib.Omega.{arith}
use Rattle.records.proofs.AdmitLaws.{admitted}
use Rattle.census.proofs.WriteLaws.{writing_none, writing_all}
use Rattle.census.proofs.PartLaws.{page_room_lem, page_on}
use Rattle.blocks.proofs.PageLaws.{from_start, from_over}
use Rattle.census.proofs.write_pages.Goals as goal

pub overflow_mul-g-end : goal.overflow_mul-g-end
overflow_mul-g-end c = let h = (admitted _ _ c.args.pool.now.sound).shape in omega arith

pub loop-g-init : goal.loop-g-init
loop-g-init c = writing_none _ _ _ _ (from_start _ _)

pub write_page-i-requires : goal.write_page-i-requires
write_page-i-requires c =
    record { inside = c.loop-g-test.true; room = page_room_lem _ _ c.loop-g.invariant c.loop-g-test.true (omega (arith, c.requires)) }

pub loop-g-preserved : goal.loop-g-preserved
loop-g-preserved c = page_on _ _ c.loop-g.invariant c.loop-g-test.true c.write_page-i.ensures

pub shape_of-room : goal.shape_of-room
shape_of-room c = c.loop-g.invariant.long

pub returns : goal.returns
returns c = (writing_all c.loop-g.invariant (from_over _ _ _ c.loop-g-test.false)).text
