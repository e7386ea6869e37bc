-- `census::write_page` meets its contract. Assumes nothing.
use mathlib.Core.Path.{sym}
use native.Mathlib.Omega.{arith}
use Rattle.records.proofs.KindLaws.{others_bare}
use Rattle.records.proofs.RunLaws.{class_at_low, large_at_low}
use Rattle.records.proofs.AdmitLaws.{admitted}
use Rattle.blocks.proofs.PageLaws.{bare_blocks}
use Rattle.census.proofs.WriteLaws.{wrote_none, wrote_as, room_as}
use Rattle.census.proofs.PartLaws.{page_slots, page_run}
use Rattle.census.proofs.write_page.Goals as goal

pub write_slots-requires : goal.write_slots-requires
write_slots-requires c =
    let sound = c.args.pool.now.sound in let inside = c.requires.inside in let room = c.requires.room in
    let s = (admitted _ _ sound).shape in record { low = omega arith; long = omega arith; class = class_at_low _ _ _ (sym c.in-Class.ensures); room = room_as _ _ (page_slots _ _ _ c.in-Class.ensures) room }

pub returns-in-Class : goal.returns-in-Class
returns-in-Class c =
    wrote_as c.write_slots.ensures (page_slots _ _ _ c.in-Class.ensures)

pub overflow_mul-g : goal.overflow_mul-g
overflow_mul-g c =
    let sound = c.args.pool.now.sound in let inside = c.requires.inside in let room = c.requires.room in
    let s = (admitted _ _ sound).shape in
    omega arith

pub overflow_add-n : goal.overflow_add-n
overflow_add-n c =
    let m = large_at_low _ _ _ (sym c.in-Large.ensures) in
    omega arith

pub overflow_mul-n : goal.overflow_mul-n
overflow_mul-n c =
    let m = large_at_low _ _ _ (sym c.in-Large.ensures) in
    omega arith

pub write_block-requires : goal.write_block-requires
write_block-requires c =
    let sound = c.args.pool.now.sound in let inside = c.requires.inside in let room = c.requires.room in
    room_as _ _ (page_run _ _ _ c.in-Large.ensures) room

pub returns-in-Large : goal.returns-in-Large
returns-in-Large c =
    wrote_as c.write_block.ensures (page_run _ _ _ c.in-Large.ensures)

pub returns-in_default : goal.returns-in_default
returns-in_default c =
    wrote_none _ _ _ (bare_blocks _ _ _ c.kind_at.ensures (others_bare _ c.in_default.not-Large c.in_default.not-Class))
