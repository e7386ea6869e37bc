-- `census::write_slots` meets its contract. Assumes nothing.
use native.Mathlib.Omega.{arith}
use Rattle.census.proofs.WriteLaws.{writing_none, writing_all}
use Rattle.classes.proofs.ClassLaws.{cut, cut_few, cut_offset}
use Rattle.census.proofs.PartLaws.{slots_start, slot_room, slot_on, slots_over}
use Rattle.census.proofs.write_slots.Goals as goal

pub loop-s-init : goal.loop-s-init
loop-s-init c =
    let k = cut c.class_row-row.ensures c.from-size.ensures c.from-n.ensures in
    record { order = omega arith; cut = k; writes = writing_none _ _ _ _ (slots_start _ _ _ k) }

pub next_taken-requires : goal.next_taken-requires
next_taken-requires c =
    let i = c.loop-s.invariant in record { low = c.requires.low; long = c.requires.long; order = i.order; few = cut_few i.cut }

pub overflow_mul-s : goal.overflow_mul-s
overflow_mul-s c = let m = cut_offset c.loop-s.invariant.cut c.in-Some.ensures.high in omega arith

pub overflow_add-g : goal.overflow_add-g
overflow_add-g c = let m = cut_offset c.loop-s.invariant.cut c.in-Some.ensures.high in omega arith

pub write_block-k-requires : goal.write_block-k-requires
write_block-k-requires c =
    let i = c.loop-s.invariant in slot_room _ _ _ i.cut i.writes c.in-Some.ensures c.requires.room

pub overflow_add-from : goal.overflow_add-from
overflow_add-from c = let l = c.in-Some.ensures.high in omega arith

pub loop-s-smaller : goal.loop-s-smaller
loop-s-smaller c = let t = c.in-Some.ensures in omega arith

pub loop-s-preserved : goal.loop-s-preserved
loop-s-preserved c =
    let i = c.loop-s.invariant in let t = c.in-Some.ensures in
    record { order = omega arith; cut = i.cut; writes = slot_on _ _ _ i.cut i.writes t c.write_block-k.ensures }

pub shape_of-room : goal.shape_of-room
shape_of-room c = c.loop-s.invariant.writes.long

pub returns : goal.returns
returns c = let i = c.loop-s.invariant in writing_all i.writes (slots_over _ _ _ _ c.in_default.not-Some i.order c.next_taken.ensures)
