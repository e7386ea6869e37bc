-- `next::next_sound` meets its contract. Assumes nothing.
use mathlib.Core.Path.{sym}
use native.Mathlib.Omega.{arith}
use Rattle.classes.proofs.ClassLaws.{cut, cut_few, cut_offset}
use Rattle.records.proofs.AdmitLaws.{admitted}
use Rattle.records.proofs.KindLaws.{others_bare}
use Rattle.records.proofs.RunLaws.{class_at_low, large_at_low}
use Rattle.next.proofs.StartLaws.{none_outside}
use Rattle.next.proofs.CallLaws.{bare_first, large_first, over_first, slots_dropped, slot_first}
use Rattle.next.proofs.AheadLaws.{next_low, nothing_left, block_found, slots_passed, free_passed, edge_passed}
use Rattle.next.proofs.next_sound.Goals.{in-Class+else-loop-slot-test, in_default}
use Rattle.next.proofs.next_sound.Goals as goal

pub overflow_mul-pool : goal.overflow_mul-pool
overflow_mul-pool c = let s = (admitted _ _ c.args.pool.now.sound).shape in omega arith

pub returns-then-pool-q : goal.returns-then-pool-q
returns-then-pool-q c = none_outside _ _ c.args.pool.now.sound _ c.if-pool-q.true

pub overflow_mul-g : goal.overflow_mul-g
overflow_mul-g c = let s = (admitted _ _ c.args.pool.now.sound).shape in omega arith

pub overflow_add-g : goal.overflow_add-g
overflow_add-g c = let s = (admitted _ _ c.args.pool.now.sound).shape in omega arith

pub overflow_mul-found : goal.overflow_mul-found
overflow_mul-found c = let s = (admitted _ _ c.args.pool.now.sound).shape in omega arith

pub overflow_add-found : goal.overflow_add-found
overflow_add-found c = let l = large_at_low _ _ _ (sym c.in-Large.ensures) in omega arith

pub overflow_mul-found-in-Large : goal.overflow_mul-found-in-Large
overflow_mul-found-in-Large c = let l = large_at_low _ _ _ (sym c.in-Large.ensures) in omega arith

pub class_row-row-requires : goal.class_row-row-requires
class_row-row-requires c = class_at_low _ _ _ (sym c.in-Class.ensures)

pub overflow_mul-g-in-loop-slot : goal.overflow_mul-g-in-loop-slot
overflow_mul-g-in-loop-slot c = let s = (admitted _ _ c.args.pool.now.sound).shape in omega arith

pub overflow_add-g-in-loop-slot : goal.overflow_add-g-in-loop-slot
overflow_add-g-in-loop-slot c =
    let s = (admitted _ _ c.args.pool.now.sound).shape in
    let f = cut_few (cut c.class_row-row.ensures c.from-z.ensures c.from-n.ensures) in omega arith

pub overflow_mul-g-in-loop-slot-2 : goal.overflow_mul-g-in-loop-slot-2
overflow_mul-g-in-loop-slot-2 c = let s = (admitted _ _ c.args.pool.now.sound).shape in omega arith

pub overflow_add-g-in-loop-slot-2 : goal.overflow_add-g-in-loop-slot-2
overflow_add-g-in-loop-slot-2 c =
    let s = (admitted _ _ c.args.pool.now.sound).shape in
    let f = cut_few (cut c.class_row-row.ensures c.from-z.ensures c.from-n.ensures) in omega arith

pub next_bit-requires : goal.next_bit-requires
next_bit-requires c =
    let s = (admitted _ _ c.args.pool.now.sound).shape in
    let f = cut_few (cut c.class_row-row.ensures c.from-z.ensures c.from-n.ensures) in
    record { order = omega arith; long = omega arith; low = omega arith }

pub overflow_mul-slot : goal.overflow_mul-slot
overflow_mul-slot c = let s = (admitted _ _ c.args.pool.now.sound).shape in omega arith

pub overflow_sub-slot : goal.overflow_sub-slot
overflow_sub-slot c = let l = (next_low _ _ _ _ (omega arith) c.next_bit.ensures).0 in omega arith

pub overflow_mul-found-then-slot-n : goal.overflow_mul-found-then-slot-n
overflow_mul-found-then-slot-n c = let s = (admitted _ _ c.args.pool.now.sound).shape in omega arith

pub overflow_add-found-then-slot-n : goal.overflow_add-found-then-slot-n
overflow_add-found-then-slot-n c =
    let s = (admitted _ _ c.args.pool.now.sound).shape in
    let o = cut_offset (cut c.class_row-row.ensures c.from-z.ensures c.from-n.ensures) c.if-slot-n.true in omega arith

pub loop-slot-preserved : goal.loop-slot-preserved
loop-slot-preserved c =
    slots_passed c.loop-slot.invariant (omega arith)
    (slots_dropped _ _ _ c.in-Class.ensures (cut c.class_row-row.ensures c.from-z.ensures c.from-n.ensures) c.loop-slot-test.true c.next_bit.ensures)

pub overflow_add-g-in-loop-page : goal.overflow_add-g-in-loop-page
overflow_add-g-in-loop-page c = let s = (admitted _ _ c.args.pool.now.sound).shape in omega arith

pub overflow_mul-chunk : goal.overflow_mul-chunk
overflow_mul-chunk c = let s = (admitted _ _ c.args.pool.now.sound).shape in omega arith

pub overflow_add-chunk : goal.overflow_add-chunk
overflow_add-chunk c = let s = (admitted _ _ c.args.pool.now.sound).shape in omega arith

pub next_bit-requires-in-loop-page : goal.next_bit-requires-in-loop-page
next_bit-requires-in-loop-page c =
    let s = (admitted _ _ c.args.pool.now.sound).shape in record { order = omega arith; long = omega arith; low = omega arith }

pub overflow_mul-page-in-loop-page : goal.overflow_mul-page-in-loop-page
overflow_mul-page-in-loop-page c = let s = (admitted _ _ c.args.pool.now.sound).shape in omega arith

pub overflow_sub-page-in-loop-page : goal.overflow_sub-page-in-loop-page
overflow_sub-page-in-loop-page c = let l = (next_low _ _ _ _ (omega arith) c.next_bit-in-loop-page.ensures).0 in omega arith

pub loop-page-smaller : goal.loop-page-smaller
loop-page-smaller c = let r = next_low _ _ _ _ (omega arith) c.next_bit-in-loop-page.ensures in let low = r.0 in let high = r.1 in omega arith

pub loop-page-preserved : goal.loop-page-preserved
loop-page-preserved c =
    let r = next_low _ _ _ _ (omega arith) c.next_bit-in-loop-page.ensures in let low = r.0 in let high = r.1 in
    record {
      some = omega arith;
      few = omega arith;
      ahead = elim c.match-kind_at.branch [
        | in-Class+else-loop-slot-test w ↦ free_passed w.loop-slot.invariant (omega arith) c.args.pool.now.sound
            (over_first _ _ _ w.in-Class.ensures (cut w.class_row-row.ensures w.from-z.ensures w.from-n.ensures) w.loop-slot-test.false)
            (omega arith) (omega arith) c.next_bit-in-loop-page.ensures (omega arith)
        | in_default w ↦ free_passed c.loop-page.invariant.ahead (omega arith) c.args.pool.now.sound
            (bare_first _ _ _ c.kind_at.ensures (others_bare _ w.in_default.not-Large w.in_default.not-Class))
            (omega arith) (omega arith) c.next_bit-in-loop-page.ensures (omega arith)
      ];
    }

pub search-preserved : goal.search-preserved
search-preserved c =
    record {
      inside = omega arith;
      some = omega arith;
      few = omega arith;
      ahead = edge_passed c.args.pool.now.sound c.loop-page.invariant.ahead (omega arith) (omega arith);
    }

pub returns-then-chunk-chunks : goal.returns-then-chunk-chunks
returns-then-chunk-chunks c = nothing_left c.search.invariant.ahead (omega arith)

pub returns-in-Large : goal.returns-in-Large
returns-in-Large c = block_found c.loop-page.invariant.ahead (omega arith) (large_first _ _ _ c.in-Large.ensures)

pub returns-then-slot-n : goal.returns-then-slot-n
returns-then-slot-n c =
    block_found c.loop-slot.invariant (omega arith)
    (slot_first _ _ _ c.in-Class.ensures (cut c.class_row-row.ensures c.from-z.ensures c.from-n.ensures) c.loop-slot-test.true c.next_bit.ensures
    c.if-slot-n.true)
