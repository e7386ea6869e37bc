-- `totals::live_amount` meets its contract. Assumes nothing.
use native.Mathlib.Omega.{arith}
use Rattle.records.proofs.AdmitLaws.{admitted}
use Rattle.totals.proofs.AmountLaws.{counted_start, counted_on, counted_done, bounded}
use Rattle.totals.proofs.live_amount.Goals as goal

pub overflow_mul-g-end : goal.overflow_mul-g-end
overflow_mul-g-end c = let s = (admitted _ _ c.args.pool.now.sound).shape in omega arith

pub loop-g-init : goal.loop-g-init
loop-g-init c = counted_start _ _

pub overflow_add-blocks : goal.overflow_add-blocks
overflow_add-blocks c =
    let b = bounded _ _ c.args.pool.now.sound in let s = (admitted _ _ c.args.pool.now.sound).shape in
    let o = counted_on c.loop-g.invariant c.loop-g-test.true c.page_amount-t.ensures in let a = o.number in omega arith

pub overflow_add-bytes : goal.overflow_add-bytes
overflow_add-bytes c =
    let b = bounded _ _ c.args.pool.now.sound in let s = (admitted _ _ c.args.pool.now.sound).shape in
    let o = counted_on c.loop-g.invariant c.loop-g-test.true c.page_amount-t.ensures in let a = o.sum in omega arith

pub loop-g-preserved : goal.loop-g-preserved
loop-g-preserved c = counted_on c.loop-g.invariant c.loop-g-test.true c.page_amount-t.ensures

pub returns : goal.returns
returns c = counted_done c.loop-g.invariant c.loop-g-test.false
