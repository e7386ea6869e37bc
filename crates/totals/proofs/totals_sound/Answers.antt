-- `totals::totals_sound` meets its contract. Assumes nothing.
use mathlib.Core.Path.{refl}
use native.Mathlib.Omega.{arith}
use Rattle.records.proofs.AdmitLaws.{admitted}
use Rattle.totals.proofs.PageLaws.{free_read, totals_made}
use Rattle.totals.proofs.totals_sound.Goals as goal

pub overflow_mul-n : goal.overflow_mul-n
overflow_mul-n c = let s = (admitted _ _ c.args.pool.now.sound).shape in omega arith

pub count_bits-taken-requires : goal.count_bits-taken-requires
count_bits-taken-requires c = let s = (admitted _ _ c.args.pool.now.sound).shape in (omega arith, omega arith)

pub overflow_sub-result : goal.overflow_sub-result
overflow_sub-result c =
    let h = free_read _ _ c.args.pool.now.sound _ _ refl c.count_bits-taken.ensures in omega arith

pub returns : goal.returns
returns c =
    let h = free_read _ _ c.args.pool.now.sound _ _ refl c.count_bits-taken.ensures in
    totals_made _ _ c.live_amount-t.ensures (omega arith)
