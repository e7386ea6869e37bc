-- `sweep::swept_bits` meets its contract. Assumes nothing.
use native.Mathlib.Omega.{arith}
use Rattle.records.proofs.AdmitLaws.{admitted}
use Rattle.blocks.proofs.KeepLaws.{admit_good}
use Rattle.sweep.proofs.SpareLaws.{sparing_none, sparing_on, sparing_few, sparing_done}
use Rattle.sweep.proofs.swept_bits.Goals as goal

pub overflow_mul-n : goal.overflow_mul-n
overflow_mul-n c = let l = (admitted _ _ c.args.pool.now.sound).shape in omega arith

pub loop-k-init : goal.loop-k-init
loop-k-init c = ((admitted _ _ c.args.pool.now.sound).shape.few, sparing_none _ _ _ c.requires)

pub empty_64-x-requires : goal.empty_64-x-requires
empty_64-x-requires c = record { inside = omega arith; last = c.loop-k.invariant.1.end }

pub bounds-bits-k : goal.bounds-bits-k
bounds-bits-k c = let l = (admitted _ _ c.args.pool.now.sound).shape in omega arith

pub overflow_cast-pages : goal.overflow_cast-pages
overflow_cast-pages c = let s = sparing_few c.loop-k.invariant.1 c.empty_64-x.result.mask (omega arith) in omega arith

pub overflow_add-pages : goal.overflow_add-pages
overflow_add-pages c = let s = sparing_few c.loop-k.invariant.1 c.empty_64-x.result.mask (omega arith) in omega arith

pub loop-k-preserved : goal.loop-k-preserved
loop-k-preserved c =
    let (few, f) = c.loop-k.invariant in (
      few,
      sparing_on (admit_good _ _ c.args.pool.now.sound) few (λ j. (c.type_inv.bits j).fits) f (omega arith) c.empty_64-x.ensures (omega arith),
    )

pub returns : goal.returns
returns c =
    let both = sparing_done (admit_good _ _ c.args.pool.now.sound) c.loop-k.invariant.1 (omega arith) (omega arith) in record { spare = both.0; pages = both.1 }
