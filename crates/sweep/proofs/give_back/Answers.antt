-- `sweep::give_back` meets its contract. Assumes nothing.
use native.Mathlib.Omega.{arith}
use Rattle.records.proofs.AdmitLaws.{admitted}
use Rattle.blocks.proofs.KeepLaws.{admit_good}
use Rattle.sweep.proofs.SpareLaws.{giving_none, giving_on, giving_stays, giving_done}
use Rattle.sweep.proofs.give_back.Goals as goal
use Rattle.sweep.proofs.give_back.Goals.{then-bits-k, else-bits-k}

pub overflow_mul-n : goal.overflow_mul-n
overflow_mul-n c = let l = (admitted _ _ c.requires.sound).shape in omega arith

pub loop-k-init : goal.loop-k-init
loop-k-init c = ((admitted _ _ c.requires.sound).shape.few, giving_none _ _)

pub bounds-bits-k : goal.bounds-bits-k
bounds-bits-k c = let l = (admitted _ _ c.requires.sound).shape in omega arith

pub free_64-requires : goal.free_64-requires
free_64-requires c = let l = (admitted _ _ c.requires.sound).shape in (omega arith, omega arith)

pub bounds-bits-k-then-bits-k : goal.bounds-bits-k-then-bits-k
bounds-bits-k-then-bits-k c = let l = (admitted _ _ c.requires.sound).shape in omega arith

pub loop-k-preserved : goal.loop-k-preserved
loop-k-preserved c =
    let (few, f) = c.loop-k.invariant in
    let good = admit_good _ _ c.requires.sound in
    let x = c.requires.spare.words c.loop-k.k (omega arith) in (
      few,
      elim c.if-bits-k.branch [
        | then-bits-k z ↦ rw (z.bits-is, z.words-is) (giving_on good f (omega arith) x z.free_64.ensures)
        | else-bits-k z ↦ rw (z.bits-is, z.words-is) (giving_stays good f (omega arith) x z.if-bits-k.false)
      ],
    )

pub returns : goal.returns
returns c = giving_done (admit_good _ _ c.requires.sound) c.loop-k.invariant.1 (omega arith)
