-- `sweep::empty_64` meets its contract. Assumes nothing.
use native.Mathlib.Omega.{arith}
use Rattle.records.proofs.AdmitLaws.{admitted}
use Rattle.sweep.proofs.MaskLaws.{marking_none, marking_on, marking_done}
use Rattle.sweep.proofs.empty_64.Goals as goal

pub loop-i-init : goal.loop-i-init
loop-i-init c = ((admitted _ _ c.args.pool.now.sound).shape.few, marking_none _ _ _ c.requires.last)

pub empty_page-last-requires : goal.empty_page-last-requires
empty_page-last-requires c = record { inside = omega arith; last = c.loop-i.invariant.1.end }

pub loop-i-preserved : goal.loop-i-preserved
loop-i-preserved c = let d = c.loop-i.invariant in (d.0, marking_on _ d.1 (omega arith) c.empty_page-last.ensures)

pub returns : goal.returns
returns c = marking_done c.loop-i.invariant.1 (omega arith) (omega arith)
