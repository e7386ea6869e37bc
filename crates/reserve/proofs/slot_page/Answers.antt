-- `reserve::slot_page` meets its contract. Assumes nothing.
use mathlib.Core.Path.{◌∙◌, refl}
use native.Mathlib.Omega.{arith}
use Rattle.records.proofs.AdmitLaws.{admitted}
use Rattle.reserve.proofs.PlanLaws.{passed_none, passed_on, passed_at, passed_all}
use Rattle.reserve.proofs.slot_page.Goals as goal

pub overflow_mul-end : goal.overflow_mul-end
overflow_mul-end c = let s = (admitted _ _ c.args.pool.now.sound).shape in omega arith

pub loop-g-init : goal.loop-g-init
loop-g-init c = (refl, passed_none _ _ _)

pub has_slot-requires : goal.has_slot-requires
has_slot-requires c = record { inside = omega arith; class = c.requires.class; count = c.requires.count }

pub returns-then-has_slot : goal.returns-then-has_slot
returns-then-has_slot c = passed_at c.loop-g.invariant.1 (omega arith) c.has_slot.ensures c.if-has_slot.true

pub loop-g-preserved : goal.loop-g-preserved
loop-g-preserved c = (c.loop-g.invariant.0, passed_on c.loop-g.invariant.1 (omega arith) c.has_slot.ensures c.if-has_slot.false)

pub returns : goal.returns
returns c = c.loop-g.invariant.0 ∙ passed_all c.loop-g.invariant.1 (omega arith)
