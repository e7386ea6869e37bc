-- `reserve::has_slot` meets its contract. Assumes nothing.
use native.Mathlib.Omega.{arith}
use mathlib.Core.Path.{◌∙◌}
use Rattle.records.proofs.AdmitLaws.{admitted}
use Rattle.reserve.proofs.PlanLaws.{class_few, has_not, has_by_slot}
use Rattle.reserve.proofs.has_slot.Goals as goal

pub lowest_free-requires : goal.lowest_free-requires
lowest_free-requires c =
    let s = (admitted _ _ c.args.pool.now.sound).shape in
    record { low = omega arith; long = omega arith; count = c.requires.count; few = class_few c.requires.class c.requires.count }

pub returns-then-is_run_of : goal.returns-then-is_run_of
returns-then-is_run_of c = has_by_slot _ _ _ c.is_run_of.ensures c.if-is_run_of.true c.requires.count c.lowest_free.ensures

pub returns-else-is_run_of : goal.returns-else-is_run_of
returns-else-is_run_of c = c.if-is_run_of.false ∙ has_not _ _ _ c.is_run_of.ensures c.if-is_run_of.false
