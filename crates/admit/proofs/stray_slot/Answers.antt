-- `admit::stray_slot` meets its contract. Assumes nothing.
use Rattle.std.proofs.Common.{arith}
use Rattle.records.proofs.SlotLaws.{all_none, slots_done}
use Rattle.admit.proofs.Clear.{stray_turn}
use Rattle.admit.proofs.stray_slot.Goals as goal

pub loop-j-init : goal.loop-j-init
loop-j-init c = all_none _

pub loop-j-preserved : goal.loop-j-preserved
loop-j-preserved c =
    stray_turn _ _ _ _ _ c.loop-j.acc c.requires.table c.requires.class (omega arith) (c.type_inv.slots _).fits c.loop-j.invariant

pub returns : goal.returns
returns c = slots_done _ _ _ c.loop-j.j c.loop-j.acc (omega arith) (omega arith) c.loop-j.invariant
