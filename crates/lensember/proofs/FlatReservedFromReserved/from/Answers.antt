-- `lensember::FlatReserved::from` meets its contract. Assumes nothing.
use Rattle.lensember.proofs.FlatLaws.{flat_as_lem}
use Rattle.lensember.proofs.FlatReservedFromReserved.from.Goals as goal

pub returns-in-Slot : goal.returns-in-Slot
returns-in-Slot c = flat_as_lem c.args.r c.in-Slot.is

pub returns-in-Run : goal.returns-in-Run
returns-in-Run c = flat_as_lem c.args.r c.in-Run.is

pub returns-in-None : goal.returns-in-None
returns-in-None c = flat_as_lem c.args.r c.in-None.is
