-- `blocks::put_slot` meets its contract. Assumes nothing.
use Rattle.blocks.proofs.StoreForms.{slot_stored}
use Rattle.blocks.proofs.put_slot.Goals as goal

pub returns : goal.returns
returns c = slot_stored _ _ _ _ _ c.put_bit.ensures
