-- `sweep::idle_page` meets its contract. Assumes nothing.
use mathlib.Core.Path.{◌∙◌}
use Rattle.sweep.proofs.MaskLaws.{idle_is}
use Rattle.sweep.proofs.idle_page.Goals as goal

pub returns : goal.returns
returns c = c.from.ensures ∙ idle_is _ _ (λ j. (c.type_inv.slots j).fits) c.any_slot.ensures
