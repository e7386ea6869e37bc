-- `next::slot_from` meets its contract. Assumes nothing.
use mathlib.Core.Path.{refl}
use native.Mathlib.Omega.{arith}
use Rattle.next.proofs.CallLaws.{slot_of}
use Rattle.classes.proofs.ClassLaws.{cut_some}
use Rattle.next.proofs.slot_from.Goals as goal

pub overflow_sub-result : goal.overflow_sub-result
overflow_sub-result c = let z = cut_some c.class_row-row.ensures c.from-z.ensures c.requires.0 in omega arith

pub nonzero_div-result : goal.nonzero_div-result
nonzero_div-result c = cut_some c.class_row-row.ensures c.from-z.ensures c.requires.0

pub returns : goal.returns
returns c = slot_of _ _ c.class_row-row.ensures c.from-z.ensures c.requires.0 refl
