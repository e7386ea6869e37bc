-- `marked::reserve_swept` meets its contract. Assumes nothing.
use mathlib.Core.Path.{sym, ◌∙◌}
use Rattle.marked.proofs.ReserveLaws.{ready_ok, ready_low, ready_sound, coded_ready, coded_full}
use Rattle.marked.proofs.reserve_swept.Goals as goal

pub make_room-x-requires : goal.make_room-x-requires
make_room-x-requires c =
    let sound = c.requires.sound in let marks = c.requires.marks in let full = c.requires.full in record { sound = sound; plan = sym full }

pub returns-then-is_full : goal.returns-then-is_full
returns-then-is_full c =
    let sound = c.requires.sound in let marks = c.requires.marks in let full = c.requires.full in let left = c.make_room-x.ensures.left in let planned = c.make_room-x.ensures.plan in let both = coded_full _ _ sound _ marks left planned (sym c.is_full.ensures ∙ c.if-is_full.true) in record { given = both.0; marks = both.1 }

pub perform_plan-requires : goal.perform_plan-requires
perform_plan-requires c =
    let left = c.make_room-x.ensures.left in let planned = c.make_room-x.ensures.plan in ready_ok _ _ c.requires.sound _ left planned

pub invariant_of-pool : goal.invariant_of-pool
invariant_of-pool c =
    let left = c.make_room-x.ensures.left in let planned = c.make_room-x.ensures.plan in record { sound = ready_sound _ _ c.requires.sound _ left planned c.perform_plan.ensures }

pub build-requires : goal.build-requires
build-requires c = let marks = c.requires.marks in record { long = marks.cuts.long; wide = marks.wide }

pub code_of-requires : goal.code_of-requires
code_of-requires c =
    let left = c.make_room-x.ensures.left in let planned = c.make_room-x.ensures.plan in ready_low _ _ c.requires.sound _ left planned

pub returns : goal.returns
returns c =
    let left = c.make_room-x.ensures.left in let planned = c.make_room-x.ensures.plan in record { given = coded_ready _ _ c.requires.sound _ left planned c.perform_plan.ensures c.code_of.ensures; marks = c.build.ensures }
