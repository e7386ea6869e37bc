-- `resize::resize_sound` meets its contract. Assumes nothing.
use Rattle.records.specs.Calls.{admit_of}
use mathlib.Core.Path.{◌∙◌, ap}
use Rattle.resize.proofs.Forms.{resize_over, still_there, resize_moves}
use Rattle.resize.proofs.resize_sound.Goals as goal

pub settle-requires : goal.settle-requires
settle-requires c = record { sound = c.requires; spot = c.spot_at-x.ensures }

pub returns-in-Over : goal.returns-in-Over
returns-in-Over c =
    let left = c.settle.ensures.left in let told = c.settle.ensures.told in
    resize_over _ _ _ _ c.spot_at-x.ensures left told c.in-Over.is

pub move_sound-requires : goal.move_sound-requires
move_sound-requires c =
    let left = c.settle.ensures.left in let told = c.settle.ensures.told in
    ap (admit_of _) (still_there _ _ _ _ c.spot_at-x.ensures left told
    c.in-Moving.is) ∙ c.requires

pub returns-in-Moving : goal.returns-in-Moving
returns-in-Moving c =
    let left = c.settle.ensures.left in let told = c.settle.ensures.told in
    resize_moves _ _ _ _ c.spot_at-x.ensures left told
    c.in-Moving.is c.move_sound.ensures
