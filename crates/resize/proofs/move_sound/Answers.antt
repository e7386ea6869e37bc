-- `resize::move_sound` meets its contract. Assumes nothing.
use Rattle.blocks.proofs.KeepLaws.{good_admit}
use Rattle.resize.proofs.Forms.{move_refused, move_good, move_served}
use Rattle.resize.proofs.move_sound.Goals as goal

pub returns-then-r-ne0 : goal.returns-then-r-ne0
returns-then-r-ne0 c =
    move_refused _ _ c.requires _ c.reserve_sound-r.ensures _ _
    c.if-r-ne0.true c.refused.ensures

pub release_sound-requires : goal.release_sound-requires
release_sound-requires c =
    good_admit _ _ (move_good _ _ c.requires _
    c.reserve_sound-r.ensures c.if-r-ne0.false)

pub returns : goal.returns
returns c =
    move_served _ _ c.requires _ c.reserve_sound-r.ensures
    c.if-r-ne0.false _ _ c.release_sound.ensures
    c.moved.ensures
