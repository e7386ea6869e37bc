-- `lensember::lensember_resize` meets its contract. Assumes nothing.
use Rattle.resize.proofs.MeanLaws.{resize_refused, resize_served}
use Rattle.lensember.proofs.lensember_resize.Goals as goal

pub returns-then-a-ne0 : goal.returns-then-a-ne0
returns-then-a-ne0 c =
    resize_refused _ _ _ _ _ c.admit-a.ensures c.if-a-ne0.true c.refused.ensures

pub returns : goal.returns
returns c =
    resize_served _ _ _ _ _ c.admit-a.ensures c.if-a-ne0.false c.resize_sound.ensures
