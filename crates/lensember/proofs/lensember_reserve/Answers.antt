-- `lensember::lensember_reserve` meets its contract. Assumes nothing.
use mathlib.Core.Path.{◌∙◌}
use Rattle.refusals.proofs.CallLaws.{refused, served}
use Rattle.reserve.specs.Reserve.{reserve_of}
use Rattle.lensember.proofs.FlatLaws.{answer_as, reserved_as}
use Rattle.lensember.proofs.lensember_reserve.Goals as goal

pub returns-then-a-ne0 : goal.returns-then-a-ne0
unfolding reserve_of
returns-then-a-ne0 c =
    answer_as _ c.from.ensures c.refused.ensures (refused _ _ _ _ c.admit-a.ensures c.if-a-ne0.true)

pub returns : goal.returns
unfolding reserve_of
returns c =
    reserved_as _ c.from-2.ensures
    (c.reserve_sound.ensures ∙ served _ _ _ _ c.admit-a.ensures c.if-a-ne0.false)
