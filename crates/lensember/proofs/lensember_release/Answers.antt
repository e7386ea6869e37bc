-- `lensember::lensember_release` meets its contract. Assumes nothing.
use mathlib.Core.Path.{◌∙◌}
use Rattle.refusals.proofs.CallLaws.{refused, served}
use Rattle.release.specs.Release.{release_of}
use Rattle.lensember.proofs.lensember_release.Goals as goal

pub returns-then-a-ne0 : goal.returns-then-a-ne0
unfolding release_of
returns-then-a-ne0 c = refused _ _ _ _ c.admit-a.ensures c.if-a-ne0.true

pub returns : goal.returns
unfolding release_of
returns c =
    c.release_sound.ensures ∙ served _ _ _ _ c.admit-a.ensures c.if-a-ne0.false
