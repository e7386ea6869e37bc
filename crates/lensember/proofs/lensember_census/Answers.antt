-- `lensember::lensember_census` meets its contract. Assumes nothing.
use mathlib.Core.Path.{◌∙◌}
use Rattle.refusals.proofs.CallLaws.{refused, served}
use Rattle.census.specs.Census.{census_of}
use Rattle.lensember.proofs.lensember_census.Goals as goal

pub returns-then-a-ne0 : goal.returns-then-a-ne0
unfolding census_of
returns-then-a-ne0 c = refused _ _ _ _ c.admit-a.ensures c.if-a-ne0.true

pub returns : goal.returns
unfolding census_of
returns c =
    c.census_sound.ensures ∙ served _ _ _ _ c.admit-a.ensures c.if-a-ne0.false
