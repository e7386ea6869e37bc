-- `lensember::lensember_totals` meets its contract. Assumes nothing.
use mathlib.Core.Path.{◌∙◌}
use Rattle.refusals.proofs.CallLaws.{refused, served}
use Rattle.totals.specs.Totals.{totals_of}
use Rattle.lensember.proofs.lensember_totals.Goals as goal

pub returns-then-a-ne0 : goal.returns-then-a-ne0
unfolding totals_of
returns-then-a-ne0 c = refused _ _ _ _ c.admit-a.ensures c.if-a-ne0.true

pub returns : goal.returns
unfolding totals_of
returns c =
    c.totals_sound.ensures ∙ served _ _ _ _ c.admit-a.ensures c.if-a-ne0.false
