-- `lensember::lensember_sweep` meets its contract. Assumes nothing.
use mathlib.Core.Path.{◌∙◌}
use Rattle.refusals.proofs.CallLaws.{refused, served}
use Rattle.sweep.specs.Sweep.{sweep_of}
use Rattle.lensember.proofs.lensember_sweep.Goals as goal

pub returns-then-a-ne0 : goal.returns-then-a-ne0
unfolding sweep_of
returns-then-a-ne0 c = refused _ _ _ _ c.admit-a.ensures c.if-a-ne0.true

pub returns : goal.returns
unfolding sweep_of
returns c =
    c.sweep_sound.ensures ∙ served _ _ _ _ c.admit-a.ensures c.if-a-ne0.false
