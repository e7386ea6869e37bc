-- `blockbytes::part_of` meets its contract. Assumes nothing.
use mathlib.Core.Path.{◌∙◌}
use Rattle.release.proofs.GiveLaws.{size_refused, size_served}
use Rattle.blockbytes.proofs.PartLaws.{part_unfit, part_refused, part_served}
use Rattle.blockbytes.proofs.part_of.Goals as goal

pub returns-then-not-ear_fits : goal.returns-then-not-ear_fits
returns-then-not-ear_fits c = c.refused.ensures ∙ part_unfit _ _ _ _ _ _ c.ear_fits.ensures c.if-not-ear_fits.true

pub returns-then-a-ne0 : goal.returns-then-a-ne0
returns-then-a-ne0 c =
    c.refused-then-a-ne0.ensures
    ∙ part_refused _ _ _ _ _ _ c.ear_fits.ensures c.if-not-ear_fits.false
    (size_refused _ _ _ _ c.admit-a.ensures c.if-a-ne0.true) c.if-a-ne0.true

pub returns-then-s-ne0 : goal.returns-then-s-ne0
returns-then-s-ne0 c =
    c.refused-then-s-ne0.ensures
    ∙ part_refused _ _ _ _ _ _ c.ear_fits.ensures c.if-not-ear_fits.false
    (size_served _ _ _ _ c.admit-a.ensures c.if-a-ne0.false c.size_sound-s.ensures) c.if-s-ne0.true

pub returns : goal.returns
returns c =
    part_served _ _ _ _ _ _ c.ear_fits.ensures c.if-not-ear_fits.false
    (size_served _ _ _ _ c.admit-a.ensures c.if-a-ne0.false c.size_sound-s.ensures) c.if-s-ne0.false
