-- `lensember::lensember_next` meets its contract. Assumes nothing.
use mathlib.Core.Path.{ap, ◌∙◌}
use Rattle.refusals.proofs.CallLaws.{refused, served}
use Rattle.next.specs.Next.{next_of, answer_of}
use Rattle.lensember.proofs.lensember_next.Goals as goal

pub returns-then-a-ne0 : goal.returns-then-a-ne0
unfolding next_of
returns-then-a-ne0 c = refused _ _ _ _ c.admit-a.ensures c.if-a-ne0.true

pub returns : goal.returns
unfolding next_of
returns c =
    c.answer_of.ensures ∙ ap answer_of c.next_sound.ensures ∙ served _ _ _ _ c.admit-a.ensures c.if-a-ne0.false
