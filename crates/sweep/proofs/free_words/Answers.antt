-- `sweep::free_words` meets its contract. Assumes nothing.
use native.Mathlib.Omega.{arith}
use mathlib.Core.Path.{◌∙◌}
use Rattle.sweep.proofs.FreeLaws.{word_kept, word_freed, freed_none, freed_more, freed_done}
use Rattle.sweep.proofs.free_words.Goals as goal
use Rattle.sweep.proofs.free_words.Goals.{then-w-i-eq1, else-w-i-eq1}

pub loop-i-init : goal.loop-i-init
loop-i-init c = freed_none _ _ _

pub loop-i-preserved : goal.loop-i-preserved
loop-i-preserved c =
    freed_more _ c.loop-i.invariant (omega arith)
    (elim c.if-w-i-eq1.branch [
      | then-w-i-eq1 x ↦ x.words-is ∙ word_kept _ _ _ x.if-w-i-eq1.true
      | else-w-i-eq1 x ↦ x.words-is ∙ word_freed _ _ _ x.if-w-i-eq1.false
    ])

pub returns : goal.returns
returns c = freed_done c.loop-i.invariant (omega arith) (omega arith)
