-- `resize::fit_pages` meets its contract. Assumes nothing.
use mathlib.Core.Path.{refl, sym, ◌∙◌}
use mathlib.Core.Bool.{false≢true}
use native.Mathlib.Omega.{arith}
use borrow.Author.Tests.{lt-ltb}
use Rattle.resize.proofs.Forms.{pages_same, pages_fewer, pages_free, pages_taken}
use Rattle.resize.proofs.fit_pages.Goals as goal
use Rattle.resize.proofs.fit_pages.Goals.{then-j-k-2, else-j-k-2}

pub returns-then-j-k : goal.returns-then-j-k
returns-then-j-k c = pages_same _ _ _ _ c.if-j-k.true refl

pub returns-then-can_grow : goal.returns-then-can_grow
returns-then-can_grow c =
    elim c.if-j-k-2.branch [
      | then-j-k-2 w ↦ pages_fewer _ _ _ _ (omega arith)
      | else-j-k-2 w ↦ pages_free _ _ _ _ c.if-j-k.false (omega arith) w.can_grow.ensures (sym w.value-is ∙ c.if-can_grow.true)
    ]

pub returns-else-can_grow : goal.returns-else-can_grow
returns-else-can_grow c =
    elim c.if-j-k-2.branch [
      | then-j-k-2 w ↦ absurd (false≢true (sym c.if-can_grow.false ∙ w.value-is ∙ lt-ltb _ _ (omega arith)))
      | else-j-k-2 w ↦ pages_taken _ _ _ _ c.if-j-k.false (omega arith) w.can_grow.ensures (sym w.value-is ∙ c.if-can_grow.false) refl
    ]
