-- `admit::admit` meets its contract. Assumes nothing.
use mathlib.Core.Path.{◌∙◌, sym}
use mathlib.Core.Bool.{true, false}
use native.Mathlib.Omega.{arith}
use Rattle.records.proofs.AdmitLaws.{shaped_lengths, admit_unfit}
use Rattle.admit.proofs.PageLaws.{admit_says}
use Rattle.admit.proofs.admit.Goals as goal

pub returns-then-not-is_shaped : goal.returns-then-not-is_shaped
returns-then-not-is_shaped c = admit_unfit _ _ (sym c.is_shaped.ensures ∙ c.if-not-is_shaped.true)

pub overflow_mul-c : goal.overflow_mul-c
overflow_mul-c c =
    let l = shaped_lengths _ _ _ _ (sym c.is_shaped.ensures ∙ c.if-not-is_shaped.false) in omega arith

pub pages_sound-requires : goal.pages_sound-requires
pages_sound-requires c =
    let l = shaped_lengths _ _ _ _ (sym c.is_shaped.ensures ∙ c.if-not-is_shaped.false) in record { low = omega arith; bit = omega arith; word = omega arith; slot = omega arith }

pub returns-then-not-pages_sound : goal.returns-then-not-pages_sound
returns-then-not-pages_sound c =
    admit_says _ _ _ _ false c.is_shaped.ensures c.if-not-is_shaped.false
    c.pages_sound.ensures c.if-not-pages_sound.true

pub returns : goal.returns
returns c =
    admit_says _ _ _ _ true c.is_shaped.ensures c.if-not-is_shaped.false
    c.pages_sound.ensures c.if-not-pages_sound.false
