-- A call behind a check whose answer is n. Assumes nothing.
use mathlib.Core.Path.{◌≡◌, refl, sym, ap, ◌∙◌}
use mathlib.Core.Logic.{◌≢◌}
use Prim.Native.Nat.{ℕ, zero, suc}
use mathlib.Core.Bool.{Bool, true, false}
use mathlib.Core.List.{List, ◌∷◌}
use native.Mathlib.Omega.{arith}
use Rattle.refusals.specs.Refusals.{Check, first_of, unless}

module _ {A : Type 0} (m n : ℕ) (refuse : ℕ → A) (work : A) where
  pub refused : n ≡ m → n ≢ 0 → refuse n ≡ unless m refuse work
  refused e z = go m e
    where
      go : (k : ℕ) → n ≡ k → refuse n ≡ unless k refuse work
      go zero f = absurd (z f)
      go (suc k) f = ap refuse f

  pub served : n ≡ m → n ≡ 0 → work ≡ unless m refuse work
  served e z = ap (λ (k : ℕ). unless k refuse work) (sym z ∙ e)

-- where no check refuses, the first one holds, and no later one refuses
pub first_holds : (b : Bool) (r : ℕ) (l : List Check) → first_of ((b, suc r) ∷ l) ≡ 0 → (b ≡ true) × (first_of l ≡ 0)
first_holds true r l e = (refl, e)
first_holds false r l e = Prim.absurd (omega arith)
