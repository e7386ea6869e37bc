-- A rule of a table, shown at all of its entries by one test that antt computes, one entry after the other.
-- Assumes nothing.
use mathlib.Core.Path.{◌≡◌, ◌∙◌, ap, subst, sym}
use mathlib.Core.Bool.{Bool, true, false, ◌&&◌}
use mathlib.Core.List.{List, [], ◌∷◌}
use Prim.Native.Nat.{ℕ, zero, suc, ◌+◌, ◌<◌}
use native.Mathlib.Nat.{add-zero, zero-add, add-suc, suc-add, le_of_suc-le-suc, not-suc-le-zero}
use lib.Dec.{T}
use lib.ListN.{length, get_or}
use Rattle.classes.specs.Classes.{tabled}

and_left : (a b : Bool) → T (a && b) → T a
and_left true b t = tt
and_left false b t = t

and_right : (a b : Bool) → T (a && b) → T b
and_right true b t = t
and_right false b t = absurd t

-- the test f passes at each entry of the list and its place, counted from i
abbrev pub every : {A : Type 0} → (ℕ → A → Bool) → ℕ → List A → Bool
every f i [] = true
every f i (x ∷ xs) = f i x && every f (suc i) xs

module _ {A : Type 0} (f : ℕ → A → Bool) (d : A) where
  from : (xs : List A) (i : ℕ) → T (every f i xs) → (k : ℕ) → k < length xs → T (f (i + k) (get_or xs k d))
  from [] i t k h = absurd (not-suc-le-zero h)
  from (x ∷ xs) i t zero h = subst (λ (m : ℕ). T (f m x)) (sym (add-zero i)) (and_left (f i x) (every f (suc i) xs) t)
  from (x ∷ xs) i t (suc k) h =
      subst (λ (m : ℕ). T (f m (get_or xs k d))) (suc-add i k ∙ sym (add-suc i k))
      (from xs (suc i) (and_right (f i x) (every f (suc i) xs) t) k (le_of_suc-le-suc h))

  pub at : (xs : List A) → T (every f 0 xs) → (k : ℕ) → k < length xs → T (f k (get_or xs k d))
  at xs t k h = subst (λ (m : ℕ). T (f m (get_or xs k d))) (zero-add k) (from xs 0 t k h)

-- ---- what f gives at m numbers from i on

tabled_at : (f : ℕ → ℕ) (m i k : ℕ) → k < m → get_or (tabled f i m) k 0 ≡ f (i + k)
tabled_at f zero i k h = absurd (not-suc-le-zero h)
tabled_at f (suc m) i zero h = ap f (sym (add-zero i))
tabled_at f (suc m) i (suc k) h = tabled_at f m (suc i) k (le_of_suc-le-suc h) ∙ ap f (suc-add i k ∙ sym (add-suc i k))

from_zero : (f : ℕ → ℕ) (m k : ℕ) → k < m → get_or (tabled f 0 m) k 0 ≡ f k
from_zero f m k h = tabled_at f m 0 k h ∙ ap f (zero-add k)

-- where f and g give the same m numbers from 0 on, they agree at each
pub same_at : (f g : ℕ → ℕ) (m : ℕ) → tabled f 0 m ≡ tabled g 0 m → (k : ℕ) → k < m → f k ≡ g k
same_at f g m e k h = sym (from_zero f m k h) ∙ ap (λ (l : List ℕ). get_or l k 0) e ∙ from_zero g m k h
