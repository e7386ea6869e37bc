-- Laws of tests: choices by a comparison, conjunctions, and tests of every number below a bound. Assumes nothing.
use mathlib.Core.Path.{◌≡◌, refl, sym, ap, ◌∙◌, subst}
use mathlib.Core.Logic.{◌≢◌, by_cases}
use mathlib.Core.Bool.{Bool, true, false, cond, ◌&&◌, false≢true}
use Prim.Native.Nat.{ℕ, zero, suc, ◌≤◌, ◌<◌}
use native.Mathlib.Decide.{ℕ_discrete, dec_lt, dec_le}
use native.Mathlib.Omega.{arith}
use lib.Dec.{eqb, ltb, leb}
use borrow.Author.Tests.{eq-eqb, ne_eqb, lt-ltb, le-ltb, le-leb, lt-leb}
use Rattle.records.specs.Sound.{all}

-- ---- choices by a comparison

module _ {A : Type 0} (a b : ℕ) (x y : A) where
  pub cond_eq : a ≡ b → cond (eqb a b) x y ≡ x
  cond_eq h = ap (λ (t : Bool). cond t x y) (eq-eqb a b h)

  pub cond_ne : a ≢ b → cond (eqb a b) x y ≡ y
  cond_ne h = ap (λ (t : Bool). cond t x y) (ne_eqb a b h)

  pub cond_lt : a < b → cond (ltb a b) x y ≡ x
  cond_lt h = ap (λ (t : Bool). cond t x y) (lt-ltb a b h)

  pub cond_nlt : b ≤ a → cond (ltb a b) x y ≡ y
  cond_nlt h = ap (λ (t : Bool). cond t x y) (le-ltb a b h)

  pub cond_le : a ≤ b → cond (leb a b) x y ≡ x
  cond_le h = ap (λ (t : Bool). cond t x y) (le-leb a b h)

  pub cond_nle : b < a → cond (leb a b) x y ≡ y
  cond_nle h = ap (λ (t : Bool). cond t x y) (lt-leb a b h)

-- what holds of both arms, each where it is taken, holds of the choice
module _ {A : Type 0} (P : A → Type 0) (a b : ℕ) {x y : A} where
  pub eq_cases : (a ≡ b → P x) → (a ≢ b → P y) → P (cond (eqb a b) x y)
  eq_cases f g =
      by_cases (ℕ_discrete a b) (λ h. subst P (sym (cond_eq a b x y h)) (f h)) (λ h. subst P (sym (cond_ne a b x y h)) (g h))

  pub lt_cases : (a < b → P x) → (b ≤ a → P y) → P (cond (ltb a b) x y)
  lt_cases f g =
      by_cases (dec_lt a b) (λ h. subst P (sym (cond_lt a b x y h)) (f h))
      (λ h. let k : b ≤ a = omega arith in subst P (sym (cond_nlt a b x y k)) (g k))

  pub le_cases : (a ≤ b → P x) → (b < a → P y) → P (cond (leb a b) x y)
  le_cases f g =
      by_cases (dec_le a b) (λ h. subst P (sym (cond_le a b x y h)) (f h))
      (λ h. let k : b < a = omega arith in subst P (sym (cond_nle a b x y k)) (g k))

-- ---- conjunctions

pub flag_eq : (a b : Bool) → (a ≡ true → b ≡ true) → (b ≡ true → a ≡ true) → a ≡ b
flag_eq true b f g = sym (f refl)
flag_eq false true f g = g refl
flag_eq false false f g = refl

pub and_made : (a b : Bool) → a ≡ true → b ≡ true → a && b ≡ true
and_made a b e f = rw (e, f) refl

pub and_left : (a b : Bool) → a && b ≡ true → a ≡ true
and_left true b e = refl
and_left false b e = e

pub and_right : (a b : Bool) → a && b ≡ true → b ≡ true
and_right true b e = e
and_right false b e = absurd (false≢true e)

-- ---- all numbers below a bound

pub all_at : (n : ℕ) (f : ℕ → Bool) → all n f ≡ true → (i : ℕ) → i < n → f i ≡ true
unfolding all
all_at zero f h i l = absurd (omega arith)
all_at (suc n) f h i l =
    by_cases (ℕ_discrete i n) (λ p. ap f p ∙ and_left (f n) (all n f) h) (λ p. all_at n f (and_right (f n) (all n f) h) i (omega arith))

pub all_of : (n : ℕ) (f : ℕ → Bool) → ((i : ℕ) → i < n → f i ≡ true) → all n f ≡ true
unfolding all
all_of zero f h = refl
all_of (suc n) f h = and_made (f n) (all n f) (h n (omega arith)) (all_of n f (λ i l. h i (omega arith)))
