-- Laws of the list of gaps and of the choice among them: pages that are alike are passed at once, and each gap is compared with the best
-- before it.
-- Assumes nothing.
use mathlib.Core.Path.{◌≡◌, refl, sym, ap, ap₂, ◌∙◌}
use mathlib.Core.Logic.{◌⊎◌, ⊎_elim}
use mathlib.Core.Bool.{Bool, cond, ◌&&◌}
use mathlib.Core.List.{List, [], ◌∷◌}
use Prim.Native.Nat.{ℕ, zero, suc, ◌+◌, ◌-◌, ◌≤◌, ◌<◌}
use native.Mathlib.Omega.{arith}
use borrow.Author.Tests.{le-leb, lt-leb, lt-ltb, le-ltb, eq-eqb, ne_eqb}
use lib.Dec.{ltb, lit<}
use Rattle.bitrow.specs.Row.{bit_at}
use Rattle.bitrow.proofs.Words.{v_or_other}
use Rattle.bitrow.proofs.Rows.{bit_at_le, lt_or_ge}
use Rattle.gaps.specs.declared.Gap.{Gap}
use Rattle.std.specs.Prelude.{Some, None}
use Rattle.gaps.specs.Gaps.{is_free, gap, with_gap, gaps_from, better, shortest, found_at}

pub free_or_taken : (bits : List ℕ) (g : ℕ) → (bit_at bits g ≡ 0) ⊎ (bit_at bits g ≡ 1)
free_or_taken bits g = v_or_other 0 (bit_at bits g) (lit< tt) (omega (arith, bit_at_le bits g))

module _ (bits : List ℕ) where
  -- one page, with l free ones before it
  pub gaps_free : (g m l : ℕ) → bit_at bits g ≡ 0 → gaps_from bits g (suc m) l ≡ gaps_from bits (g + 1) m (l + 1)
  unfolding gaps_from
  gaps_free g m l e = rw (eq-eqb (bit_at bits g) 0 e) refl

  pub gaps_taken : (g m l : ℕ) → bit_at bits g ≡ 1 → gaps_from bits g (suc m) l ≡ with_gap (g - l) l (gaps_from bits (g + 1) m 0)
  unfolding gaps_from
  gaps_taken g m l e = rw (ne_eqb (bit_at bits g) 0 (λ z. omega arith)) refl

  -- what holds of the list in both cases
  pub gaps_cases : (P : List Gap → Type 0) (g m l : ℕ) → (bit_at bits g ≡ 0 → P (gaps_from bits (g + 1) m (l + 1)))
      → (bit_at bits g ≡ 1 → P (with_gap (g - l) l (gaps_from bits (g + 1) m 0))) → P (gaps_from bits g (suc m) l)
  gaps_cases P g m l f t =
      ⊎_elim (λ z. rw (gaps_free g m l z) (f z)) (λ z. rw (gaps_taken g m l z) (t z)) (free_or_taken bits g)

-- rows with the same bits
module _ (bits bits' : List ℕ) where
  pub gaps_same : (m g l : ℕ) → ((i : ℕ) → g ≤ i → i < g + m → bit_at bits i ≡ bit_at bits' i) → gaps_from bits g m l ≡ gaps_from bits' g m l
  unfolding gaps_from
  gaps_same zero g l h = refl
  gaps_same (suc m) g l h =
      rw (
        h g (omega arith) (omega arith),
        gaps_same m (g + 1) (cond (is_free bits' g) (l + 1) 0) (λ i a b. h i (omega arith) (omega arith)),
      ) refl

-- ---- a gap is compared with the best before it

module _ (n : ℕ) (x best : Gap) where
  pub better_took : n ≤ x.len → x.len < best.len → better n x best ≡ x
  unfolding better
  better_took a b = ap₂ (λ (s t : Bool). cond (s && t) x best) (le-leb n x.len a) (lt-ltb x.len best.len b)

  pub better_short : x.len < n → better n x best ≡ best
  unfolding better
  better_short a = ap (λ (s : Bool). cond (s && ltb x.len best.len) x best) (lt-leb n x.len a)

  pub better_kept : n ≤ x.len → best.len ≤ x.len → better n x best ≡ best
  unfolding better
  better_kept a b = ap₂ (λ (s t : Bool). cond (s && t) x best) (le-leb n x.len a) (le-ltb x.len best.len b)

-- a gap in front is looked at first; where it has no pages it holds no run
pub shortest_with : (n a l : ℕ) (best : Gap) (others : List Gap) → 1 ≤ n
    → shortest n best (with_gap a l others) ≡ shortest n (better n (gap a l) best) others
unfolding shortest
shortest_with n a zero best others h = ap (λ (b : Gap). shortest n b others) (sym (better_short n (gap a 0) best h))
shortest_with n a (suc l) best others h = refl

-- a gap of n pages stays the best: none that holds n is shorter
pub better_exact : (n : ℕ) (x best : Gap) → best.len ≡ n → better n x best ≡ best
better_exact n x best e = ⊎_elim (λ a. better_short n x best a) (λ a. better_kept n x best a (omega arith)) (lt_or_ge x.len n)

pub shortest_exact : (n : ℕ) (best : Gap) (xs : List Gap) → best.len ≡ n → shortest n best xs ≡ best
unfolding shortest
shortest_exact n best [] e = refl
shortest_exact n best (x ∷ xs) e = ap (λ (b : Gap). shortest n b xs) (better_exact n x best e) ∙ shortest_exact n best xs e

-- ---- what the best gap gives

module _ (best : Gap) where
  pub found_at_lem : best.len < 512 → found_at best ≡ Some best.at
  found_at_lem l = ap (λ (b : Bool). cond b (Some best.at) None) (lt-ltb best.len 512 l)

  pub found_nothing : 512 ≤ best.len → found_at best ≡ None
  found_nothing l = ap (λ (b : Bool). cond b (Some best.at) None) (le-ltb best.len 512 l)
