-- The list of a chunk's gaps: each of it is a gap, the first pages rise, and no gap is missed.
-- Assumes nothing.
use mathlib.Core.Path.{◌≡◌, sym, ap₂, subst}
use mathlib.Core.Logic.{◌⊎◌, inl, inr, ⊎_elim}
use mathlib.Core.List.{List, [], ◌∷◌, Memᴰ}
use Prim.Native.Nat.{ℕ, zero, suc, ◌+◌, ◌-◌, ◌*◌, ◌≤◌, ◌<◌}
use native.Mathlib.Nat.{le_refl, le_trans, eq-or-lt_of_le}
use native.Mathlib.Omega.{arith}
use Rattle.bitrow.specs.Row.{bit_at}
use Rattle.bitrow.proofs.Rows.{lt_or_ge}
use Rattle.gaps.specs.declared.Gap.{Gap}
use Rattle.gaps.specs.Gaps.{gap, with_gap, gaps_from, gaps_of, IsGap}
use Rattle.gaps.proofs.Scan.{gaps_free, gaps_taken, gaps_cases}

-- ---- membership, by cases of the list

abbrev pub In : Gap → List Gap → Type 0
In x [] = ⊥
In x (y ∷ ys) = (x ≡ y) ⊎ In x ys

pub in_mem : (x : Gap) (l : List Gap) → In x l → Memᴰ x l
in_mem x [] i = absurd i
in_mem x (y ∷ ys) (inl e) = Memᴰ.head e
in_mem x (y ∷ ys) (inr i) = Memᴰ.tail (in_mem x ys i)

pub mem_in : {x : Gap} {l : List Gap} → Memᴰ x l → In x l
mem_in (Memᴰ.head e) = inl e
mem_in (Memᴰ.tail m) = inr (mem_in m)

-- ---- each of the list is a gap, and their first pages rise

-- the l pages before page g are free, and the page before them is taken or page 0 of chunk k
record Open (bits : List ℕ) (k g l : ℕ) : Type 0 where
  fits : 512 * k + 1 + l ≤ g
  free : (i : ℕ) → g ≤ i + l → i < g → bit_at bits i ≡ 0
  before : 512 * k + 1 + l < g → bit_at bits (g - l - 1) ≡ 1

-- gaps at page a or behind it, and each behind the one before
pub data Row (bits : List ℕ) (k : ℕ) : ℕ → List Gap → Type 0 where
  none : {a : ℕ} → Row bits k a []
  more : {a : ℕ} {x : Gap} {xs : List Gap} → IsGap bits k x → a ≤ x.at → Row bits k x.at xs → Row bits k a (x ∷ xs)

lower : {bits : List ℕ} {k a b : ℕ} {xs : List Gap} → Row bits k b xs → a ≤ b → Row bits k a xs
lower none l = none
lower (more is low r) l = more is (le_trans l low) r

pub row_each : {bits : List ℕ} {k a : ℕ} {xs : List Gap} → Row bits k a xs → (y : Gap) → In y xs → IsGap bits k y × (a ≤ y.at)
row_each none y i = absurd i
row_each (more is low r) y (inl e) = rw e (is, low)
row_each (more is low r) y (inr i) = let (gap, high) = row_each r y i in (gap, omega arith)

module _ (bits : List ℕ) (k : ℕ) where
  -- the open gap ends before page g
  ended : (g l : ℕ) → Open bits k g (suc l) → g ≤ 512 * k + 512 → (g < 512 * k + 512 → bit_at bits g ≡ 1)
      → IsGap bits k (gap (g - suc l) (suc l))
  ended g l o h t =
      let f = o.fits in
      let e : g - suc l + suc l ≡ g = omega arith in
      record {
        some = omega arith;
        low = omega arith;
        high = omega arith;
        free = λ i a b. o.free i (omega arith) (omega arith);
        before = λ a. o.before (omega arith);
        after = λ a. subst (λ (x : ℕ). bit_at bits x ≡ 1) (sym e) (t (omega arith));
      }

  -- with a free page more it stays open
  longer : (g l : ℕ) → Open bits k g l → bit_at bits g ≡ 0 → Open bits k (g + 1) (l + 1)
  longer g l o e = record {
    fits = omega (arith, o.fits);
    free = λ i a b. ⊎_elim (λ z. o.free i (omega arith) z) (λ z. subst (λ (x : ℕ). bit_at bits x ≡ 0) (same i z b) e) (lt_or_ge i g);
    before = λ a. subst (λ (x : ℕ). bit_at bits x ≡ 1) back (o.before (omega arith));
  }
    where
      same : (i : ℕ) → g ≤ i → i < g + 1 → g ≡ i
      same i a b = omega arith

      back : g - l - 1 ≡ g + 1 - (l + 1) - 1
      back = omega arith

  -- behind a taken page none is open
  anew : (g : ℕ) → 512 * k + 1 ≤ g → bit_at bits g ≡ 1 → Open bits k (g + 1) 0
  anew g h e = record {
    fits = omega arith;
    free = λ i a b. absurd (omega arith);
    before = λ a. subst (λ (x : ℕ). bit_at bits x ≡ 1) back e;
  }
    where
      back : g ≡ g + 1 - 0 - 1
      back = omega arith

  row_with : (g l : ℕ) {others : List Gap} → Open bits k g l → g ≤ 512 * k + 512 → (g < 512 * k + 512 → bit_at bits g ≡ 1)
      → Row bits k g others → Row bits k (g - l) (with_gap (g - l) l others)
  row_with g zero o h t r = lower r (omega arith)
  row_with g (suc l) o h t r = more (ended g l o h t) (le_refl _) (lower r (omega arith))

  row_from : (m g l : ℕ) → g + m ≡ 512 * k + 512 → Open bits k g l → Row bits k (g - l) (gaps_from bits g m l)
  unfolding gaps_from
  row_from zero g l e o = row_with g l o (omega arith) (λ a. absurd (omega arith)) none
  row_from (suc m) g l e o =
      gaps_cases bits (Row bits k (g - l)) g m l
      (λ z. lower (row_from m (g + 1) (l + 1) (omega arith) (longer g l o z)) (omega (arith, o.fits)))
      (λ z. row_with g l o (omega arith) (λ a. z)
      (lower (row_from m (g + 1) 0 (omega arith) (anew g (omega (arith, o.fits)) z)) (omega arith)))

  pub gaps_row : Row bits k (512 * k + 1) (gaps_of bits k)
  unfolding gaps_of
  gaps_row =
      lower (row_from 511 (512 * k + 1) 0 (omega arith)
      (record { fits = omega arith; free = λ j a b. absurd (omega arith); before = λ a. absurd (omega arith) })) (omega arith)

-- ---- each gap is in the list

in_with : (a l : ℕ) (others : List Gap) (x : Gap) → In x others → In x (with_gap a l others)
in_with a zero others x i = i
in_with a (suc l) others x i = inr i

in_head : (a l : ℕ) (others : List Gap) (x : Gap) → x.at ≡ a → x.len ≡ l → 1 ≤ l → In x (with_gap a l others)
in_head a zero others x p q h = absurd (omega arith)
in_head a (suc l) others x p q h = inl (ap₂ gap p q)

module _ (bits : List ℕ) (k : ℕ) (x : Gap) (is : IsGap bits k x) where
  -- the l pages right before g are those of the gap, or the gap comes behind g
  complete_from : (m g l : ℕ) → g + m ≡ 512 * k + 512 → 512 * k + 1 ≤ g
      → ((x.at + l ≡ g) × (g ≤ x.at + x.len)) ⊎ (g < x.at) → In x (gaps_from bits g m l)
  unfolding gaps_from
  complete_from zero g l e h (inl p) =
      in_head (g - l) l [] x (omega (arith, p.0)) (omega (arith, p.0, p.1, is.high)) (omega (arith, p.0, p.1, is.high, is.some))
  complete_from zero g l e h (inr p) = absurd (omega (arith, is.high, is.some))
  complete_from (suc m) g l e h (inl p) =
      ⊎_elim
      (λ z. subst (In x) (sym (gaps_free bits g m l (is.free g (omega (arith, p.0)) z)))
      (complete_from m (g + 1) (l + 1) (omega arith) (omega arith) (inl (omega (arith, p.0), omega arith))))
      (λ z. subst (In x) (sym (gaps_taken bits g m l (subst (λ (y : ℕ). bit_at bits y ≡ 1) (stop z) (is.after (omega arith)))))
      (in_head (g - l) l (gaps_from bits (g + 1) m 0) x (omega (arith, p.0)) (omega (arith, p.0, stop z)) (omega (arith, p.0, stop z, is.some))))
      (lt_or_ge g (x.at + x.len))
    where
      stop : x.at + x.len ≤ g → x.at + x.len ≡ g
      stop z = omega (arith, p.1)
  complete_from (suc m) g l e h (inr p) =
      gaps_cases bits (In x) g m l
      (λ z. complete_from m (g + 1) (l + 1) (omega arith) (omega arith) (⊎_elim (λ q. absurd (omega (arith, last q))) (λ q. inr q) next))
      (λ z. in_with (g - l) l (gaps_from bits (g + 1) m 0) x
      (complete_from m (g + 1) 0 (omega arith) (omega arith) (⊎_elim (λ q. inl (omega arith, omega arith)) (λ q. inr q) next)))
    where
      next : (g + 1 ≡ x.at) ⊎ (g + 1 < x.at)
      next = eq-or-lt_of_le (omega arith)

      last : g + 1 ≡ x.at → bit_at bits g ≡ 1
      last q =
          let back : x.at - 1 ≡ g = omega arith in
          subst (λ (y : ℕ). bit_at bits y ≡ 1) back (is.before (omega arith))

  pub gap_listed : In x (gaps_of bits k)
  unfolding gaps_of
  gap_listed =
      complete_from 511 (512 * k + 1) 0 (omega arith) (omega arith)
      (⊎_elim (λ e. inl (omega arith, omega arith)) (λ l. inr l) (eq-or-lt_of_le is.low))
