-- Laws of the search in a row of bits: it goes a word at a time, and finds the first place.
-- Assumes nothing.
use Rattle.std.proofs.Common.{◌≡◌, ℕ, zero, suc, ◌+◌, ◌-◌, ◌/◌, ◌%◌, ◌^◌, ◌<◌, ◌≤◌, min, Bool, cond, eqb, ◌⊎◌, List, get_or, sym, refl, ap, ◌∙◌, subst, ap₂, inl, inr, ⊎_elim, add-zero, add-sub_of_le, eq-zero-or-pos, suc-add, eq-or-lt_of_le, zero-add, arith, eq-eqb, ne_eqb}
use Rattle.bitrow.specs.Row.{bit, bit_at, next_bit, Lowest}
use Rattle.bitrow.proofs.Words.{bit_shr, bit_le, v_or_other}

pub lt_or_ge : (m n : ℕ) → (m < n) ⊎ (n ≤ m)
lt_or_ge m n = ⊎_elim (λ e. inr (omega arith)) (λ e. inl (omega arith)) (eq-zero-or-pos (n - m))

-- a place lies among the n places from i on, or before or behind them
pub in_or_out : (i n j : ℕ) → ((i ≤ j) × (j < i + n)) ⊎ ((j < i) ⊎ (i + n ≤ j))
in_or_out i n j = ⊎_elim (λ a. inr (inl a)) (λ a. ⊎_elim (λ b. inl (a, b)) (λ b. inr (inr b)) (lt_or_ge j (i + n))) (lt_or_ge j i)

pub bit_at_le : (ws : List ℕ) (i : ℕ) → bit_at ws i ≤ 1
unfolding bit_at
bit_at_le ws i = bit_le (get_or ws (i / 64) 0) (i % 64)

-- what is left of the word of place q, from q on
abbrev pub rest : List ℕ → ℕ → ℕ
rest ws q = get_or ws (q / 64) 0 / 2 ^ (q % 64)

-- its bits are the row's
pub bit_rest : (ws : List ℕ) (q j : ℕ) → q % 64 + j < 64 → bit_at ws (q + j) ≡ bit (rest ws q) j
unfolding bit_at
bit_rest ws q j l =
    let same : (q + j) / 64 ≡ q / 64 = omega arith in
    let low : (q + j) % 64 ≡ q % 64 + j = omega arith in
    ap₂ (λ (a b : ℕ). bit (get_or ws a 0) b) same low ∙ sym (bit_shr (get_or ws (q / 64) 0) (q % 64) j)

-- ---- the definition, read forwards

-- j places whose bit is not v are passed
next_skip : (v j : ℕ) (ws : List ℕ) (i m : ℕ) → v < 2 → ((k : ℕ) → i ≤ k → k < i + j → bit_at ws k ≡ 1 - v)
    → next_bit v ws i (j + m) ≡ next_bit v ws (i + j) m
unfolding next_bit
next_skip v zero ws i m d h = ap₂ (λ (x y : ℕ). next_bit v ws x y) (sym (add-zero i)) (zero-add m)
next_skip v (suc j) ws i m d h =
    let at = h i (omega arith) (omega arith) in
    let next : i + 1 + j ≡ i + suc j = omega arith in
    ap (λ (x : ℕ). next_bit v ws i x) (suc-add j m)
    ∙ ap (λ (b : Bool). cond b i (next_bit v ws (i + 1) (j + m))) (ne_eqb (bit_at ws i) v (λ e. omega arith))
    ∙ next_skip v j ws (i + 1) m d (λ k a b. h k (omega arith) (omega arith))
    ∙ ap (λ (x : ℕ). next_bit v ws x m) next

-- the search stops where the bit is v, and where no place is left
next_here : (v : ℕ) (ws : List ℕ) (i m : ℕ) → (0 < m → bit_at ws i ≡ v) → next_bit v ws i m ≡ i
unfolding next_bit
next_here v ws i zero h = refl
next_here v ws i (suc m) h = ap (λ (b : Bool). cond b i (next_bit v ws (i + 1) m)) (eq-eqb (bit_at ws i) v (h (omega arith)))

-- ---- a turn of the loop, which may end behind `to`: t is the place of the lowest bit v in what is left of q's word

-- the search from q on, and `to` where q lies behind it
abbrev pub next_from : ℕ → List ℕ → ℕ → ℕ → ℕ
next_from v ws q to = next_bit v ws (min q to) (to - q)

pub next_from_lem : (v : ℕ) (ws : List ℕ) (q to : ℕ) → q ≤ to → next_from v ws q to ≡ next_bit v ws q (to - q)
next_from_lem v ws q to l = ap (λ (x : ℕ). next_bit v ws x (to - q)) (omega arith)

pub next_end : (v : ℕ) (ws : List ℕ) (q to : ℕ) → to ≤ q → next_from v ws q to ≡ to
next_end v ws q to l = next_here v ws (min q to) (to - q) (λ h. absurd (omega arith)) ∙ omega arith

module _ (v : ℕ) (ws : List ℕ) (q to t : ℕ) (v01 : v < 2) (room : q < to) (f : Lowest 64 (rest ws q) v t) where
  passed : (e : ℕ) → e ≤ t → q % 64 + e ≤ 64 → (i : ℕ) → q ≤ i → i < q + e → bit_at ws i ≡ 1 - v
  passed e a b i x y =
      subst (λ (z : ℕ). bit_at ws z ≡ 1 - v) (add-sub_of_le x) (bit_rest ws q (i - q) (omega arith) ∙ f.below (i - q) (omega arith))

  -- e places of the word are passed, and those of them behind `to` do not count
  skip : (e : ℕ) → e ≤ t → q % 64 + e ≤ 64 → next_from v ws q to ≡ next_from v ws (q + e) to
  skip e a b =
      let d : ℕ = min e (to - q) in
      let whole : to - q ≡ d + (to - (q + e)) = omega arith in
      let there : q + d ≡ min (q + e) to = omega arith in
      next_from_lem v ws q to (omega arith) ∙ ap (next_bit v ws q) whole
      ∙ next_skip v d ws q (to - (q + e)) v01 (passed d (omega arith) (omega arith))
      ∙ ap (λ (x : ℕ). next_bit v ws x (to - (q + e))) there

  pub next_inside : t < 64 - q % 64 → next_from v ws q to ≡ min (q + t) to
  next_inside h =
      skip t (omega arith) (omega arith)
      ∙ next_here v ws (min (q + t) to) (to - (q + t))
      (λ l. ap (bit_at ws) (omega arith) ∙ bit_rest ws q t (omega arith) ∙ f.here (omega arith))

  pub next_passed : 64 - q % 64 ≤ t → next_from v ws q to ≡ next_from v ws (q + (64 - q % 64)) to
  next_passed h = skip (64 - q % 64) h (omega arith)

-- ---- what the definition finds

-- r is the first place in from..to whose bit is v, or to where there is none
pub record First (ws : List ℕ) (from to v r : ℕ) : Type 0 where
  pub low : from ≤ r
  pub high : r ≤ to
  pub below : (i : ℕ) → from ≤ i → i < r → bit_at ws i ≡ 1 - v
  pub here : r < to → bit_at ws r ≡ v

first_of : (n : ℕ) (ws : List ℕ) (i v : ℕ) → v < 2 → First ws i (i + n) v (next_bit v ws i n)
unfolding next_bit
first_of zero ws i v d =
    record { low = omega arith; high = omega arith; below = λ k a b. absurd (omega arith); here = λ l. absurd (omega arith) }
first_of (suc n) ws i v d =
    ⊎_elim found (behind (first_of n ws (i + 1) v d)) (v_or_other v (bit_at ws i) d (omega (arith, bit_at_le ws i)))
  where
    later : ℕ
    later = next_bit v ws (i + 1) n

    Goal : Bool → Type 0
    Goal b = First ws i (i + suc n) v (cond b i later)

    found : bit_at ws i ≡ v → Goal (eqb (bit_at ws i) v)
    found e =
        subst Goal (sym (eq-eqb (bit_at ws i) v e))
        (record { low = omega arith; high = omega arith; below = λ k a b. absurd (omega arith); here = λ _. e })

    behind : First ws (i + 1) (i + 1 + n) v later → bit_at ws i ≡ 1 - v → Goal (eqb (bit_at ws i) v)
    behind f e =
        subst Goal (sym (ne_eqb (bit_at ws i) v (λ z. omega arith)))
        (record {
          low = omega (arith, f.low);
          high = omega (arith, f.high);
          below = λ k a b. ⊎_elim (λ z. subst (λ (x : ℕ). bit_at ws x ≡ 1 - v) z e) (λ z. f.below k (omega arith) b) (eq-or-lt_of_le a);
          here = λ l. f.here (omega arith);
        })

pub next_first : (ws : List ℕ) (from to v : ℕ) → v < 2 → from ≤ to → First ws from to v (next_bit v ws from (to - from))
next_first ws from to v d l =
    subst (λ (e : ℕ). First ws from e v (next_bit v ws from (to - from))) (add-sub_of_le l) (first_of (to - from) ws from v d)

pub first_at : (ws : List ℕ) (from to v r : ℕ) → v < 2 → from ≤ to → r ≡ next_bit v ws from (to - from) → First ws from to v r
first_at ws from to v r d l e = subst (First ws from to v) (sym e) (next_first ws from to v d l)
