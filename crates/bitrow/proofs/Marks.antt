-- Laws of changed bits: of one place of a row, and of n places from i on.
-- Assumes nothing.
use Rattle.std.proofs.Common.{◌≡◌, ℕ, zero, suc, ◌+◌, ◌*◌, ◌/◌, ◌%◌, ◌<◌, ◌≤◌, true, false, eqb, ◌≢◌, ◌⊎◌, List, length, get_or, set, sym, refl, ap, ◌∙◌, inl, inr, ⊎_elim, add-zero, suc-add, eq-or-lt_of_le, zero-add, arith, length-set, get_or-set_other, get_or-set_same, eq-eqb, ne_eqb}
use native.Mathlib.Decide.{ℕ_discrete}
use Rattle.bitrow.specs.Row.{bit, bit_at, is_set, word_put, put_bit, put_bits}
use Rattle.bitrow.proofs.Masks.{put_same, put_other}

-- ---- the word of place i changed to x

module _ (ws : List ℕ) (i x : ℕ) (inside : i < 64 * length ws) where
  -- the places of that word have the bits of x
  pub set_near : (k : ℕ) → k / 64 ≡ i / 64 → bit_at (set ws (i / 64) x) k ≡ bit x (k % 64)
  unfolding bit_at
  set_near k e =
      ap (λ (u : ℕ). bit (get_or (set ws (i / 64) x) u 0) (k % 64)) e
      ∙ ap (λ (u : ℕ). bit u (k % 64)) (get_or-set_same ws (i / 64) x 0 (omega arith))

  -- a place keeps its bit where x has the bit that the word had
  pub set_kept : (k : ℕ) → (k / 64 ≡ i / 64 → bit x (k % 64) ≡ bit (get_or ws (i / 64) 0) (k % 64)) → bit_at (set ws (i / 64) x) k ≡ bit_at ws k
  unfolding bit_at
  set_kept k h =
      elim (ℕ_discrete (k / 64) (i / 64)) [
        | yes e ↦ set_near k e ∙ h e ∙ ap (λ (u : ℕ). bit (get_or ws u 0) (k % 64)) (sym e)
        | no d ↦ ap (λ (u : ℕ). bit u (k % 64)) (get_or-set_other ws (i / 64) (k / 64) x 0 d)
      ]

-- ---- one place

module _ (v : ℕ) (ws : List ℕ) (i : ℕ) where
  pub length_put_bit : length (put_bit v ws i) ≡ length ws
  unfolding put_bit
  length_put_bit = length-set ws (i / 64) (word_put v (get_or ws (i / 64) 0) (i % 64))

  module _ (v01 : v < 2) (inside : i < 64 * length ws) where
    pub put_bit_same : bit_at (put_bit v ws i) i ≡ v
    unfolding put_bit
    put_bit_same =
        set_near ws i (word_put v (get_or ws (i / 64) 0) (i % 64)) inside i refl
        ∙ put_same v (get_or ws (i / 64) 0) (i % 64) v01 (omega arith)

    pub put_bit_other : (j : ℕ) → j ≢ i → bit_at (put_bit v ws i) j ≡ bit_at ws j
    unfolding put_bit
    put_bit_other j d =
        set_kept ws i (word_put v (get_or ws (i / 64) 0) (i % 64)) inside j
        (λ e. put_other v (get_or ws (i / 64) 0) (i % 64) (j % 64) (omega arith) (omega arith) (λ f. d (omega arith)))

    pub is_set_same : is_set (put_bit v ws i) i ≡ eqb v 1
    unfolding is_set
    is_set_same = ap (λ (b : ℕ). eqb b 1) put_bit_same

    pub is_set_other : (j : ℕ) → j ≢ i → is_set (put_bit v ws i) j ≡ is_set ws j
    unfolding is_set
    is_set_other j d = ap (λ (b : ℕ). eqb b 1) (put_bit_other j d)

-- ---- n places

pub put_bits_none : (v : ℕ) (ws : List ℕ) (i n : ℕ) → n ≡ 0 → put_bits v ws i n ≡ ws
unfolding put_bits
put_bits_none v ws i n e = ap (λ (x : ℕ). put_bits v ws i x) e

-- some places, and then those behind them
pub put_bits_add : (m v : ℕ) (ws : List ℕ) (i n : ℕ) → put_bits v ws i (m + n) ≡ put_bits v (put_bits v ws i m) (i + m) n
unfolding put_bits
put_bits_add zero v ws i n =
    ap (λ (x : ℕ). put_bits v ws i x) (zero-add n) ∙ ap (λ (x : ℕ). put_bits v ws x n) (sym (add-zero i))
put_bits_add (suc m) v ws i n =
    let next : i + 1 + m ≡ i + suc m = omega arith in
    ap (λ (x : ℕ). put_bits v ws i x) (suc-add m n) ∙ put_bits_add m v (put_bit v ws i) (i + 1) n
    ∙ ap (λ (x : ℕ). put_bits v (put_bits v (put_bit v ws i) (i + 1) m) x n) next

pub length_put_bits : (v n : ℕ) (ws : List ℕ) (i : ℕ) → length (put_bits v ws i n) ≡ length ws
unfolding put_bits
length_put_bits v zero ws i = refl
length_put_bits v (suc n) ws i = length_put_bits v n (put_bit v ws i) (i + 1) ∙ length_put_bit v ws i

-- every other place keeps its bit
pub put_bits_out : (v n : ℕ) (ws : List ℕ) (i : ℕ) → v < 2 → i + n ≤ 64 * length ws
    → (j : ℕ) → (j < i) ⊎ (i + n ≤ j) → bit_at (put_bits v ws i n) j ≡ bit_at ws j
unfolding put_bits
put_bits_out v zero ws i h l j o = refl
put_bits_out v (suc n) ws i h l j o =
    put_bits_out v n (put_bit v ws i) (i + 1) h (omega (arith, length_put_bit v ws i)) j
    (⊎_elim (λ a. inl (omega arith)) (λ a. inr (omega arith)) o)
    ∙ put_bit_other v ws i h (omega arith) j (λ e. ⊎_elim (λ a. omega arith) (λ a. omega arith) o)

-- and each of the n places has v
pub put_bits_in : (v n : ℕ) (ws : List ℕ) (i : ℕ) → v < 2 → i + n ≤ 64 * length ws
    → (j : ℕ) → i ≤ j → j < i + n → bit_at (put_bits v ws i n) j ≡ v
unfolding put_bits
put_bits_in v zero ws i h l j a b = absurd (omega arith)
put_bits_in v (suc n) ws i h l j a b =
    ⊎_elim
    (λ e. put_bits_out v n (put_bit v ws i) (i + 1) h (omega (arith, length_put_bit v ws i)) j (inl (omega arith))
    ∙ ap (bit_at (put_bit v ws i)) (sym e) ∙ put_bit_same v ws i h (omega arith))
    (λ m. put_bits_in v n (put_bit v ws i) (i + 1) h (omega (arith, length_put_bit v ws i)) j (omega arith) (omega arith))
    (eq-or-lt_of_le a)

module _ (v n : ℕ) (ws : List ℕ) (i : ℕ) (v01 : v < 2) (room : i + n ≤ 64 * length ws) (j : ℕ) where
  pub is_set_in : i ≤ j → j < i + n → is_set (put_bits v ws i n) j ≡ eqb v 1
  unfolding is_set
  is_set_in a b = ap (λ (x : ℕ). eqb x 1) (put_bits_in v n ws i v01 room j a b)

  pub is_set_out : (j < i) ⊎ (i + n ≤ j) → is_set (put_bits v ws i n) j ≡ is_set ws j
  unfolding is_set
  is_set_out o = ap (λ (x : ℕ). eqb x 1) (put_bits_out v n ws i v01 room j o)

-- ---- a set place has 1, and any other 0

-- and the other way round
pub one_set : (ws : List ℕ) (i : ℕ) → bit_at ws i ≡ 1 → is_set ws i ≡ true
unfolding is_set
one_set ws i e = eq-eqb (bit_at ws i) 1 e

pub zero_clear : (ws : List ℕ) (i : ℕ) → bit_at ws i ≡ 0 → is_set ws i ≡ false
unfolding is_set
zero_clear ws i e = ne_eqb (bit_at ws i) 1 (λ h. omega arith)
