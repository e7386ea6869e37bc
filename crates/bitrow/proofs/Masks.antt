-- Laws of masks: the bits of `|`, `&` and `!`, the mask of several places side by side, and a word with the places of a mask changed.
-- Assumes nothing.
use Rattle.std.proofs.Common.{◌≡◌, ℕ, zero, suc, ◌+◌, ◌-◌, ◌*◌, ◌/◌, ◌%◌, ◌^◌, ◌<◌, ◌≤◌, min, max, ◌≢◌, ◌⊎◌, sym, refl, ap, ◌∙◌, subst, inl, inr, ⊎_elim, lt_of_lt_of_le, add-sub_of_le, eq-or-lt_of_le, pow-suc, arith, pow_pos, pow_mono, shl_lt, shl_exact}
use native.Mathlib.Nat.{sub-zero, div-eq_of_lt}
use lib.Bits.{bit_and, bit_or, or_step, and_step, or_shr, and_shr, and_lt, or_lt, shifted_half, shifted_even}
use lib.Pow.{ones_lt, ones_split, high, shl-shr}
use Rattle.bitrow.specs.Row.{bit, word_put}
use Rattle.bitrow.specs.Mask.{mask_of, with_mask}
use Rattle.bitrow.proofs.Words.{bit_zero, bit_suc, bit_shr, bit_le, bit_of_zero}
use Rattle.bitrow.proofs.Rows.{lt_or_ge}

-- ---- the bits of `|`, `&` and `!`

pub odd_of : (q d : ℕ) → d < 2 → (q * 2 + d) % 2 ≡ d
odd_of q d h = omega arith

pub bit_or_lem : (w v i : ℕ) → bit (bit_or w v) i ≡ max (bit w i) (bit v i)
unfolding bit
bit_or_lem w v i =
    ap (λ (x : ℕ). x % 2) (or_shr w v i ∙ or_step (w / 2 ^ i) (v / 2 ^ i))
    ∙ odd_of (bit_or (w / 2 ^ i / 2) (v / 2 ^ i / 2)) (max (w / 2 ^ i % 2) (v / 2 ^ i % 2)) (omega arith)

pub bit_and_lem : (w v i : ℕ) → bit (bit_and w v) i ≡ min (bit w i) (bit v i)
unfolding bit
bit_and_lem w v i =
    ap (λ (x : ℕ). x % 2) (and_shr w v i ∙ and_step (w / 2 ^ i) (v / 2 ^ i))
    ∙ odd_of (bit_and (w / 2 ^ i / 2) (v / 2 ^ i / 2)) (min (w / 2 ^ i % 2) (v / 2 ^ i % 2)) (omega arith)

pub bit_not : (k v i : ℕ) → v < 2 ^ k → i < k → bit (2 ^ k - 1 - v) i ≡ 1 - bit v i
bit_not zero v i h l = absurd (omega arith)
bit_not (suc k) v zero h l =
    let low : (2 ^ suc k - 1 - v) % 2 ≡ 1 - v % 2 = omega (arith, pow-suc 2 k) in
    bit_zero (2 ^ suc k - 1 - v) ∙ low ∙ ap (λ (x : ℕ). 1 - x) (sym (bit_zero v))
bit_not (suc k) v (suc i) h l =
    let half : (2 ^ suc k - 1 - v) / 2 ≡ 2 ^ k - 1 - v / 2 = omega (arith, pow-suc 2 k) in
    bit_suc (2 ^ suc k - 1 - v) i ∙ ap (λ (x : ℕ). bit x i) half
    ∙ bit_not k (v / 2) i (omega (arith, pow-suc 2 k)) (omega arith)
    ∙ ap (λ (x : ℕ). 1 - x) (sym (bit_suc v i))

-- ---- the mask

-- the value that the code computes
pub mask_value : (o n : ℕ) → n ≤ 64 → o + n ≤ 64 → (2 ^ 64 - 1) / 2 ^ (64 - n) * 2 ^ o % 2 ^ 64 ≡ mask_of o n
mask_value o n h l = ap (λ (x : ℕ). x * 2 ^ o % 2 ^ 64) ones ∙ shl_exact n o 64 (ones_lt n) (omega arith)
  where
    ones : (2 ^ 64 - 1) / 2 ^ (64 - n) ≡ 2 ^ n - 1
    ones =
        ap (λ (x : ℕ). (2 ^ x - 1) / 2 ^ (64 - n)) (sym (add-sub_of_le h))
        ∙ ap (λ (x : ℕ). x / 2 ^ (64 - n)) (ones_split n (64 - n))
        ∙ high (2 ^ n - 1) (64 - n) (ones_lt (64 - n))

pub mask_lt : (o n : ℕ) → o + n ≤ 64 → mask_of o n < 2 ^ 64
mask_lt o n l = lt_of_lt_of_le (shl_lt n o (ones_lt n)) (pow_mono {j = 64} (omega arith))

bit_shl : (x o j : ℕ) → bit (x * 2 ^ o) (o + j) ≡ bit x j
bit_shl x o j = sym (bit_shr (x * 2 ^ o) o j) ∙ ap (λ (y : ℕ). bit y j) (shl-shr x o)

bit_shl_low : (x o i : ℕ) → i < o → bit (x * 2 ^ o) i ≡ 0
bit_shl_low x zero i h = absurd (omega arith)
bit_shl_low x (suc o) zero h = bit_zero (x * 2 ^ suc o) ∙ shifted_even x o
bit_shl_low x (suc o) (suc i) h = bit_suc (x * 2 ^ suc o) i ∙ ap (λ (y : ℕ). bit y i) (shifted_half x o) ∙ bit_shl_low x o i (omega arith)

bit_ones : (n j : ℕ) → j < n → bit (2 ^ n - 1) j ≡ 1
bit_ones n j l =
    ap (λ (x : ℕ). bit x j) (sym (sub-zero (2 ^ n - 1))) ∙ bit_not n 0 j (pow_pos n) l ∙ ap (λ (x : ℕ). 1 - x) (bit_of_zero j)

pub bit_high : (x j : ℕ) → x < 2 ^ j → bit x j ≡ 0
unfolding bit
bit_high x j h = ap (λ (y : ℕ). y % 2) (div-eq_of_lt h)

pub mask_in : (o n i : ℕ) → o ≤ i → i < o + n → bit (mask_of o n) i ≡ 1
mask_in o n i a b =
    ap (bit (mask_of o n)) (sym (add-sub_of_le a)) ∙ bit_shl (2 ^ n - 1) o (i - o) ∙ bit_ones n (i - o) (omega arith)

pub mask_out : (o n i : ℕ) → (i < o) ⊎ (o + n ≤ i) → bit (mask_of o n) i ≡ 0
mask_out o n i (inl a) = bit_shl_low (2 ^ n - 1) o i a
mask_out o n i (inr a) = bit_high (mask_of o n) i (lt_of_lt_of_le (shl_lt n o (ones_lt n)) (pow_mono (omega arith)))

-- ---- a word with the places of a mask at the value v

pub with_mask_in : (v w b i : ℕ) → v < 2 → i < 64 → b < 2 ^ 64 → bit b i ≡ 1 → bit (with_mask v w b) i ≡ v
with_mask_in zero w b i h l f e =
    let not : bit (2 ^ 64 - 1 - b) i ≡ 0 = bit_not 64 b i f l ∙ ap (λ (x : ℕ). 1 - x) e in
    bit_and_lem w (2 ^ 64 - 1 - b) i ∙ omega arith
with_mask_in (suc zero) w b i h l f e = let le = bit_le w i in bit_or_lem w b i ∙ omega arith
with_mask_in (suc (suc v)) w b i h l f e = absurd (omega arith)

pub with_mask_out : (v w b i : ℕ) → i < 64 → b < 2 ^ 64 → bit b i ≡ 0 → bit (with_mask v w b) i ≡ bit w i
with_mask_out zero w b i l f e =
    let not : bit (2 ^ 64 - 1 - b) i ≡ 1 = bit_not 64 b i f l ∙ ap (λ (x : ℕ). 1 - x) e in
    let le = bit_le w i in
    bit_and_lem w (2 ^ 64 - 1 - b) i ∙ omega arith
with_mask_out (suc v) w b i l f e = bit_or_lem w b i ∙ omega arith

pub with_mask_lt : (v w b : ℕ) → w < 2 ^ 64 → b < 2 ^ 64 → with_mask v w b < 2 ^ 64
with_mask_lt zero w b h l = and_lt 64 w (2 ^ 64 - 1 - b) h (omega arith)
with_mask_lt (suc v) w b h l = or_lt 64 w b h l

-- ---- one place: the mask of one bit

put_mask : (v w o : ℕ) → word_put v w o ≡ with_mask v w (mask_of o 1)
put_mask v w o = same v ∙ ap (with_mask v w) one
  where
    one : 2 ^ o ≡ mask_of o 1
    one = omega arith

    same : (u : ℕ) → word_put u w o ≡ with_mask u w (2 ^ o)
    same zero = refl
    same (suc u) = refl

pub put_same : (v w o : ℕ) → v < 2 → o < 64 → bit (word_put v w o) o ≡ v
put_same v w o h l =
    ap (λ (x : ℕ). bit x o) (put_mask v w o)
    ∙ with_mask_in v w (mask_of o 1) o h l (mask_lt o 1 (omega arith)) (mask_in o 1 o (omega arith) (omega arith))

pub put_other : (v w o i : ℕ) → o < 64 → i < 64 → i ≢ o → bit (word_put v w o) i ≡ bit w i
put_other v w o i l m d =
    ap (λ (x : ℕ). bit x i) (put_mask v w o)
    ∙ with_mask_out v w (mask_of o 1) i m (mask_lt o 1 (omega arith)) (mask_out o 1 i (apart (lt_or_ge i o)))
  where
    apart : (i < o) ⊎ (o ≤ i) → (i < o) ⊎ (o + 1 ≤ i)
    apart (inl a) = inl a
    apart (inr a) = ⊎_elim (λ e. absurd (d (sym e))) (λ z. inr (omega arith)) (eq-or-lt_of_le a)

pub put_lt : (v w o : ℕ) → w < 2 ^ 64 → o < 64 → word_put v w o < 2 ^ 64
put_lt v w o h l = subst (λ (x : ℕ). x < 2 ^ 64) (sym (put_mask v w o)) (with_mask_lt v w (mask_of o 1) h (mask_lt o 1 (omega arith)))
