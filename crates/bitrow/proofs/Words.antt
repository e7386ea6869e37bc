-- Laws of a word's bits: the bits of its half and after a shift, and its lowest 0 and 1 as a count of zeros.
-- Assumes nothing.
use Rattle.std.proofs.Common.{◌≡◌, ℕ, zero, suc, ◌+◌, ◌-◌, ◌/◌, ◌%◌, ◌^◌, ◌<◌, ◌≤◌, Bool, true, false, ◌⊎◌, sym, refl, ap, ◌∙◌, subst, ap₂, inl, inr, ⊎_elim, suc-le-suc, zero-le, le_of_suc-le-suc, not-suc-le-zero, add-zero, div-one, add-one, one-add, arith, lit<, shr-shr}
use native.Mathlib.Nat.{zero-div}
use lib.Pow.{field, mod-mod-pow}
use lib.Count.{count_trailing_zeros, under}
use Rattle.bitrow.specs.Row.{digit, bit, Lowest}

pub digit_lt : (b : Bool) → digit b < 2
digit_lt true = lit< tt
digit_lt false = lit< tt

pub bit_zero : (w : ℕ) → bit w 0 ≡ w % 2
unfolding bit
bit_zero w = ap (λ (x : ℕ). x % 2) (div-one w)

-- a word's bit is that of its half, one place lower
pub bit_suc : (w i : ℕ) → bit w (suc i) ≡ bit (w / 2) i
unfolding bit
bit_suc w i = ap (λ (x : ℕ). w / 2 ^ x % 2) (sym (one-add i)) ∙ ap (λ (x : ℕ). x % 2) (sym (shr-shr w 1 i))

-- after a shift to the right
pub bit_shr : (w o i : ℕ) → bit (w / 2 ^ o) i ≡ bit w (o + i)
unfolding bit
bit_shr w o i = ap (λ (x : ℕ). x % 2) (shr-shr w o i)

pub bit_le : (w i : ℕ) → bit w i ≤ 1
unfolding bit
bit_le w i = omega arith

pub bit_of_zero : (i : ℕ) → bit 0 i ≡ 0
unfolding bit
bit_of_zero i = ap (λ (x : ℕ). x % 2) (zero-div (2 ^ i))

-- ---- the lowest bit v

-- the lowest digit of a word is v, or it is the other one, and the search goes on in the word's half
lowest_stop : (k w v : ℕ) → w % 2 ≡ v → Lowest (suc k) w v 0
lowest_stop k w v e = record { within = zero-le; below = λ i l. absurd (not-suc-le-zero l); here = λ l. bit_zero w ∙ e }

lowest_more : (k w v r : ℕ) → w % 2 ≡ 1 - v → Lowest k (w / 2) v r → Lowest (suc k) w v (suc r)
lowest_more k w v r e f =
    record { within = suc-le-suc f.within; below = low; here = λ l. bit_suc w r ∙ f.here (le_of_suc-le-suc l) }
  where
    low : (i : ℕ) → i < suc r → bit w i ≡ 1 - v
    low zero l = bit_zero w ∙ e
    low (suc i) l = bit_suc w i ∙ f.below i (le_of_suc-le-suc l)

-- a digit is v or the other one
pub v_or_other : (v d : ℕ) → v < 2 → d < 2 → (d ≡ v) ⊎ (d ≡ 1 - v)
v_or_other zero zero a b = inl refl
v_or_other zero (suc d) a b = inr (omega arith)
v_or_other (suc v) zero a b = inr (omega arith)
v_or_other (suc v) (suc d) a b = inl (omega arith)

-- The lowest 1 of w is where the zeros at the low end of w end; the lowest 0, where those of w + 1 do.
pub trailing_lowest : (k v w : ℕ) → v < 2 → Lowest k w v (count_trailing_zeros k (w + (1 - v)))
unfolding count_trailing_zeros
trailing_lowest zero v w h = record { within = zero-le; below = λ i l. absurd (not-suc-le-zero l); here = λ l. absurd (not-suc-le-zero l) }
trailing_lowest (suc k) v w h = ⊎_elim stop (more (trailing_lowest k v (w / 2) h)) (v_or_other v (w % 2) h (omega arith))
  where
    sum : ℕ
    sum = w + (1 - v)

    stop : w % 2 ≡ v → Lowest (suc k) w v (under (sum % 2) (count_trailing_zeros k (sum / 2)))
    stop e =
        let odd : 1 ≡ sum % 2 = omega arith in
        subst (λ (d : ℕ). Lowest (suc k) w v (under d (count_trailing_zeros k (sum / 2)))) odd (lowest_stop k w v e)

    more : Lowest k (w / 2) v (count_trailing_zeros k (w / 2 + (1 - v))) → w % 2 ≡ 1 - v
        → Lowest (suc k) w v (under (sum % 2) (count_trailing_zeros k (sum / 2)))
    more f e =
        let even : 0 ≡ sum % 2 = omega arith in
        let half : w / 2 + (1 - v) ≡ sum / 2 = omega arith in
        subst (λ (d : ℕ). Lowest (suc k) w v (under d (count_trailing_zeros k (sum / 2)))) even
        (subst (λ (x : ℕ). Lowest (suc k) w v (suc (count_trailing_zeros k x))) half
        (lowest_more k w v (count_trailing_zeros k (w / 2 + (1 - v))) e f))

pub one_lowest : (w : ℕ) → Lowest 64 w 1 (count_trailing_zeros 64 w)
one_lowest w = subst (λ (x : ℕ). Lowest 64 w 1 (count_trailing_zeros 64 x)) (add-zero w) (trailing_lowest 64 1 w (omega arith))

-- ---- the k + 1 low digits of a number: its lowest, and the k low ones of its half

pub low_mod : (n k : ℕ) → n % 2 ^ suc k % 2 ≡ n % 2
low_mod n k = ap (λ (x : ℕ). n % 2 ^ x % 2) (sym (add-one k)) ∙ mod-mod-pow n k 1

pub half_mod : (n k : ℕ) → n % 2 ^ suc k / 2 ≡ n / 2 % 2 ^ k
half_mod n k = ap (λ (x : ℕ). n % 2 ^ x / 2) (sym (add-one k)) ∙ field n k 1

-- only the k low digits count, so a sum that wraps has the zeros of the true one, and k of them where it comes out as zero
pub trailing_mod : (k n : ℕ) → count_trailing_zeros k (n % 2 ^ k) ≡ count_trailing_zeros k n
unfolding count_trailing_zeros
trailing_mod zero n = refl
trailing_mod (suc k) n =
    ap₂ (λ (d h : ℕ). under d (count_trailing_zeros k h)) (low_mod n k) (half_mod n k)
    ∙ ap (λ (t : ℕ). under (n % 2) t) (trailing_mod k (n / 2))
