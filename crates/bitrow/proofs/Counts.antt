-- Laws of the count of a row's 1 bits.
-- Assumes nothing.
use Rattle.std.proofs.Common.{◌≡◌, ℕ, zero, suc, ◌+◌, ◌-◌, ◌*◌, ◌/◌, ◌%◌, ◌^◌, ◌<◌, ◌≤◌, List, [], ◌∷◌, length, get_or, sym, refl, ap, ◌∙◌, ap₂, inl, inr, add-zero, add_assoc, mod-eq_of_lt, suc-add, zero-add, div-one, arith, pow_pos, shr-shr}
use lib.Bits.{bit_and, and_high}
use lib.Count.{ones, ones_in, ones_step, ones_cat}
use lib.Pow.{high_ones}
use Rattle.bitrow.specs.Row.{bit, bit_at, put_bits, count_bits}
use Rattle.bitrow.specs.Mask.{mask_of}
use Rattle.bitrow.proofs.Words.{low_mod, half_mod}
use Rattle.bitrow.proofs.Rows.{bit_at_le, rest, bit_rest}
use Rattle.bitrow.proofs.Marks.{put_bits_in, put_bits_out}

pub count_none : (ws : List ℕ) (i n : ℕ) → n ≡ 0 → count_bits ws i n ≡ 0
unfolding count_bits
count_none ws i n e = ap (λ (x : ℕ). count_bits ws i x) e

-- some places, and then those behind them
pub count_add : (m : ℕ) (ws : List ℕ) (i n : ℕ) → count_bits ws i (m + n) ≡ count_bits ws i m + count_bits ws (i + m) n
unfolding count_bits
count_add zero ws i n =
    ap₂ (λ (x y : ℕ). count_bits ws x y) (sym (add-zero i)) (zero-add n) ∙ sym (zero-add (count_bits ws (i + 0) n))
count_add (suc m) ws i n =
    let next : i + 1 + m ≡ i + suc m = omega arith in
    ap (λ (x : ℕ). count_bits ws i x) (suc-add m n)
    ∙ ap (λ (x : ℕ). bit_at ws i + x) (count_add m ws (i + 1) n)
    ∙ sym (add_assoc (bit_at ws i) (count_bits ws (i + 1) m) (count_bits ws (i + 1 + m) n))
    ∙ ap (λ (x : ℕ). bit_at ws i + count_bits ws (i + 1) m + count_bits ws x n) next

pub count_le : (n : ℕ) (ws : List ℕ) (i : ℕ) → count_bits ws i n ≤ n
unfolding count_bits
count_le zero ws i = omega arith
count_le (suc n) ws i = omega (arith, bit_at_le ws i, count_le n ws (i + 1))

-- places with the same bits
pub count_same : (n : ℕ) (ws ws' : List ℕ) (i : ℕ) → ((j : ℕ) → i ≤ j → j < i + n → bit_at ws j ≡ bit_at ws' j) → count_bits ws i n ≡ count_bits ws' i n
unfolding count_bits
count_same zero ws ws' i h = refl
count_same (suc n) ws ws' i h =
    ap₂ (λ (x y : ℕ). x + y) (h i (omega arith) (omega arith)) (count_same n ws ws' (i + 1) (λ j a b. h j (omega arith) (omega arith)))

-- places of which one row has the bits of two others
pub count_sum : (n : ℕ) (a b d : List ℕ) (i j k : ℕ) → ((t : ℕ) → t < n → bit_at a (i + t) ≡ bit_at b (j + t) + bit_at d (k + t))
    → count_bits a i n ≡ count_bits b j n + count_bits d k n
unfolding count_bits
count_sum zero a b d i j k h = omega arith
count_sum (suc n) a b d i j k h =
    let first : bit_at a i ≡ bit_at b j + bit_at d k =
    ap (bit_at a) (sym (add-zero i)) ∙ h 0 (omega arith) ∙ ap₂ (λ (x y : ℕ). bit_at b x + bit_at d y) (add-zero j) (add-zero k) in
    let rest =
    count_sum n a b d (i + 1) (j + 1) (k + 1)
    (λ t l. ap (bit_at a) (next i t) ∙ h (suc t) (omega arith) ∙ sym (ap₂ (λ (x y : ℕ). bit_at b x + bit_at d y) (next j t) (next k t))) in
    omega arith
  where
    next : (x t : ℕ) → x + 1 + t ≡ x + suc t
    next x t = omega arith

-- places that are alike
count_alike : (v n : ℕ) (ws : List ℕ) (i : ℕ) → ((j : ℕ) → i ≤ j → j < i + n → bit_at ws j ≡ v) → count_bits ws i n ≡ n * v
unfolding count_bits
count_alike v zero ws i h = omega arith
count_alike v (suc n) ws i h =
    let a = h i (omega arith) (omega arith) in
    let b = count_alike v n ws (i + 1) (λ j x y. h j (omega arith) (omega arith)) in
    ap₂ (λ (x y : ℕ). x + y) a b ∙ omega arith

-- m places that are cleared
pub count_clear : (ws : List ℕ) (i m n : ℕ) → i + m ≤ n → n ≤ 64 * length ws → ((j : ℕ) → i ≤ j → j < i + m → bit_at ws j ≡ 1)
    → count_bits (put_bits 0 ws i m) 0 n + m ≡ count_bits ws 0 n
count_clear ws i m n fits long ones =
    let all : n ≡ i + (m + (n - (i + m))) = omega arith in
    let parts : (l : List ℕ) → count_bits l 0 n ≡ count_bits l 0 i + (count_bits l i m + count_bits l (i + m) (n - (i + m))) =
    λ l. ap (count_bits l 0) all ∙ count_add i l 0 (m + (n - (i + m))) ∙ ap₂ (λ (x y : ℕ). count_bits l 0 i + count_bits l x y) (zero-add i) refl
    ∙ ap (λ (x : ℕ). count_bits l 0 i + x) (count_add m l i (n - (i + m))) in
    let low = count_same i (put_bits 0 ws i m) ws 0 (λ j a b. put_bits_out 0 m ws i (omega arith) (omega arith) j (inl (omega arith))) in
    let high = count_same (n - (i + m)) (put_bits 0 ws i m) ws (i + m) (λ j a b. put_bits_out 0 m ws i (omega arith) (omega arith) j (inr a)) in
    let was = count_alike 1 m ws i ones in
    let is = count_alike 0 m (put_bits 0 ws i m) i (put_bits_in 0 m ws i (omega arith) (omega arith)) in
    let a = parts ws in let b = parts (put_bits 0 ws i m) in omega arith

-- ---- places of one word, by a mask

-- the set ones of the m low digits of a number
ones_mod : (m x : ℕ) → ones_in m x ≡ ones (x % 2 ^ m)
unfolding ones_in ones
ones_mod zero x = let none : 0 ≡ x % 2 ^ 0 = omega arith in ap ones none
ones_mod (suc m) x =
    ap (λ (y : ℕ). x % 2 + y) (ones_mod m (x / 2))
    ∙ sym (ones_step (x % 2 ^ suc m) ∙ ap₂ (λ (y z : ℕ). y + ones z) (low_mod x m) (half_mod x m))

ones_mask : (w o m : ℕ) → ones (bit_and w (mask_of o m)) ≡ ones (w / 2 ^ o % 2 ^ m)
unfolding ones
ones_mask w o m =
    ap (λ (b : ℕ). ones (bit_and w b)) (sym (high_ones m o)) ∙ ap ones (and_high w m o ∙ sym (add-zero (w / 2 ^ o % 2 ^ m * 2 ^ o)))
    ∙ ones_cat o (w / 2 ^ o % 2 ^ m) 0 (pow_pos o) ∙ add-zero (ones (w / 2 ^ o % 2 ^ m))

count_rest : (m : ℕ) (ws : List ℕ) (q j : ℕ) → q % 64 + (j + m) ≤ 64 → count_bits ws (q + j) m ≡ ones_in m (rest ws q / 2 ^ j)
unfolding count_bits ones_in bit
count_rest zero ws q j l = refl
count_rest (suc m) ws q j l =
    let next : q + j + 1 ≡ q + (j + 1) = omega arith in
    ap₂ (λ (x y : ℕ). x + y) (bit_rest ws q j (omega arith))
    (ap (λ (x : ℕ). count_bits ws x m) next ∙ count_rest m ws q (j + 1) (omega arith) ∙ ap (ones_in m) (sym (shr-shr (rest ws q) j 1)))

pub count_word : (ws : List ℕ) (i m : ℕ) → i % 64 + m ≤ 64 → count_bits ws i m ≡ ones (bit_and (get_or ws (i / 64) 0) (mask_of (i % 64) m))
count_word ws i m l =
    ap (λ (x : ℕ). count_bits ws x m) (sym (add-zero i)) ∙ count_rest m ws i 0 (omega arith)
    ∙ ap (ones_in m) (div-one (rest ws i)) ∙ ones_mod m (rest ws i)
    ∙ sym (ones_mask (get_or ws (i / 64) 0) (i % 64) m)

-- the bits of one word
pub count_ones : (m : ℕ) → m < 2 ^ 64 → count_bits (m ∷ []) 0 64 ≡ ones m
count_ones m l =
    count_word (m ∷ []) 0 64 (omega arith) ∙ ones_mask m 0 64 ∙ ap ones (ap (λ (x : ℕ). x % 2 ^ 64) (div-one m) ∙ mod-eq_of_lt l)

-- a turn of the loop: the m places from i on are counted, and those from i + m up to `to` are left
pub count_turn : (ws : List ℕ) (i m to : ℕ) → i + m ≤ to → count_bits ws i (to - i) ≡ count_bits ws i m + count_bits ws (i + m) (to - (i + m))
count_turn ws i m to l =
    let all : to - i ≡ m + (to - (i + m)) = omega arith in
    ap (λ (x : ℕ). count_bits ws i x) all ∙ count_add m ws i (to - (i + m))
