-- Rows with the same bits are the same row. So a change that is undone gives the row back, and several bits of a word may be changed at once.
-- Assumes nothing.
use Rattle.std.proofs.Common.{◌≡◌, ℕ, zero, suc, ◌+◌, ◌-◌, ◌*◌, ◌/◌, ◌%◌, ◌^◌, ◌<◌, ◌≤◌, ◌⊎◌, List, length, get_or, set, sym, ap, ◌∙◌, subst, ap₂, inl, inr, ⊎_elim, pow-suc, arith, length-set, get_or-set_other, get_or-set_same, ext_get_or}
use native.Mathlib.Decide.{ℕ_discrete}
use Rattle.bitrow.specs.Row.{bit, bit_at, word_put, put_bit, put_bits}
use Rattle.bitrow.specs.Mask.{mask_of, with_mask}
use Rattle.bitrow.proofs.Words.{bit_zero, bit_suc}
use Rattle.bitrow.proofs.Rows.{in_or_out}
use Rattle.bitrow.proofs.Masks.{mask_in, mask_out, mask_lt, with_mask_in, with_mask_out, with_mask_lt, put_lt}
use Rattle.bitrow.proofs.Marks.{set_near, set_kept, length_put_bit, length_put_bits, put_bits_in, put_bits_out, put_bits_add}

-- two words of k digits with the same bits
pub word_ext : (k x y : ℕ) → x < 2 ^ k → y < 2 ^ k → ((i : ℕ) → i < k → bit x i ≡ bit y i) → x ≡ y
word_ext zero x y a b h = omega arith
word_ext (suc k) x y a b h =
    let p = pow-suc 2 k in
    let low : x % 2 ≡ y % 2 = sym (bit_zero x) ∙ h 0 (omega arith) ∙ bit_zero y in
    let high : x / 2 ≡ y / 2 =
    word_ext k (x / 2) (y / 2) (omega arith) (omega arith) (λ i l. sym (bit_suc x i) ∙ h (suc i) (omega arith) ∙ bit_suc y i) in
    omega arith

-- each element is a word
abbrev pub Words : List ℕ → Type 0
Words ws = (i : ℕ) → get_or ws i 0 < 2 ^ 64

-- two rows of one length with the same bits
pub row_ext : (xs ys : List ℕ) → Words xs → Words ys → length xs ≡ length ys
    → ((i : ℕ) → i < 64 * length xs → bit_at xs i ≡ bit_at ys i) → xs ≡ ys
unfolding bit_at
row_ext xs ys a b e h = ext_get_or 0 xs ys e (λ j l. word_ext 64 (get_or xs j 0) (get_or ys j 0) (a j) (b j) (λ i m. same j l i m))
  where
    same : (j : ℕ) → j < length xs → (i : ℕ) → i < 64 → bit (get_or xs j 0) i ≡ bit (get_or ys j 0) i
    same j l i m =
        let q : (64 * j + i) / 64 ≡ j = omega arith in
        let r : (64 * j + i) % 64 ≡ i = omega arith in
        ap₂ (λ (u v : ℕ). bit (get_or xs u 0) v) (sym q) (sym r) ∙ h (64 * j + i) (omega arith)
        ∙ ap₂ (λ (u v : ℕ). bit (get_or ys u 0) v) q r

-- ---- a change leaves words

set_words : (ws : List ℕ) (j x : ℕ) → j < length ws → x < 2 ^ 64 → Words ws → Words (set ws j x)
set_words ws j x l h a k =
    elim (ℕ_discrete k j) [
      | yes e ↦ subst (λ (y : ℕ). y < 2 ^ 64) (sym (ap (λ (u : ℕ). get_or (set ws j x) u 0) e ∙ get_or-set_same ws j x 0 l)) h
      | no d ↦ subst (λ (y : ℕ). y < 2 ^ 64) (sym (get_or-set_other ws j k x 0 d)) (a k)
    ]

pub put_bit_words : (v : ℕ) (ws : List ℕ) (i : ℕ) → i < 64 * length ws → Words ws → Words (put_bit v ws i)
unfolding put_bit
put_bit_words v ws i l a =
    set_words ws (i / 64) (word_put v (get_or ws (i / 64) 0) (i % 64)) (omega arith)
    (put_lt v (get_or ws (i / 64) 0) (i % 64) (a (i / 64)) (omega arith)) a

pub put_bits_words : (v n : ℕ) (ws : List ℕ) (i : ℕ) → i + n ≤ 64 * length ws → Words ws → Words (put_bits v ws i n)
unfolding put_bits
put_bits_words v zero ws i l a = a
put_bits_words v (suc n) ws i l a =
    put_bits_words v n (put_bit v ws i) (i + 1) (omega (arith, length_put_bit v ws i)) (put_bit_words v ws i (omega arith) a)

-- ---- a row that differs from ws at n places only, where it has v

pub put_bits_ext : (v n : ℕ) (ws : List ℕ) (i : ℕ) (ys : List ℕ) → v < 2 → i + n ≤ 64 * length ws → Words ws → Words ys → length ys ≡ length ws
    → ((j : ℕ) → i ≤ j → j < i + n → bit_at ys j ≡ v)
    → ((j : ℕ) → (j < i) ⊎ (i + n ≤ j) → bit_at ys j ≡ bit_at ws j)
    → ys ≡ put_bits v ws i n
put_bits_ext v n ws i ys v01 l a b e here else =
    row_ext ys (put_bits v ws i n) b (put_bits_words v n ws i l a) (e ∙ sym (length_put_bits v n ws i))
    (λ j _. ⊎_elim
    (λ z. here j z.0 z.1 ∙ sym (put_bits_in v n ws i v01 l j z.0 z.1))
    (λ z. else j z ∙ sym (put_bits_out v n ws i v01 l j z))
    (in_or_out i n j))

-- ---- places of one word, by a mask

module _ (v : ℕ) (ws : List ℕ) (i m : ℕ) (v01 : v < 2) (words : Words ws) (inside : i < 64 * length ws) (l : i % 64 + m ≤ 64) where
  b_lt : mask_of (i % 64) m < 2 ^ 64
  b_lt = mask_lt (i % 64) m l

  x : ℕ
  x = with_mask v (get_or ws (i / 64) 0) (mask_of (i % 64) m)

  x_lt : x < 2 ^ 64
  unfolding x
  x_lt = with_mask_lt v (get_or ws (i / 64) 0) (mask_of (i % 64) m) (words (i / 64)) b_lt

  mask_here : (k : ℕ) → i ≤ k → k < i + m → bit_at (set ws (i / 64) x) k ≡ v
  unfolding x
  mask_here k a c =
      set_near ws i x inside k (omega arith)
      ∙ with_mask_in v (get_or ws (i / 64) 0) (mask_of (i % 64) m) (k % 64) v01 (omega arith) b_lt
      (mask_in (i % 64) m (k % 64) (omega arith) (omega arith))

  mask_else : (k : ℕ) → (k < i) ⊎ (i + m ≤ k) → bit_at (set ws (i / 64) x) k ≡ bit_at ws k
  unfolding x
  mask_else k o =
      set_kept ws i x inside k
      (λ e. with_mask_out v (get_or ws (i / 64) 0) (mask_of (i % 64) m) (k % 64) (omega arith) b_lt
      (mask_out (i % 64) m (k % 64) (⊎_elim (λ a. inl (omega arith)) (λ a. inr (omega arith)) o)))

  pub put_word : set ws (i / 64) (with_mask v (get_or ws (i / 64) 0) (mask_of (i % 64) m)) ≡ put_bits v ws i m
  unfolding x
  put_word =
      put_bits_ext v m ws i (set ws (i / 64) x) v01 (omega arith) words (set_words ws (i / 64) x (omega arith) x_lt words)
      (length-set ws (i / 64) x) mask_here mask_else

-- a turn of the loop: the m places from i on are done, and those from i + m up to `to` are left
pub put_turn : (v : ℕ) (ws ws' : List ℕ) (i m to : ℕ) → i + m ≤ to → ws' ≡ put_bits v ws i m
    → put_bits v ws' (i + m) (to - (i + m)) ≡ put_bits v ws i (to - i)
put_turn v ws ws' i m to l s =
    let left : m + (to - (i + m)) ≡ to - i = omega arith in
    ap (λ (x : List ℕ). put_bits v x (i + m) (to - (i + m))) s ∙ sym (put_bits_add m v ws i (to - (i + m)))
    ∙ ap (λ (x : ℕ). put_bits v ws i x) left
