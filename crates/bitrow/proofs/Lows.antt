-- Laws of a word's lowest bit v: one less than the word clears its lowest 1, one more sets its lowest 0.
-- Assumes nothing.
use Rattle.std.proofs.Common.{◌≡◌, ℕ, zero, suc, ◌+◌, ◌-◌, ◌*◌, ◌/◌, ◌%◌, ◌^◌, ◌<◌, ◌≤◌, Bool, true, false, not, ◌≢◌, sym, refl, ap, ◌∙◌, ⊎_elim, mod-eq_of_lt, pow-suc, arith}
use native.Mathlib.Decide.{ℕ_discrete}
use lib.Bits.{bit_and, bit_or, and_lt, or_lt, and_self, and_high}
use lib.Pow.{high_ones}
use Rattle.bitrow.specs.Row.{digit, bit, Lowest, word_put}
use Rattle.bitrow.specs.Mask.{mask_of}
use Rattle.bitrow.proofs.Words.{bit_zero, bit_suc, bit_le, bit_of_zero}
use Rattle.bitrow.proofs.Rows.{lt_or_ge}
use Rattle.bitrow.proofs.Masks.{bit_and_lem, bit_or_lem, bit_high, mask_in, put_same, put_other, put_lt}
use Rattle.bitrow.proofs.Ext.{word_ext}

-- ---- the word x past w: one less for the lowest 1, one more for the lowest 0

past_here : (v t w x : ℕ) → v < 2 → x + v ≡ w + (1 - v) → ((i : ℕ) → i < t → bit w i ≡ 1 - v) → bit w t ≡ v → bit x t ≡ 1 - v
past_here v zero w x h e below here =
    let low : w % 2 ≡ v = sym (bit_zero w) ∙ here in
    let is : x % 2 ≡ 1 - v = omega arith in
    bit_zero x ∙ is
past_here v (suc t) w x h e below here =
    let low : w % 2 ≡ 1 - v = sym (bit_zero w) ∙ below 0 (omega arith) in
    bit_suc x t
    ∙ past_here v t (w / 2) (x / 2) h (omega arith) (λ i l. sym (bit_suc w i) ∙ below (suc i) (omega arith)) (sym (bit_suc w t) ∙ here)

past_above : (v t w x : ℕ) → v < 2 → x + v ≡ w + (1 - v) → ((i : ℕ) → i < t → bit w i ≡ 1 - v) → bit w t ≡ v
    → (i : ℕ) → t < i → bit x i ≡ bit w i
past_above v t w x h e below here zero l = absurd (omega arith)
past_above v zero w x h e below here (suc i) l =
    let low : w % 2 ≡ v = sym (bit_zero w) ∙ here in
    let half : x / 2 ≡ w / 2 = omega arith in
    bit_suc x i ∙ ap (λ (y : ℕ). bit y i) half ∙ sym (bit_suc w i)
past_above v (suc t) w x h e below here (suc i) l =
    let low : w % 2 ≡ 1 - v = sym (bit_zero w) ∙ below 0 (omega arith) in
    bit_suc x i
    ∙ past_above v t (w / 2) (x / 2) h (omega arith) (λ k m. sym (bit_suc w k) ∙ below (suc k) (omega arith)) (sym (bit_suc w t) ∙ here)
    i (omega arith)
    ∙ sym (bit_suc w i)

-- ---- the word with its lowest bit changed

-- a word that is not 0 has a 1
pub one_within : (w t : ℕ) → w < 2 ^ 64 → 1 ≤ w → Lowest 64 w 1 t → t < 64
one_within w t h some f =
    let le = f.within in
    ⊎_elim (λ l. l)
    (λ l. let none : w ≡ 0 = word_ext 64 w 0 h (omega arith) (λ i m. f.below i (omega arith) ∙ sym (bit_of_zero i)) in absurd (omega arith))
    (lt_or_ge t 64)

module _ (w t : ℕ) (fits : w < 2 ^ 64) where
  -- a word that differs from w at t only
  same_word : (v x : ℕ) → v < 2 → t < 64 → x < 2 ^ 64 → bit x t ≡ v → ((i : ℕ) → i < 64 → i ≢ t → bit x i ≡ bit w i) → x ≡ word_put v w t
  same_word v x v01 l m here else =
      word_ext 64 x (word_put v w t) m (put_lt v w t fits l)
      (λ i k. elim (ℕ_discrete i t) [
        | yes e ↦ ap (bit x) e ∙ here ∙ sym (put_same v w t v01 l) ∙ ap (bit (word_put v w t)) (sym e)
        | no d ↦ else i k d ∙ sym (put_other v w t i l k d)
      ])

  pub lowest_cleared : 1 ≤ w → Lowest 64 w 1 t → bit_and w (w - 1) ≡ word_put 0 w t
  lowest_cleared some f =
      let l = one_within w t fits some f in
      same_word 0 (bit_and w (w - 1)) (omega arith) l (and_lt 64 w (w - 1) fits (omega arith))
      (let z = past_here 1 t w (w - 1) (omega arith) (omega arith) f.below (f.here l) in bit_and_lem w (w - 1) t ∙ omega arith)
      (λ i k d. ⊎_elim
      (λ a. let z = f.below i a in bit_and_lem w (w - 1) i ∙ omega arith)
      (λ a. let z = past_above 1 t w (w - 1) (omega arith) (omega arith) f.below (f.here l) i (omega arith) in bit_and_lem w (w - 1) i ∙ omega arith)
      (lt_or_ge i t))

  pub lowest_filled : t < 64 → Lowest 64 w 0 t → bit_or w ((w + 1) % 2 ^ 64) ≡ word_put 1 w t
  lowest_filled l f =
      ap (bit_or w) (mod-eq_of_lt room)
      ∙ same_word 1 (bit_or w (w + 1)) (omega arith) l (or_lt 64 w (w + 1) fits room)
      (let z = past_here 0 t w (w + 1) (omega arith) (omega arith) f.below (f.here l) in let y = bit_le w t in bit_or_lem w (w + 1) t ∙ omega arith)
      (λ i k d. ⊎_elim
      (λ a. let z = f.below i a in let y = bit_le (w + 1) i in bit_or_lem w (w + 1) i ∙ omega arith)
      (λ a. let z = past_above 0 t w (w + 1) (omega arith) (omega arith) f.below (f.here l) i (omega arith) in bit_or_lem w (w + 1) i ∙ omega arith)
      (lt_or_ge i t))
    where
      room : w + 1 < 2 ^ 64
      room =
          ⊎_elim (λ a. a)
          (λ a. let all : w ≡ mask_of 0 64 = omega arith in
          let one : bit w t ≡ 1 = ap (λ (x : ℕ). bit x t) all ∙ mask_in 0 64 t (omega arith) (omega arith) in
          let none = f.here l in absurd (omega arith))
          (lt_or_ge (w + 1) (2 ^ 64))

  -- a bit that has the value already
  pub put_had : (v : ℕ) → v < 2 → t < 64 → bit w t ≡ v → w ≡ word_put v w t
  put_had v v01 l e = same_word v w v01 l fits e (λ i k d. refl)

  -- the word without its lowest 1, if so
  pub without_lowest : (so : Bool) (n : ℕ) → 1 ≤ w → n ≡ digit so → Lowest 64 w 1 t → bit_and w (w - n) ≡ word_put (digit (not so)) w t
  without_lowest true n some e f = ap (λ (x : ℕ). bit_and w (w - x)) e ∙ lowest_cleared some f
  without_lowest false n some e f =
      let l = one_within w t fits some f in
      let same : w - n ≡ w = omega arith in
      ap (bit_and w) same ∙ and_self w ∙ put_had 1 (omega arith) l (f.here l)

-- ---- a bit that is 1 is taken off

pub one_le : (w t : ℕ) → bit w t ≡ 1 → 2 ^ t ≤ w
one_le w t e = ⊎_elim (λ l. let none = bit_high w t l in absurd (omega arith)) (λ l. l) (lt_or_ge w (2 ^ t))

off_here : (t w x : ℕ) → x + 2 ^ t ≡ w → bit w t ≡ 1 → bit x t ≡ 0
off_here zero w x e f = let low : w % 2 ≡ 1 = sym (bit_zero w) ∙ f in let is : x % 2 ≡ 0 = omega arith in bit_zero x ∙ is
off_here (suc t) w x e f = let p = pow-suc 2 t in bit_suc x t ∙ off_here t (w / 2) (x / 2) (omega arith) (sym (bit_suc w t) ∙ f)

off_else : (t w x : ℕ) → x + 2 ^ t ≡ w → bit w t ≡ 1 → (i : ℕ) → i ≢ t → bit x i ≡ bit w i
off_else zero w x e f zero n = absurd (n refl)
off_else zero w x e f (suc i) n =
    let low : w % 2 ≡ 1 = sym (bit_zero w) ∙ f in
    let half : x / 2 ≡ w / 2 = omega arith in
    bit_suc x i ∙ ap (λ (y : ℕ). bit y i) half ∙ sym (bit_suc w i)
off_else (suc t) w x e f zero n =
    let p = pow-suc 2 t in let low : x % 2 ≡ w % 2 = omega arith in bit_zero x ∙ low ∙ sym (bit_zero w)
off_else (suc t) w x e f (suc i) n =
    let p = pow-suc 2 t in
    bit_suc x i ∙ off_else t (w / 2) (x / 2) (omega arith) (sym (bit_suc w t) ∙ f) i (λ q. n (ap suc q)) ∙ sym (bit_suc w i)

pub one_off : (w t : ℕ) → w < 2 ^ 64 → t < 64 → bit w t ≡ 1 → w - 2 ^ t ≡ word_put 0 w t
one_off w t fits l e =
    let le = one_le w t e in
    let sum : w - 2 ^ t + 2 ^ t ≡ w = omega arith in
    same_word w t fits 0 (w - 2 ^ t) (omega arith) l (omega arith) (off_here t w (w - 2 ^ t) sum e) (λ i k n. off_else t w (w - 2 ^ t) sum e i n)

-- a word and one bit: what is left is that bit of the word
pub one_left : (w t : ℕ) → bit_and w (2 ^ t) ≡ bit w t * 2 ^ t
unfolding bit
one_left w t = let one : 2 ^ t ≡ (2 ^ 1 - 1) * 2 ^ t = omega arith in ap (bit_and w) (one ∙ sym (high_ones 1 t)) ∙ and_high w 1 t
