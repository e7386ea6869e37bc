-- The slot bits of a page, by its slot words. Assumes nothing.
use mathlib.Core.Path.{◌≡◌, refl, sym, ap, ap₂, ◌∙◌}
use mathlib.Core.Logic.{by_cases}
use mathlib.Core.Bool.{Bool, true, false, cond, ◌&&◌}
use mathlib.Core.List.{List}
use Prim.Native.Nat.{ℕ, zero, suc, ◌+◌, ◌*◌, ◌-◌, ◌%◌, ◌/◌, ◌^◌, ◌≤◌, ◌<◌}
use native.Mathlib.Decide.{dec_lt}
use native.Mathlib.Nat.{div-eq_of_lt, div-one}
use native.Mathlib.Omega.{arith}
use lib.Dec.{eqb, ltb}
use lib.ListN.{length, get_or, take, drop, length-drop}
use lib.Bits.{bit_or, or_add_and, and_le_l, and_le_r}
use lib.Pow.{shr_le}
use borrow.Author.Tests.{eqb-true, eqb-false, eq-eqb, ne_eqb, ltb-true, lt-ltb, le-ltb}
use Rattle.std.specs.List.{fold}
use Rattle.std.proofs.lemmas.List.{get_or-drop}
use Rattle.std.proofs.lemmas.List.Sums.{fold_more}
use Rattle.bitrow.specs.Row.{bit, bit_at, is_set}
use Rattle.bitrow.proofs.Words.{bit_shr, bit_of_zero, bit_le}
use Rattle.bitrow.proofs.Ext.{word_ext}
use Rattle.records.specs.Kinds.{slots_of}
use Rattle.records.specs.Pool.{Pool, kind_at, slot_at}
use Rattle.records.specs.Sound.{all, named, clean, idle}
use Rattle.records.specs.Slots.{word_clear, slots_clear}
use Rattle.records.proofs.Flags.{flag_eq, and_made, and_left, and_right, all_at, all_of}

-- ---- the OR of words

-- the OR of two numbers is 0 where both are
pub or_none : (a b : ℕ) → eqb (bit_or a b) 0 ≡ eqb b 0 && eqb a 0
or_none a b =
    flag_eq (eqb (bit_or a b) 0) (eqb b 0 && eqb a 0)
    (λ e. let z = eqb-true (bit_or a b) 0 e in
    and_made (eqb b 0) (eqb a 0) (eq-eqb b 0 (omega (arith, or_add_and a b, and_le_l a b, and_le_r a b)))
    (eq-eqb a 0 (omega (arith, or_add_and a b, and_le_l a b, and_le_r a b))))
    (λ e. eq-eqb (bit_or a b) 0
    (omega (arith, or_add_and a b, eqb-true b 0 (and_left (eqb b 0) (eqb a 0) e), eqb-true a 0 (and_right (eqb b 0) (eqb a 0) e))))

pub all_none : (f : ℕ → Bool) → eqb 0 0 ≡ all 0 f
unfolding all
all_none f = eq-eqb 0 0 refl

-- a turn of a loop that takes the OR of words
pub or_turn : (f : ℕ → Bool) (j acc x : ℕ) → eqb acc 0 ≡ all j f → eqb x 0 ≡ f j → eqb (bit_or acc x) 0 ≡ all (j + 1) f
unfolding all
or_turn f j acc x e h =
    let r : j + 1 ≡ suc j = omega arith in
    rw r (or_none acc x ∙ ap₂ (λ (u v : Bool). u && v) h e)

-- the OR of the first n words
or_all : (f : ℕ → Bool) (l : List ℕ) (n : ℕ) → n ≤ length l → ((j : ℕ) → j < n → eqb (get_or l j 0) 0 ≡ f j) → eqb (fold bit_or 0 (take n l)) 0 ≡ all n f
or_all f l zero i h = all_none f
or_all f l (suc n) i h =
    let r : n + 1 ≡ suc n = omega arith in
    let e = or_turn f n (fold bit_or 0 (take n l)) (get_or l n 0) (or_all f l n (omega arith) (λ j a. h j (omega arith))) (h n (omega arith)) in
    rw (← r) (ap (λ (x : ℕ). eqb x 0) (fold_more bit_or 0 l n 0 (omega arith)) ∙ e)

-- ---- slot words

word_plain : (ss : List ℕ) (g j : ℕ) → eqb (get_or ss (8 * g + j) 0) 0 ≡ word_clear ss g 0 j
unfolding word_clear
word_plain ss g j =
    let r : 0 - 64 * j ≡ 0 = omega arith in
    rw r (ap (λ (x : ℕ). eqb x 0) (sym (div-one (get_or ss (8 * g + j) 0))))

-- the eight slot words of a page at once
pub any_slots : (ss : List ℕ) (g : ℕ) → 8 * g + 8 ≤ length ss → eqb (fold bit_or 0 (take 8 (drop (8 * g) ss))) 0 ≡ slots_clear ss g 0
unfolding slots_clear
any_slots ss g h =
    or_all (word_clear ss g 0) (drop (8 * g) ss) 8 (simp length-drop (omega arith))
    (λ j l. ap (λ (x : ℕ). eqb x 0) (get_or-drop (8 * g) ss j 0) ∙ word_plain ss g j)

-- the end of a loop over them
pub slots_done : (ss : List ℕ) (g n j acc : ℕ) → j ≤ 8 → 8 ≤ j → eqb acc 0 ≡ all j (word_clear ss g n) → eqb acc 0 ≡ slots_clear ss g n
unfolding slots_clear
slots_done ss g n j acc l h e = let q : j ≡ 8 = omega arith in e ∙ ap (λ (i : ℕ). all i (word_clear ss g n)) q

-- ---- the bits of a word from a place on

bit_high : (x m t : ℕ) → x / 2 ^ m ≡ 0 → m ≤ t → bit x t ≡ 0
bit_high x m t e h =
    let r : m + (t - m) ≡ t = omega arith in
    ap (bit x) (sym r) ∙ sym (bit_shr x m (t - m)) ∙ ap (λ (y : ℕ). bit y (t - m)) e ∙ bit_of_zero (t - m)

high_none : (x m : ℕ) → x < 2 ^ 64 → ((t : ℕ) → t < 64 → m ≤ t → bit x t ≡ 0) → x / 2 ^ m ≡ 0
high_none x m h f =
    let l = shr_le x m in
    word_ext 64 (x / 2 ^ m) 0 (omega arith) (omega arith)
    (λ t a. bit_shr x m t
    ∙ by_cases (dec_lt (m + t) 64) (λ b. f (m + t) b (omega arith)) (λ b. bit_high x 64 (m + t) (div-eq_of_lt h) (omega arith))
    ∙ sym (bit_of_zero t))

-- ---- the slot bits of a page

slot_bit : (p : Pool) (g j t : ℕ) → t < 64 → slot_at p g (64 * j + t) ≡ eqb (bit (get_or p.slots (8 * g + j) 0) t) 1
unfolding slot_at is_set bit_at
slot_bit p g j t l =
    let q : (512 * g + (64 * j + t)) / 64 ≡ 8 * g + j = omega arith in
    let r : (512 * g + (64 * j + t)) % 64 ≡ t = omega arith in
    rw (q, r) refl

-- a bit that is 0, or names one of n slots
abbrev within : Pool → ℕ → ℕ → ℕ → Bool
within p g n s = cond (slot_at p g s) (ltb s n) true

within_free : (p : Pool) (g n s : ℕ) → slot_at p g s ≡ false → within p g n s ≡ true
within_free p g n s e = ap (λ (v : Bool). cond v (ltb s n) true) e

within_low : (p : Pool) (g n s : ℕ) → s < n → within p g n s ≡ true
within_low p g n s l = ap (λ (v : Bool). cond (slot_at p g s) v true) (lt-ltb s n l) ∙ go (slot_at p g s)
  where
    go : (v : Bool) → cond v true true ≡ true
    go true = refl
    go false = refl

within_none : (p : Pool) (g n s : ℕ) → within p g n s ≡ true → n ≤ s → slot_at p g s ≡ false
within_none p g n s e h = go (slot_at p g s) e
  where
    go : (v : Bool) → cond v (ltb s n) true ≡ true → v ≡ false
    go true x = let l = ltb-true s n x in absurd (omega arith)
    go false x = refl

bit_clear : (w t : ℕ) → eqb (bit w t) 1 ≡ false → bit w t ≡ 0
bit_clear w t e = let l = bit_le w t in let n = eqb-false (bit w t) 1 e in omega arith

-- the slot words of a page, by their values, and its slot bits one by one
pub slots_within : (p : Pool) (g n : ℕ) → ((i : ℕ) → get_or p.slots i 0 < 2 ^ 64) → slots_clear p.slots g n ≡ all 512 (within p g n)
unfolding slots_clear word_clear
slots_within p g n bound =
    flag_eq (slots_clear p.slots g n) (all 512 (within p g n))
    (λ e. all_of 512 (within p g n) (λ s l. by_cases (dec_lt s n) (λ a. within_low p g n s a) (λ a. up e s l (omega arith))))
    (λ e. all_of 8 (word_clear p.slots g n) (λ j l. down e j l))
  where
    up : all 8 (word_clear p.slots g n) ≡ true → (s : ℕ) → s < 512 → n ≤ s → within p g n s ≡ true
    up e s l h =
        let z = eqb-true (get_or p.slots (8 * g + s / 64) 0 / 2 ^ (n - 64 * (s / 64))) 0
        (all_at 8 (word_clear p.slots g n) e (s / 64) (omega arith)) in
        let r : 64 * (s / 64) + s % 64 ≡ s = omega arith in
        within_free p g n s
        (ap (slot_at p g) (sym r) ∙ slot_bit p g (s / 64) (s % 64) (omega arith)
        ∙ ap (λ (x : ℕ). eqb x 1) (bit_high (get_or p.slots (8 * g + s / 64) 0) (n - 64 * (s / 64)) (s % 64) z (omega arith))
        ∙ ne_eqb 0 1 (omega arith))

    down : all 512 (within p g n) ≡ true → (j : ℕ) → j < 8 → word_clear p.slots g n j ≡ true
    down e j l =
        eq-eqb (get_or p.slots (8 * g + j) 0 / 2 ^ (n - 64 * j)) 0
        (high_none (get_or p.slots (8 * g + j) 0) (n - 64 * j) (bound (8 * g + j))
        (λ t a b. bit_clear (get_or p.slots (8 * g + j) 0) t
        (sym (slot_bit p g j t a) ∙ within_none p g n (64 * j + t) (all_at 512 (within p g n) e (64 * j + t) (omega arith)) (omega arith))))

-- those that name no slot of the run that starts there
pub page_clean : (p : Pool) (g : ℕ) → ((i : ℕ) → get_or p.slots i 0 < 2 ^ 64) → slots_clear p.slots g (slots_of (kind_at p g)) ≡ clean p g
unfolding clean named
page_clean p g bound = slots_within p g (slots_of (kind_at p g)) bound

-- any
pub page_idle : (p : Pool) (g : ℕ) → ((i : ℕ) → get_or p.slots i 0 < 2 ^ 64) → slots_clear p.slots g 0 ≡ idle p g
unfolding idle
page_idle p g bound = slots_within p g 0 bound ∙ ap (all 512) (λ x s. cond (slot_at p g s) (le-ltb s 0 (omega arith) x) true)
