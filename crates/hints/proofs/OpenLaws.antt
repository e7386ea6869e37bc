-- The byte of a run: which of its slot words have a free slot. Assumes nothing.
use mathlib.Core.Path.{◌≡◌, refl, sym, ap, ◌∙◌, subst}
use mathlib.Core.Logic.{◌≢◌, inr, by_cases}
use mathlib.Core.Bool.{Bool, true, false, not}
use mathlib.Core.List.{List}
use Prim.Native.Nat.{ℕ, zero, suc, ◌+◌, ◌-◌, ◌*◌, ◌/◌, ◌%◌, ◌^◌, ◌≤◌, ◌<◌}
use native.Mathlib.Decide.{ℕ_discrete, dec_lt}
use native.Mathlib.Omega.{arith}
use lib.Bits.{and_le_l, or_lt}
use lib.Pow.{pow-lt}
use lib.Count.{count_trailing_zeros}
use lib.Dec.{eqb}
use lib.ListN.{get_or}
use borrow.Author.Tests.{eqb-false, eq-eqb, ne_eqb, not-true}
use Rattle.bitrow.specs.Row.{digit, bit, bit_at, is_set, word_put, Lowest}
use Rattle.bitrow.specs.Mask.{mask_of}
use Rattle.bitrow.proofs.Words.{bit_of_zero, trailing_lowest}
use Rattle.bitrow.proofs.Rows.{bit_at_le}
use Rattle.bitrow.proofs.Masks.{mask_in, mask_out, mask_lt, put_same}
use Rattle.bitrow.proofs.Marks.{zero_clear}
use Rattle.bitrow.proofs.Ext.{word_ext}
use Rattle.classes.specs.Classes.{slots}
use Rattle.classes.proofs.ClassLaws.{any_row}
use Rattle.records.specs.declared.Kind.TheVariants.{Class}
use Rattle.records.specs.Kinds.{slots_of}
use Rattle.records.specs.Pool.{Pool, kind_at, slot_at}
use Rattle.records.proofs.Flags.{flag_eq}
use Rattle.records.proofs.WalkLaws.{sound_walks}
use Rattle.blocks.specs.Stores.{Good}
use Rattle.blocks.proofs.KeepLaws.{bare}
use Rattle.reserve.specs.Reserve.{lowest_free, has_slot}
use Rattle.reserve.proofs.PlanLaws.{has_free, free_first}
use Rattle.reserve.proofs.MeanLaws.{found_run}
use Rattle.hints.specs.Hints.{slots_in, Spare, Says, Opens}

-- ---- bits of words

-- bit i of a row is bit t of its word j
pub bit_of : (ws : List ℕ) (i j t : ℕ) → i ≡ 64 * j + t → t < 64 → bit_at ws i ≡ bit (get_or ws j 0) t
unfolding bit_at
bit_of ws i j t e l = let q : i / 64 ≡ j = omega arith in let r : i % 64 ≡ t = omega arith in rw (q, r) refl

clear_bit : (ws : List ℕ) (i : ℕ) → is_set ws i ≡ false → bit_at ws i ≡ 0
unfolding is_set
clear_bit ws i e = let l = bit_at_le ws i in let n = eqb-false (bit_at ws i) 1 e in omega arith

pub put_some : (w k : ℕ) → k < 64 → word_put 1 w k ≢ 0
put_some w k l e =
    let one = put_same 1 w k (omega arith) l in
    let none : bit (word_put 1 w k) k ≡ 0 = ap (λ (x : ℕ). bit x k) e ∙ bit_of_zero k in omega arith

-- a number of n bits with one of them changed
pub put_under : (v w k n : ℕ) → w < 2 ^ n → k < n → word_put v w k < 2 ^ n
put_under zero w k n l m = let h = and_le_l w (2 ^ 64 - 1 - 2 ^ k) in omega arith
put_under (suc v) w k n l m = or_lt n w (2 ^ k) l (pow-lt {i = k} {j = n} m)

-- a word that has no bit behind its n slots has a free one where it is not the mask of them
pub says_mask : (w n : ℕ) → n ≤ 64 → w < 2 ^ 64 → ((i : ℕ) → n ≤ i → i < 64 → bit w i ≡ 0) → Says w n (digit (not (eqb w (mask_of 0 n))))
says_mask w n l fits behind =
    by_cases (ℕ_discrete w (mask_of 0 n))
    (λ e. subst (λ (t : Bool). Says w n (digit (not t))) (sym (eq-eqb w (mask_of 0 n) e))
    ((λ x. absurd (omega arith)), λ x u m. ap (λ (y : ℕ). bit y u) e ∙ mask_in 0 n u (omega arith) (omega arith)))
    (λ e. subst (λ (t : Bool). Says w n (digit (not t))) (sym (ne_eqb w (mask_of 0 n) e)) ((λ x. spare e), λ x. absurd (omega arith)))
  where
    spare : w ≢ mask_of 0 n → Spare w n
    spare other =
        let t : ℕ = count_trailing_zeros 64 (w + (1 - 0)) in
        let low : Lowest 64 w 0 t = trailing_lowest 64 0 w (omega arith) in
        by_cases (dec_lt t n) (λ x. record { place = t; few = x; free = low.here (omega arith) })
        (λ x. absurd (other (word_ext 64 w (mask_of 0 n) fits (mask_lt 0 n (omega arith))
        (λ i y. by_cases (dec_lt i n) (λ z. low.below i (omega arith) ∙ sym (mask_in 0 n i (omega arith) (omega arith)))
        (λ z. behind i (omega arith) y ∙ sym (mask_out 0 n i (inr (omega arith))))))))

-- behind the last slot of a run the bits of sound records are 0
pub behind_clear : (c : ℕ) (p : Pool) → Good c p → (g b : ℕ) → g < 512 * c → kind_at p g ≡ Class b → (k u : ℕ) → k < 8 → u < 64 → slots b ≤ 64 * k + u
    → bit (get_or p.slots (8 * g + k) 0) u ≡ 0
unfolding slot_at
behind_clear c p h g b l e k u m n few =
    let r : slots_of (kind_at p g) ≡ slots b = ap slots_of e in
    sym (bit_of p.slots (512 * g + (64 * k + u)) (8 * g + k) u (omega arith) n)
    ∙ clear_bit p.slots (512 * g + (64 * k + u))
    (bare p g ((sound_walks c p h.whole).tidy g (omega arith) (omega arith)) (64 * k + u) (omega arith) (omega arith))

-- ---- the byte

module _ {ss : List ℕ} {b g o : ℕ} (h : Opens ss b g o) where
  -- its lowest 1 is one of the eight
  pub lowest_near : o ≢ 0 → {m k : ℕ} → 8 ≤ m → Lowest m o 1 k → k < 8
  lowest_near n {m} {k} l f =
      by_cases (dec_lt k 8) (λ x. x)
      (λ x. absurd (n (word_ext 8 o 0 h.byte (omega arith) (λ i y. f.below i (omega arith) ∙ sym (bit_of_zero i)))))

  module _ (n : o ≢ 0) (k t : ℕ) (f : Lowest 64 o 1 k) (w : Lowest 64 (get_or ss (8 * g + k) 0) 0 t) where
    near : k < 8
    near = lowest_near n (omega arith) f

    -- the lowest 0 of the word is a slot's
    within : t < slots_in b k
    within =
        let l = near in
        let s = (h.which k l).0 (f.here (omega arith)) in let few = s.few in let free = s.free in
        by_cases (dec_lt s.place t) (λ x. let one = w.below s.place x in absurd (omega arith)) (λ x. omega arith)

    -- all bits of words below are 1, and those below in this one
    below : (u : ℕ) → u < 64 * k + t → bit_at ss (512 * g + u) ≡ 1
    below u l =
        let a = within in let d = near in
        bit_of ss (512 * g + u) (8 * g + u / 64) (u % 64) (omega arith) (omega arith)
        ∙ by_cases (ℕ_discrete (u / 64) k)
        (λ e. ap (λ (j : ℕ). bit (get_or ss (8 * g + j) 0) (u % 64)) e ∙ w.below (u % 64) (omega arith))
        (λ e. (h.which (u / 64) (omega arith)).1 (f.below (u / 64) (omega arith)) (u % 64) (omega arith))

    -- the lowest free slot of the run: the lowest 0 of the first word that has a free slot
    pub lowest_open : (t < slots_in b k) × (lowest_free ss b g ≡ 64 * k + t)
    lowest_open =
        let a = within in let first = free_first ss b g in
        let r : ℕ = lowest_free ss b g in (
          a,
          by_cases (dec_lt r (64 * k + t)) (λ x. let one = below r x in let none = first.here (omega arith) in absurd (omega arith))
              (λ x. by_cases (dec_lt (64 * k + t) r)
              (λ y. let one = first.below (512 * g + (64 * k + t)) (omega arith) (omega arith) in
              let none = bit_of ss (512 * g + (64 * k + t)) (8 * g + k) t (omega arith) (omega arith) ∙ w.here (omega arith) in absurd (omega arith))
              (λ y. omega arith)),
        )

-- a run has a free slot where its byte is not 0
pub open_has : (p : Pool) {b g o : ℕ} → kind_at p g ≡ Class b → Opens p.slots b g o → has_slot p b g ≡ not (eqb o 0)
unfolding slot_at
open_has p {b} {g} {o} kind h =
    flag_eq (has_slot p b g) (not (eqb o 0)) (λ e. ap not (ne_eqb o 0 (there e))) (λ e. back (eqb-false o 0 (not-true (eqb o 0) e)))
  where
    there : has_slot p b g ≡ true → o ≢ 0
    there e z =
        let f = has_free (g + 1) p b g (omega arith) e in
        let s : ℕ = lowest_free p.slots b g in
        let few = f.slot in let most = (any_row b).slots_most in
        let none = sym (bit_of p.slots (512 * g + s) (8 * g + s / 64) (s % 64) (omega arith) (omega arith)) ∙ clear_bit p.slots (512 * g + s) f.bit in
        let one = (h.which (s / 64) (omega arith)).1 (ap (λ (x : ℕ). bit x (s / 64)) z ∙ bit_of_zero (s / 64)) (s % 64) (omega arith) in omega arith

    back : o ≢ 0 → has_slot p b g ≡ true
    back n =
        let low = trailing_lowest 8 1 o (omega arith) in
        let j : ℕ = count_trailing_zeros 8 (o + (1 - 1)) in
        let near = lowest_near h n (omega arith) low in
        let s = (h.which j near).0 (low.here near) in let few = s.few in
        found_run p b g (64 * j + s.place) kind (omega arith)
        (zero_clear p.slots (512 * g + (64 * j + s.place))
        (bit_of p.slots (512 * g + (64 * j + s.place)) (8 * g + j) s.place (omega arith) (omega arith) ∙ s.free))
