-- How the rows start: the numbers of the classes, and no mark. Assumes nothing.
use mathlib.Core.Path.{◌≡◌, refl, sym, ap, ap₂, ◌∙◌, subst}
use mathlib.Core.Logic.{◌≢◌, ◌⊎◌, inl, inr, ⊎_elim, by_cases}
use mathlib.Core.Bool.{Bool, false, not, ◌&&◌}
use mathlib.Core.List.{List}
use Prim.Native.Nat.{ℕ, ◌+◌, ◌-◌, ◌*◌, ◌/◌, ◌%◌, ◌^◌, ◌≤◌, ◌<◌, min}
use native.Mathlib.Decide.{ℕ_discrete, dec_lt}
use native.Mathlib.Omega.{arith}
use lib.ListN.{length, get_or, set, replicate, length-set}
use Rattle.std.proofs.lemmas.List.{length-replicate, get_or-replicate}
use lib.Seq.{get_or-set_same, get_or-set_other}
use lib.Pow.{shr_le}
use borrow.Author.Tests.{eq-eqb, ne_eqb, lt-ltb, le-ltb}
use Rattle.bitrow.specs.Row.{bit_at, is_set}
use Rattle.bitrow.specs.Mask.{mask_of}
use Rattle.bitrow.proofs.Words.{bit_of_zero}
use Rattle.bitrow.proofs.Masks.{mask_value}
use Rattle.classes.specs.Classes.{size, slots}
use Rattle.reserve.specs.Reserve.{has_slot}
use Rattle.hints.specs.Hints.{row_of, slots_in, Cut, started, Blank}
use Rattle.hints.proofs.RowLaws.{row_at, row_long}

-- ---- one number

low_mask : (m : ℕ) → m ≤ 64 → (2 ^ 64 - 1) / 2 ^ (64 - m) ≡ mask_of 0 m
low_mask m l =
    let x = shr_le (2 ^ 64 - 1) (64 - m) in
    let same : (2 ^ 64 - 1) / 2 ^ (64 - m) ≡ (2 ^ 64 - 1) / 2 ^ (64 - m) * 2 ^ 0 % 2 ^ 64 = omega arith in
    same ∙ mask_value 0 m l (omega arith)

module _ (b j : ℕ) where
  pub started_mark : j < 130 → 0 ≡ started b j
  unfolding started
  started_mark l = rw (lt-ltb j 130 l) refl

  started_word : 130 ≤ j → j < 138 → started b j ≡ mask_of 0 (slots_in b (j - 130))
  unfolding started
  started_word l m = rw (le-ltb j 130 l, lt-ltb j 138 m) refl

  module _ (n : ℕ) (e : n ≡ slots b) (l : 130 ≤ j) where
    pub started_none : j < 138 → n ≤ 64 * (j - 130) → 0 ≡ started b j
    started_none m x = let z : 0 ≡ slots_in b (j - 130) = omega arith in ap (mask_of 0) z ∙ sym (started_word l m)

    pub started_mask : j < 138 → (x : ℕ) → x ≡ min (n - 64 * (j - 130)) 64 → (2 ^ 64 - 1) / 2 ^ (64 - x) ≡ started b j
    started_mask m x f = let z : x ≡ slots_in b (j - 130) = omega arith in low_mask x (omega arith) ∙ ap (mask_of 0) z ∙ sym (started_word l m)

  pub started_count : (n : ℕ) → n ≡ slots b → j ≡ 139 → n ≡ started b j
  unfolding started
  started_count n e f = rw f e

  module _ (z : ℕ) (e : z ≡ size b) where
    pub started_share : j ≡ 140 → 4294967295 / z + 1 ≡ started b j
    unfolding started
    started_share f = rw (f, e) refl

    pub started_size : 138 ≤ j → j ≢ 139 → j ≢ 140 → z ≡ started b j
    unfolding started
    started_size l m n = rw (le-ltb j 130 (omega arith), le-ltb j 138 l, ne_eqb j 139 m, ne_eqb j 140 n) e

-- ---- number by number

-- the numbers of the classes before one, and its own up to a place; n is 14 times the class, and the place
pub record Started (rows : List ℕ) (n : ℕ) : Type 0 where
  pub long : length rows ≡ 4320
  pub at : (b j : ℕ) → b < 30 → j < 144 → (j < 130) ⊎ (14 * b + j < n) → get_or rows (144 * b + j) 0 ≡ started b j

pub started_first : {rows : List ℕ} {n : ℕ} → n ≡ 4320 → rows ≡ replicate n 0 → Started rows 130
started_first {rows} {n} l e =
    record {
      long = ap length e ∙ length-replicate n 0 ∙ l;
      at = λ b j x y z. ap (λ (r : List ℕ). get_or r (144 * b + j) 0) e ∙ get_or-replicate n (144 * b + j) 0 0 (omega arith)
          ∙ started_mark b j (⊎_elim (λ m. m) (λ m. omega arith) z);
    }

pub started_on : {rows : List ℕ} (b j : ℕ) → Started rows (14 * b + j) → b < 30 → 130 ≤ j → j < 144 → (w : ℕ) → w ≡ started b j
    → Started (set rows (144 * b + j) w) (14 * b + (j + 1))
started_on {rows} b j h bl low high w e =
    let n = h.long in
    let to : ℕ = 144 * b + j in
    record {
      long = length-set rows to w ∙ n;
      at =
          λ d k x y z. by_cases (ℕ_discrete (144 * d + k) to)
          (λ m. let p : b ≡ d = omega arith in let q : j ≡ k = omega arith in
          ap (λ (i : ℕ). get_or (set rows to w) i 0) m ∙ get_or-set_same rows to w 0 (omega arith) ∙ e ∙ ap₂ started p q)
          (λ m. get_or-set_other rows to (144 * d + k) w 0 m ∙ h.at d k x y (⊎_elim inl (λ u. by_cases (dec_lt k 130) inl (λ v. inr (omega arith))) z));
    }

-- by another number for n
pub started_by : {rows : List ℕ} {n m : ℕ} → Started rows n → n ≡ m → Started rows m
started_by {rows} h e = subst (Started rows) e h

-- a word that is 0 has no bit
zero_off : (row : List ℕ) (i : ℕ) → get_or row (i / 64) 0 ≡ 0 → is_set row i ≡ false
unfolding is_set bit_at
zero_off row i e = rw (e, bit_of_zero (i % 64)) refl

module _ {rows : List ℕ} {n : ℕ} (h : Started rows n) (all : 550 ≤ n) (b : ℕ) (l : b < 30) where
  number : (j : ℕ) → j < 144 → get_or (row_of rows b) j 0 ≡ started b j
  number j m = row_at rows b j m ∙ h.at b j l m (inr (omega arith))

  clear : (j : ℕ) → j < 130 → get_or (row_of rows b) j 0 ≡ 0
  clear j m = number j (omega arith) ∙ sym (started_mark b j m)

  cut : Cut b (row_of rows b)
  cut =
      record {
        long = row_long rows b h.long l;
        masks =
            λ k m. let e : 130 + k - 130 ≡ k = omega arith in
            number (130 + k) (omega arith) ∙ started_word b (130 + k) (omega arith) (omega arith) ∙ ap (λ (x : ℕ). mask_of 0 (slots_in b x)) e;
        bytes = number 138 (omega arith) ∙ sym (started_size b 138 (size b) refl (omega arith) (omega arith) (omega arith));
        count = number 139 (omega arith) ∙ sym (started_count b 139 (slots b) refl refl);
        share = number 140 (omega arith) ∙ sym (started_share b 140 (size b) refl refl);
      }

pub blank : {rows : List ℕ} {n : ℕ} → Started rows n → 550 ≤ n → Blank rows
blank {rows} {n} h m p opens wide =
    record {
      cuts = record { long = h.long; cut = cut h m };
      wide = wide;
      row =
          λ b l. record {
            marks =
                λ g x. zero_off (row_of rows b) g (clear h m b l (g / 64) (omega arith))
                ∙ sym (ap (λ (v : Bool). v && has_slot p b g) (le-ltb g 0 (omega arith)));
            tops =
                λ j x. zero_off (row_of rows b) (8192 + j) (clear h m b l ((8192 + j) / 64) (omega arith))
                ∙ sym (ap not (eq-eqb (get_or (row_of rows b) j 0) 0 (clear h m b l j (omega arith))));
          };
      byte = λ b g l. absurd (omega arith);
    }
