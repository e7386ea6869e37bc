-- The words of 64 pages, freed one by one. Assumes nothing.
use mathlib.Core.Path.{◌≡◌, refl, sym, ap, ◌∙◌, subst}
use mathlib.Core.Logic.{inl, inr, by_cases, ⊎_elim}
use mathlib.Core.Bool.{cond}
use mathlib.Core.List.{List}
use Prim.Native.Nat.{ℕ, ◌+◌, ◌*◌, ◌/◌, ◌%◌, ◌^◌, ◌≤◌, ◌<◌}
use native.Mathlib.Decide.{ℕ_discrete}
use native.Mathlib.Omega.{arith}
use lib.Dec.{eqb}
use lib.ListN.{length, get_or, set, replicate, take, drop, length-set}
use lib.Seq.{get_or-set_same, get_or-set_other}
use borrow.Rule.Slice.PartMut.{put_mid}
use Rattle.std.proofs.lemmas.List.{places}
use Rattle.bitrow.specs.Row.{bit}
use Rattle.bitrow.proofs.Words.{bit_of_zero}
use Rattle.records.proofs.Flags.{cond_eq, cond_ne}
use Rattle.sweep.specs.Found.{WordsFreed}

-- ---- the word that a page gets

-- a page whose bit is 1 keeps its word
pub word_kept : (w i x : ℕ) → w / 2 ^ i % 2 ≡ 1 → x ≡ cond (eqb (bit w i) 1) x 0
unfolding bit
word_kept w i x e = sym (cond_eq (w / 2 ^ i % 2) 1 x 0 e)

-- another gets the word 0
pub word_freed : (w i x : ℕ) → (w / 2 ^ i % 2 ≡ 1 → ⊥) → 0 ≡ cond (eqb (bit w i) 1) x 0
unfolding bit
word_freed w i x n = sym (cond_ne (w / 2 ^ i % 2) 1 x 0 n)

-- as all do where no bit is 1
pub zero_freed : (i x : ℕ) → 0 ≡ cond (eqb (bit 0 i) 1) x 0
zero_freed i x = let z = bit_of_zero i in sym (cond_ne (bit 0 i) 1 x 0 (λ e. omega arith))

-- ---- the loop

pub freed_none : (ws : List ℕ) (k w : ℕ) → WordsFreed ws ws k w 0
freed_none ws k w = record { long = refl; here = λ i l. absurd (omega arith); other = λ j o. refl }

-- the page behind those that are done has its word as it was
pub freed_next : {ws ws' : List ℕ} {k w n : ℕ} → WordsFreed ws ws' k w n → get_or ws' (64 * k + n) 0 ≡ get_or ws (64 * k + n) 0
freed_next {k = k} {n = n} f = f.other (64 * k + n) (inr (omega arith))

-- a turn
pub freed_more : {ws ws' : List ℕ} {k w n : ℕ} (x : ℕ) → WordsFreed ws ws' k w n → 64 * k + n < length ws
    → x ≡ cond (eqb (bit w n) 1) (get_or ws' (64 * k + n) 0) 0 → WordsFreed ws (set ws' (64 * k + n) x) k w (n + 1)
freed_more {ws} {ws'} {k} {w} {n} x f l e =
    record {
      long = length-set ws' (64 * k + n) x ∙ f.long;
      here = λ i a. by_cases (ℕ_discrete i n)
          (λ q. ap (λ (j : ℕ). get_or (set ws' (64 * k + n) x) (64 * k + j) 0) q
          ∙ get_or-set_same ws' (64 * k + n) x 0 (omega (arith, f.long))
          ∙ e ∙ ap (λ (y : ℕ). cond (eqb (bit w n) 1) y 0) (freed_next f)
          ∙ ap (λ (j : ℕ). cond (eqb (bit w j) 1) (get_or ws (64 * k + j) 0) 0) (sym q))
          (λ q. get_or-set_other ws' (64 * k + n) (64 * k + i) x 0 (λ z. q (omega arith)) ∙ f.here i (omega arith));
      other = λ j o. ⊎_elim
          (λ a. get_or-set_other ws' (64 * k + n) j x 0 (λ z. omega arith) ∙ f.other j (inl a))
          (λ a. get_or-set_other ws' (64 * k + n) j x 0 (λ z. omega arith) ∙ f.other j (inr (omega arith))) o;
    }

pub freed_done : {ws ws' : List ℕ} {k w n : ℕ} → WordsFreed ws ws' k w n → n ≤ 64 → 64 ≤ n → WordsFreed ws ws' k w 64
freed_done {ws} {ws'} {k} {w} {n} f h l = subst (WordsFreed ws ws' k w) (omega arith) f

-- by another number for w
pub freed_by : {ws ws' : List ℕ} {k w v n : ℕ} → WordsFreed ws ws' k w n → v ≡ w → WordsFreed ws ws' k v n
freed_by {ws} {ws'} {k} {w} {v} {n} f e = subst (λ (u : ℕ). WordsFreed ws ws' k u n) (sym e) f

-- ---- all at once: the 64 words as one part, of which each is 0 then

pub all_freed : (ws ms : List ℕ) (k n : ℕ) → 64 * k + 64 ≤ length ws → n ≡ 64 → ms ≡ replicate (length (take n (drop (64 * k) ws))) 0
    → WordsFreed ws (put_mid (64 * k) n ws ms) k 0 64
all_freed ws ms k n l e f =
    record {
      long = grind (arith, places);
      here = λ i a. zero i (omega arith) ∙ zero_freed i (get_or ws (64 * k + i) 0);
      other = λ j o. ⊎_elim (λ a. low j a) (λ a. high j (omega arith)) o;
    }
  where
    long : length ms ≡ n
    long = grind (arith, places)

    zero : (i : ℕ) → i < n → get_or (put_mid (64 * k) n ws ms) (64 * k + i) 0 ≡ 0
    zero i a = grind (arith, places)

    low : (j : ℕ) → j < 64 * k → get_or (put_mid (64 * k) n ws ms) j 0 ≡ get_or ws j 0
    low j a = grind (arith, places)

    high : (j : ℕ) → 64 * k + n ≤ j → get_or (put_mid (64 * k) n ws ms) j 0 ≡ get_or ws j 0
    high j a = grind (arith, places)
