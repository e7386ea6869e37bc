-- How the pages of empty runs are found: one page, and the 64 pages of a word of page bits. Assumes nothing.
use mathlib.Core.Path.{◌≡◌, refl, sym, ap, ap₂, ◌∙◌}
use mathlib.Core.Logic.{inl, by_cases}
use mathlib.Core.Bool.{Bool, true, false}
use Prim.Native.Nat.{ℕ, suc, ◌+◌, ◌-◌, ◌*◌, ◌/◌, ◌%◌, ◌^◌, ◌≤◌, ◌<◌}
use native.Mathlib.Nat.{div-eq_of_lt}
use native.Mathlib.Decide.{ℕ_discrete}
use native.Mathlib.Omega.{arith}
use lib.Bits.{bit_and, bit_or, or_lt}
use lib.ListN.{get_or}
use mir.Val.{bool_byte}
use Rattle.bitrow.specs.Row.{digit, bit}
use Rattle.bitrow.proofs.Words.{bit_suc, bit_of_zero}
use Rattle.bitrow.proofs.Masks.{bit_or_lem, mask_in, mask_out}
use Rattle.records.specs.declared.Kind.{Kind}
use Rattle.records.specs.declared.Kind.TheVariants.{Edge, Free, Damaged, Large, Class, Inner}
use Rattle.records.specs.Kinds.{slots_of, ClassPart}
use Rattle.records.specs.Pool.{Pool, kind_at}
use Rattle.records.specs.Sound.{idle}
use Rattle.records.specs.Slots.{slots_clear}
use Rattle.records.proofs.Flags.{cond_eq, cond_ne}
use Rattle.records.proofs.SlotLaws.{page_idle}
use Rattle.blocks.specs.Stores.{Good}
use Rattle.blocks.proofs.KeepLaws.{idle_at}
use Rattle.sweep.specs.Found.{empty_by, empty_to, Marked}
use Rattle.sweep.proofs.SweepLaws.{none_idle}
use Rattle.sweep.proofs.FoundLaws.{found_by}

-- ---- one page

-- no slot bit, by the slot words
pub idle_is : (p : Pool) (g : ℕ) {v : Bool} → ((i : ℕ) → get_or p.slots i 0 < 2 ^ 64) → v ≡ slots_clear p.slots g 0 → bool_byte v ≡ digit (idle p g)
idle_is p g {v} bound e = go v ∙ ap digit (e ∙ page_idle p g bound)
  where
    go : (u : Bool) → bool_byte u ≡ digit u
    go true = refl
    go false = refl

-- a page that is no part of a class run
bare_part : (k : Kind) (own before : Bool) (r : ℕ) → ClassPart r k → r < 2 → 0 ≡ digit (empty_by k own before)
bare_part Edge own before r x l = refl
bare_part Free own before r x l = refl
bare_part Damaged own before r x l = refl
bare_part (Large k) own before r x l = refl
bare_part (Class b) own before r x l = absurd (omega arith)
bare_part (Inner w) own before r x l =
    by_cases (ℕ_discrete w 0) (λ z. ap digit (sym (cond_eq w 0 false before z))) (λ z. absurd (omega (arith, cond_ne {A = ℕ} w 0 0 3 z)))

-- one that is: `own` is true of a page behind the first
run_part : (k : Kind) (own before : Bool) (r : ℕ) → ClassPart r k → 2 ≤ r → ((w : ℕ) → k ≡ Inner w → own ≡ true)
    → bit_and (digit own) (bit_or (digit before) (3 - r)) ≡ digit (empty_by k own before)
run_part Edge own before r x l h = absurd (omega arith)
run_part Free own before r x l h = absurd (omega arith)
run_part Damaged own before r x l h = absurd (omega arith)
run_part (Large k) own before r x l h = absurd (omega arith)
run_part (Class b) own before r x l h =
    let e : 3 - r ≡ 1 = omega arith in ap (λ (f : ℕ). bit_and (digit own) (bit_or (digit before) f)) e ∙ go own before
  where
    go : (u v : Bool) → bit_and (digit u) (bit_or (digit v) 1) ≡ digit u
    go true true = refl
    go true false = refl
    go false true = refl
    go false false = refl
run_part (Inner w) own before r x l h =
    by_cases (ℕ_discrete w 0) (λ z. absurd (omega (arith, cond_eq {A = ℕ} w 0 0 3 z)))
    (λ z.
    let e : 3 - r ≡ 0 = omega (arith, cond_ne {A = ℕ} w 0 0 3 z) in
    ap₂ (λ (f : ℕ) (u : Bool). bit_and (digit u) (bit_or (digit before) f)) e (h w refl) ∙ go before ∙ ap digit (sym (cond_ne w 0 false before z)))
  where
    go : (v : Bool) → bit_and 1 (bit_or (digit v) 0) ≡ digit v
    go true = refl
    go false = refl

part_most : (k : Kind) (r : ℕ) → ClassPart r k → r ≤ 3
part_most Edge r x = omega arith
part_most Free r x = omega arith
part_most Damaged r x = omega arith
part_most (Large k) r x = omega arith
part_most (Class b) r x = omega arith
part_most (Inner w) r x =
    by_cases (ℕ_discrete w 0) (λ z. omega (arith, cond_eq {A = ℕ} w 0 0 3 z)) (λ z. omega (arith, cond_ne {A = ℕ} w 0 0 3 z))

module _ (c : ℕ) (p : Pool) (h : Good c p) (g : ℕ) (l : g < 512 * c) (r : ℕ) (part : ClassPart r (kind_at p g)) where
  pub part_low : r ≤ 3
  part_low = part_most (kind_at p g) r part

  pub no_part : r < 2 → 0 ≡ digit (empty_to p (suc g))
  no_part m = bare_part (kind_at p g) (idle p g) (empty_to p g) r part m ∙ ap digit (sym (found_by p g refl))

  pub a_part : 2 ≤ r → {own last first : ℕ} → own ≡ digit (idle p g) → last ≡ digit (empty_to p g) → first ≡ 3 - r
      → bit_and own (bit_or last first) ≡ digit (empty_to p (suc g))
  a_part m e f q =
      rw (e, f, q)
      (run_part (kind_at p g) (idle p g) (empty_to p g) r part m (λ w k. none_idle p g (idle_at c p h g l (ap slots_of k)))
      ∙ ap digit (sym (found_by p g refl)))

-- ---- 64 pages: each turn moves the mask down by one place and puts the page's digit at the top

abbrev top : ℕ → ℕ
top e = e * 2 ^ 63 % 2 ^ 64

top_here : (v : Bool) → bit (top (digit v)) 63 ≡ digit v
top_here true = mask_in 63 1 63 (omega arith) (omega arith)
top_here false = bit_of_zero 63

top_below : (v : Bool) (t : ℕ) → t < 63 → bit (top (digit v)) t ≡ 0
top_below true t l = mask_out 63 1 t (inl l)
top_below false t l = bit_of_zero t

bit_past : (m : ℕ) → m < 2 ^ 64 → bit m 64 ≡ 0
unfolding bit
bit_past m l = ap (λ (x : ℕ). x % 2) (div-eq_of_lt l)

-- the digit
moved_top : (m : ℕ) (v : Bool) → m < 2 ^ 64 → bit (bit_or (m / 2) (top (digit v))) 63 ≡ digit v
moved_top m v l =
    bit_or_lem (m / 2) (top (digit v)) 63 ∙ omega (arith, top_here v, bit_suc m 63, bit_past m l)

-- the places below it
moved_below : (m t : ℕ) (v : Bool) → t < 63 → bit (bit_or (m / 2) (top (digit v))) t ≡ bit m (suc t)
moved_below m t v l = bit_or_lem (m / 2) (top (digit v)) t ∙ omega (arith, top_below v t l, bit_suc m t)

-- of the pages of word k the first i are marked: they have the i highest places, and e is that of the last one
pub record Marking (p : Pool) (k i m e : ℕ) : Type 0 where
  pub small : m < 2 ^ 64
  pub bits : (j t : ℕ) → j < i → t + i ≡ 64 + j → bit m t ≡ digit (empty_to p (64 * k + suc j))
  pub end : e ≡ digit (empty_to p (64 * k + i))

pub marking_none : (p : Pool) (k e : ℕ) → e ≡ digit (empty_to p (64 * k)) → Marking p k 0 0 e
marking_none p k e h =
    record { small = omega arith; bits = λ j t l q. absurd (omega arith); end = h ∙ ap (λ (i : ℕ). digit (empty_to p i)) (omega arith) }

-- a turn
pub marking_on : {p : Pool} {k i m e : ℕ} (d : ℕ) → Marking p k i m e → i < 64 → d ≡ digit (empty_to p (suc (64 * k + i)))
    → Marking p k (i + 1) (bit_or (m / 2) (d * 2 ^ 63 % 2 ^ 64)) d
marking_on {p} {k} {i} {m} {e} d f l h =
    record {
      small = or_lt 64 (m / 2) (top d) (omega (arith, f.small)) (omega arith);
      bits = λ j t a q. ap (λ (x : ℕ). bit (bit_or (m / 2) (top x)) t) h
          ∙ by_cases (ℕ_discrete j i)
          (λ z. ap (bit (bit_or (m / 2) (top (digit v)))) (omega arith) ∙ moved_top m v f.small ∙ ap (λ (g : ℕ). digit (empty_to p g)) (omega arith))
          (λ z. moved_below m t v (omega arith) ∙ f.bits j (suc t) (omega arith) (omega arith));
      end = h ∙ ap (λ (g : ℕ). digit (empty_to p g)) (omega arith);
    }
  where
    v : Bool
    v = empty_to p (suc (64 * k + i))

pub marking_done : {p : Pool} {k i m e : ℕ} → Marking p k i m e → i ≤ 64 → 64 ≤ i → Marked p k m e
marking_done {p} {k} {i} {m} {e} f h l =
    record { bits = λ j a. f.bits j j (omega arith) (omega arith); end = f.end ∙ ap (λ (j : ℕ). digit (empty_to p (64 * k + j))) (omega arith) }
