-- How the marks come to be: a run is looked at anew, page by page. Assumes nothing.
use mathlib.Core.Path.{◌≡◌, refl, sym, ap, ◌∙◌, subst}
use mathlib.Core.Logic.{◌≢◌, by_cases}
use mathlib.Core.Bool.{Bool, true, false, not, ◌&&◌, false≢true}
use mathlib.Core.List.{List}
use Prim.Native.Nat.{ℕ, ◌+◌, ◌-◌, ◌*◌, ◌%◌, ◌^◌, ◌≤◌, ◌<◌}
use native.Mathlib.Decide.{ℕ_discrete, dec_lt}
use native.Mathlib.Omega.{arith}
use lib.Bits.{bit_or}
use lib.Dec.{eqb, ltb}
use lib.ListN.{length, get_or, set}
use lib.Pow.{pow_mono}
use borrow.Author.Tests.{eq-eqb, ne_eqb, lt-ltb, le-ltb}
use borrow.Rule.Slice.PartMut.{put_mid}
use Rattle.bitrow.specs.Row.{digit, bit, word_put}
use Rattle.bitrow.specs.Mask.{mask_of}
use Rattle.bitrow.proofs.Words.{digit_lt}
use Rattle.bitrow.proofs.Lows.{put_had}
use Rattle.bitrow.proofs.Masks.{put_same, put_other, bit_high}
use Rattle.records.specs.declared.Kind.{Kind}
use Rattle.records.specs.declared.Kind.TheVariants.{Edge, Free, Damaged, Large, Class, Inner}
use Rattle.records.specs.Kinds.{is_run_of}
use Rattle.records.specs.Pool.{Pool, kind_at}
use Rattle.records.specs.Calls.{admit_of}
use Rattle.records.proofs.RunLaws.{class_at_low}
use Rattle.records.proofs.AdmitLaws.{admitted}
use Rattle.blocks.proofs.KeepLaws.{admit_good}
use Rattle.reserve.specs.Reserve.{has_slot}
use Rattle.hints.specs.Hints.{slots_in, Says, Cuts, has_to, Marks, marked, SameBut, Noted}
use Rattle.hints.proofs.OpenLaws.{put_under, says_mask, behind_clear}
use Rattle.hints.proofs.RowLaws.{row_at, shifted, noted, lent_row, row_part, rows_back}
use Rattle.hints.proofs.SlotLaws.{has_none}

-- ---- a run that is looked at anew

-- the bits of o say which of the first n slot words have a free slot
pub record Told (ss : List ℕ) (b g n o : ℕ) : Type 0 where
  pub byte : o < 2 ^ n
  pub which : (k : ℕ) → k < n → Says (get_or ss (8 * g + k) 0) (slots_in b k) (bit o k)

pub told_none : (ss : List ℕ) (b g : ℕ) → Told ss b g 0 0
told_none ss b g = record { byte = omega arith; which = λ k l. absurd (omega arith) }

pub told_byte : {ss : List ℕ} {b g n o : ℕ} → Told ss b g n o → n ≡ 8 → o < 256
told_byte {ss} {b} {g} {n} {o} h e = subst (λ (x : ℕ). o < 2 ^ x) e h.byte

-- what the code relies on at the first page of a class run
pub record Placed (q : Pool) (g b : ℕ) : Type 0 where
  pub class : b < 30
  pub few : g < 8192
  pub room : 8 * g + 8 ≤ length q.slots

module _ (c : ℕ) (q : Pool) (ok : admit_of c q ≡ 0) (g b : ℕ) (l : g < 512 * c) (k : kind_at q g ≡ Class b) where
  pub placed : Placed q g b
  placed = let h = (admitted c q ok).shape in record { class = class_at_low q g b k; few = omega arith; room = omega arith }

  module _ (rows : List ℕ) (cuts : Cuts rows) {j o : ℕ} (fits : get_or q.slots (8 * g + j) 0 < 2 ^ 64) (h : Told q.slots b g j o) (m : j < 8) where
    abbrev other : Bool
    other = not (eqb (get_or q.slots (8 * g + j) 0) (get_or rows (144 * b + 130 + j) 0))

    told_next : {x : ℕ} → x ≡ word_put (digit other) o j → Told q.slots b g (j + 1) x
    told_next {x} e =
        let more = pow_mono {i = j} {j = j + 1} (omega arith) in let low = h.byte in
        let w : ℕ = get_or q.slots (8 * g + j) 0 in
        let at : 144 * b + 130 + j ≡ 144 * b + (130 + j) = omega arith in
        let mask : get_or rows (144 * b + 130 + j) 0 ≡ mask_of 0 (slots_in b j) =
        rw at (sym (row_at rows b (130 + j) (omega arith))) ∙ (cuts.cut b placed.class).masks j m in
        let says : Says w (slots_in b j) (digit other) =
        rw mask (says_mask w (slots_in b j) (omega arith) fits (λ i y z. behind_clear c q (admit_good c q ok) g b l k j i m z (omega arith))) in
        record {
          byte = rw e (put_under (digit other) o j (j + 1) (omega arith) (omega arith));
          which =
              λ i y. by_cases (ℕ_discrete i j) (λ z. rw (z, e, put_same (digit other) o j (digit_lt other) (omega arith)) says)
              (λ z. rw (e, put_other (digit other) o j i (omega arith) (omega arith) z) (h.which i (omega arith)));
        }

    -- the word is not the mask: the bit is set
    pub told_on : {x : ℕ} → get_or q.slots (8 * g + j) 0 ≢ get_or rows (144 * b + 130 + j) 0 → x ≡ bit_or o (1 * 2 ^ j % 2 ^ 8) → Told q.slots b g (j + 1) x
    told_on n e =
        let moved : 1 * 2 ^ j % 2 ^ 8 ≡ 2 ^ j = shifted 8 j m in
        told_next (e ∙ rw (ne_eqb (get_or q.slots (8 * g + j) 0) (get_or rows (144 * b + 130 + j) 0) n, moved) refl)

    -- the word is the mask
    pub told_off : {x : ℕ} → get_or q.slots (8 * g + j) 0 ≡ get_or rows (144 * b + 130 + j) 0 → x ≡ o → Told q.slots b g (j + 1) x
    told_off n e =
        let more = pow_mono {i = j} {j = 64} (omega arith) in let low = h.byte in
        told_next (e ∙ rw (eq-eqb (get_or q.slots (8 * g + j) 0) (get_or rows (144 * b + 130 + j) 0) n)
        (put_had o j (omega arith) 0 (omega arith) (omega arith) (bit_high o j h.byte)))

  pub noted_anew : (rows opens : List ℕ) {j o : ℕ} → Told q.slots b g j o → j ≡ 8 → (e : List ℕ) → e ≡ marked (lent_row rows b) g (not (eqb o 0))
      → Noted q b g rows opens (put_mid (144 * b) (144 * b + 144 - 144 * b) rows e) (set opens g o)
  noted_anew rows opens {j} {o} h all e f n p m marks same =
      rows_back rows e b (rw (f, row_part rows b)
      (noted marks placed.few same o (record { byte = told_byte h all; which = λ i y. h.which i (omega arith) })))

-- ---- page by page

-- what a match tells where it has an arm for the first pages of class runs and one for all other kinds
pub others_none : (k : Kind) → ((b : ℕ) → k ≢ Class b) → (d : ℕ) → is_run_of d k ≡ false
others_none Edge h d = refl
others_none Free h d = refl
others_none Damaged h d = refl
others_none (Large n) h d = refl
others_none (Class b) h d = absurd (h b refl)
others_none (Inner w) h d = refl

-- one page more, which has no free slot of class d
to_next : (p : Pool) (d g i : ℕ) → (i ≡ g → has_slot p d i ≡ false) → has_to g p d i ≡ has_to (g + 1) p d i
to_next p d g i h =
    by_cases (ℕ_discrete i g)
    (λ e. ap (λ (t : Bool). ltb i g && t) (h e) ∙ none (ltb i g) ∙ sym (ap (λ (t : Bool). ltb i (g + 1) && t) (h e) ∙ none (ltb i (g + 1))))
    (λ e. ap (λ (t : Bool). t && has_slot p d i)
    (by_cases (dec_lt i g) (λ l. lt-ltb i g l ∙ sym (lt-ltb i (g + 1) (omega arith))) (λ l. le-ltb i g (omega arith) ∙ sym (le-ltb i (g + 1) (omega arith)))))
  where
    none : (v : Bool) → v && false ≡ false
    none true = refl
    none false = refl

-- no class run starts at page g
pub next_bare : {p : Pool} {g : ℕ} {rows opens : List ℕ} → Marks g p rows opens → (k : Kind) → k ≡ kind_at p g → ((d : ℕ) → is_run_of d k ≡ false)
    → Marks (g + 1) p rows opens
next_bare {p} {g} {rows} {opens} h k e f =
    record {
      cuts = h.cuts;
      wide = h.wide;
      row =
          λ b l. let r = h.row b l in
          record { marks = λ i m. r.marks i m ∙ to_next p b g i (λ x. has_none p b i k (ap (kind_at p) x ∙ sym e) (f b)); tops = r.tops };
      byte = λ b i l x. h.byte b i (by_cases (ℕ_discrete i g) (λ y. absurd (no_class b (f b) (e ∙ ap (kind_at p) (sym y) ∙ x))) (λ y. omega arith)) x;
    }
  where
    no_class : (b : ℕ) → is_run_of b k ≡ false → k ≢ Class b
    no_class b x y = false≢true (sym x ∙ ap (is_run_of b) y ∙ eq-eqb b b refl)

-- a run of class b starts at page g
pub next_class : (p : Pool) (g b : ℕ) → kind_at p g ≡ Class b → SameBut g p (g + 1) p b g
next_class p g b e =
    record {
      here = e;
      inside = omega arith;
      has = λ d i l n. to_next p d g i (λ x. has_none p d i (Class b) (ap (kind_at p) x ∙ e) (ne_eqb b d (λ y. n y x)));
      kind = λ d i l n x. (omega arith, x);
      words = λ i k l m n. refl;
    }

-- the marks of page after page
pub page_noted : {p : Pool} {g b : ℕ} {rows opens rows' opens' : List ℕ} → Marks g p rows opens → kind_at p g ≡ Class b → Noted p b g rows opens rows' opens'
    → Marks (g + 1) p rows' opens'
page_noted {p} {g} {b} h e n = n g p (g + 1) h (next_class p g b e)

pub marks_as : {n m : ℕ} {p : Pool} {rows opens : List ℕ} → n ≡ m → Marks n p rows opens → Marks m p rows opens
marks_as {n} {m} {p} {rows} {opens} e h = subst (λ (x : ℕ). Marks x p rows opens) e h
