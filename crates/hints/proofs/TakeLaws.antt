-- What the marks of a class find, and the slot that is taken there. Assumes nothing.
use mathlib.Core.Path.{◌≡◌, refl, sym, ap, ap₂, ◌∙◌, subst}
use mathlib.Core.Logic.{◌≢◌, by_cases}
use mathlib.Core.Bool.{Bool, true, false, not, ◌&&◌, false≢true}
use mathlib.Core.List.{List}
use Prim.Native.Nat.{ℕ, ◌+◌, ◌*◌, ◌/◌, ◌%◌, ◌^◌, ◌≤◌, ◌<◌}
use native.Mathlib.Decide.{ℕ_discrete, dec_lt}
use native.Mathlib.Omega.{arith}
use lib.Dec.{eqb, ltb}
use lib.ListN.{length, get_or, set}
use borrow.Author.Tests.{ltb-true, lt-ltb, eqb-true, eqb-false, not-true, not-false}
use Rattle.std.specs.Prelude.{Some}
use Rattle.bitrow.specs.Row.{digit, bit, Lowest, word_put}
use Rattle.bitrow.proofs.Words.{digit_lt, bit_of_zero}
use Rattle.bitrow.proofs.Masks.{put_other, put_lt}
use Rattle.bitrow.proofs.Marks.{one_set, zero_clear}
use Rattle.bitrow.proofs.Lows.{one_within}
use Rattle.records.specs.declared.Kind.TheVariants.{Class}
use Rattle.records.specs.Pool.{Pool, kind_at}
use Rattle.records.specs.Calls.{leaves}
use Rattle.records.proofs.Flags.{and_left, and_right}
use Rattle.blocks.specs.Stores.{put_slot}
use Rattle.reserve.specs.Reserve.{lowest_free, has_slot, slot_page}
use Rattle.reserve.proofs.PlanLaws.{Searched, searched, has_free}
use Rattle.hints.specs.Hints.{slots_in, Says, Row, Front, Took, taking}
use Rattle.hints.proofs.OpenLaws.{bit_of, put_under, says_mask, behind_clear, lowest_near, lowest_open, open_has}
use Rattle.hints.proofs.RowLaws.{marked_is}
use Rattle.hints.proofs.PartLaws.{part_shape, part_cut, part_row, slot_back}

-- ---- what the marks find

-- the page of which no earlier one has a free slot
pub page_is : (p : Pool) (b n g : ℕ) → g ≤ n → ((i : ℕ) → i < g → has_slot p b i ≡ false) → (g < n → has_slot p b g ≡ true) → g ≡ slot_page p b 0 n
page_is p b n g l before here = go (slot_page p b 0 n) (searched p b n 0)
  where
    go : (r : ℕ) → Searched p b 0 n r → g ≡ r
    go r w =
        let h = w.high in
        by_cases (dec_lt g r) (λ x. absurd (false≢true (sym (w.before g (omega arith) x) ∙ here (omega arith))))
        (λ x. by_cases (dec_lt r g) (λ y. absurd (false≢true (sym (before r y) ∙ w.here (omega arith)))) (λ y. omega arith))

module _ {n : ℕ} {p : Pool} {b : ℕ} {row : List ℕ} (h : Row n p b row) where
  -- a word of marks is 0 where its top bit is
  pub blank_by : (e u : ℕ) → e < 2 → u < 64 → bit (get_or row (128 + e) 0) u ≡ 0 → {i : ℕ} → i ≡ 64 * e + u → get_or row i 0 ≡ 0
  blank_by e u l m z {i} x =
      eqb-true (get_or row i 0) 0
      (not-false (eqb (get_or row i 0) 0)
      (sym (h.tops i (omega arith)) ∙ zero_clear row (8192 + i) (bit_of row (8192 + i) (128 + e) u (omega arith) m ∙ z)))

  -- a page whose word has no mark there
  pub none_by : (i : ℕ) → i < 8192 → i < n → bit (get_or row (i / 64) 0) (i % 64) ≡ 0 → has_slot p b i ≡ false
  none_by i l m e =
      ap (λ (t : Bool). t && has_slot p b i) (sym (lt-ltb i n m)) ∙ sym (h.marks i l)
      ∙ zero_clear row i (bit_of row i (i / 64) (i % 64) (omega arith) (omega arith) ∙ e)

  one_by : (i j t : ℕ) → i < 8192 → i ≡ 64 * j + t → t < 64 → bit (get_or row j 0) t ≡ 1 → (i < n) × (has_slot p b i ≡ true)
  one_by i j t l e m f =
      let has = sym (h.marks i l) ∙ one_set row i (bit_of row i j t e m ∙ f) in
      (ltb-true i n (and_left (ltb i n) (has_slot p b i) has), and_right (ltb i n) (has_slot p b i) has)

-- the page with the lowest mark, bit t of the word in front
pub record Reached {p : Pool} {row opens : List ℕ} {j top : ℕ} (f : Front p row opens j top) (t : ℕ) : Type 0 where
  pub front : 1 ≤ get_or row j 0
  pub mark : Lowest 64 (get_or row j 0) 1 t
  pub near : t < 64
  pub inside : 64 * j + t < 512 * f.part.chunks
  pub page : 64 * j + t < length opens
  pub kind : kind_at p (64 * j + t) ≡ Class f.part.class
  pub first : 64 * j + t ≡ slot_page p f.part.class 0 (512 * f.part.chunks)
  pub some : get_or opens (64 * j + t) 0 ≢ 0

-- the slot word k of its run that is the first with a free slot, by the byte o
pub record Aimed {p : Pool} {row opens : List ℕ} {j top : ℕ} (f : Front p row opens j top) (t k o : ℕ) : Type 0 where
  pub at : Reached f t
  pub low : Lowest 64 o 1 k
  pub near : k < 8
  pub is : o ≡ get_or opens (64 * j + t) 0
  pub some : 1 ≤ o
  pub word : 8 * (64 * j + t) + k < length p.slots
  pub mask : 130 + k < length row
  pub byte : (so : Bool) (x : ℕ) → ((s : ℕ) → Lowest 64 o 1 s → x ≡ word_put (digit so) o s) → x < 256

module _ {p : Pool} {row opens : List ℕ} {j top : ℕ} (f : Front p row opens j top) (t : ℕ) where
  abbrev c : ℕ
  c = f.part.chunks

  abbrev b : ℕ
  b = f.part.class

  abbrev g : ℕ
  g = 64 * j + t

  -- the word in front has a mark
  word_some : top < 2 ^ 64 → 1 ≤ get_or row j 0
  word_some m =
      let l = one_within top (j % 64) m f.some f.lowest in
      let in_front_lem = f.inside in
      let has : not (eqb (get_or row j 0) 0) ≡ true =
      sym ((part_row f.part).tops j f.inside)
      ∙ one_set row (8192 + j) (bit_of row (8192 + j) (128 + j / 64) (j % 64) (omega arith) (omega arith) ∙ rw (sym f.word) (f.lowest.here l)) in
      let n = eqb-false (get_or row j 0) 0 (not-true (eqb (get_or row j 0) 0) has) in omega arith

  pub reached : top < 2 ^ 64 → get_or row j 0 < 2 ^ 64 → Lowest 64 (get_or row j 0) 1 t → Reached f t
  reached m fits low =
      let some = word_some m in let shape = part_shape f.part in
      let tl = one_within (get_or row j 0) t fits some low in let jl = f.inside in let w = f.part.marks.wide in
      let (inside, has) = one_by (part_row f.part) g j t (omega arith) refl tl (low.here tl) in
      let kind = (has_free c p b g inside has).kind in
      let o : ℕ = get_or opens g 0 in
      record {
        front = some;
        mark = low;
        near = tl;
        inside = inside;
        page = omega arith;
        kind = kind;
        first =
            page_is p b (512 * c) g (omega arith)
            (λ i l. none_by (part_row f.part) i (omega arith) (omega arith)
            (by_cases (ℕ_discrete (i / 64) j) (λ e. rw e (low.below (i % 64) (omega arith))) (λ e. rw (f.none (i / 64) (omega arith)) (bit_of_zero (i % 64)))))
            (λ _. has);
        some = eqb-false o 0 (not-true (eqb o 0) (sym (open_has p kind (f.part.marks.byte b g inside kind)) ∙ has));
      }

  pub aimed : Reached f t → {k o : ℕ} → o ≡ get_or opens g 0 → Lowest 64 o 1 k → Aimed f t k o
  aimed r {k} {o} is low =
      let told = f.part.marks.byte b g r.inside r.kind in
      let n = lowest_near told r.some (omega arith) (subst (λ (x : ℕ). Lowest 64 x 1 k) is low) in
      let shape = part_shape f.part in let i = r.inside in let long = (part_cut f.part).long in let few = told.byte in let s = r.some in
      record {
        at = r;
        low = low;
        near = n;
        is = is;
        some = omega arith;
        word = omega arith;
        mask = omega arith;
        byte = λ so x e. rw (e k low) (put_under (digit so) o k 8 (omega arith) n);
      }

  pub aimed_at : top < 2 ^ 64 → get_or row j 0 < 2 ^ 64 → Lowest 64 (get_or row j 0) 1 t → {k o : ℕ} → o ≡ get_or opens g 0 → Lowest 64 o 1 k
      → Aimed f t k o
  aimed_at m fits first is low = aimed (reached m fits first) is low

  -- it is taken: bit u of the word, which is v then; x, y, l are the byte, the word of marks and the top word then
  module _ {k o : ℕ} (a : Aimed f t k o) where
    abbrev word : ℕ
    word = get_or p.slots (8 * g + k) 0

    abbrev full : ℕ → Bool
    full v = eqb v (get_or row (130 + k) 0)

    pub took : (u v x l y : ℕ) (q : Pool) → word < 2 ^ 64 → Lowest 64 word 0 u
        → ((i n s : ℕ) → 8 * g + k ≡ 8 * i + n → s < 64 → Lowest 64 word 0 s → (v ≡ word_put 1 word s) × (q ≡ put_slot 1 p i (64 * n + s)))
        → ((s : ℕ) → Lowest 64 o 1 s → x ≡ word_put (digit (not (full v))) o s)
        → ((s : ℕ) → Lowest 64 (get_or row j 0) 1 s → l ≡ word_put (digit (not (eqb x 0))) (get_or row j 0) s)
        → ((s : ℕ) → Lowest 64 top 1 s → y ≡ word_put (digit (not (eqb l 0))) top s)
        → Took f (64 * (8 * g + k) + u) q (set (set row j l) (128 + j / 64) y) (set opens g x)
    unfolding taking
    took u v x l y q fits clear filled byte marks tops =
        let r = a.at in let near = a.near in
        let told = f.part.marks.byte b g r.inside r.kind in
        let (few, is) = lowest_open told r.some k u (subst (λ (z : ℕ). Lowest 64 z 1 k) a.is a.low) clear in
        let (is-v, is-q) = filled g k u refl (omega arith) clear in
        let says : Says (word_put 1 word u) (slots_in b k) (digit (not (full v))) =
        rw (is-v, (part_cut f.part).masks k near)
        (says_mask (word_put 1 word u) (slots_in b k) (omega arith) (put_lt 1 word u fits (omega arith))
        (λ i m n. put_other 1 word u i (omega arith) n (omega arith) ∙ behind_clear c p f.part.good g b r.inside r.kind k i near n (omega arith))) in
        let here : 64 * (8 * g + k) + u ≡ 512 * g + lowest_free p.slots b g = omega arith in
        let first = r.first in (
          ap₂ leaves (ap Some here) (is-q ∙ ap (put_slot 1 p g) (sym is)) ∙ rw (sym first, lt-ltb g (512 * c) r.inside) refl,
          slot_back f.part 1 (omega arith) r.inside r.kind near few refl (digit_lt (not (full v))) says
              (byte k a.low ∙ ap (λ (z : ℕ). word_put (digit (not (full v))) z k) a.is) is-q
              (marked_is row j t l y (not (eqb x 0)) (part_cut f.part).long f.inside r.near (marks t r.mark)
              (tops (j % 64) f.lowest ∙ ap (λ (z : ℕ). word_put (digit (not (eqb l 0))) z (j % 64)) f.word)),
        )
