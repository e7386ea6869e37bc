-- The row of one class, lent by itself: what stands in it, and what becomes of the marks where one slot changes. Assumes nothing.
use mathlib.Core.Path.{◌≡◌, sym, ap, ◌∙◌}
use mathlib.Core.Logic.{by_cases}
use mathlib.Core.Bool.{not}
use mathlib.Core.List.{List}
use Prim.Native.Nat.{ℕ, ◌+◌, ◌*◌, ◌/◌, ◌%◌, ◌<◌}
use native.Mathlib.Decide.{ℕ_discrete}
use native.Mathlib.Omega.{arith}
use lib.Dec.{eqb}
use lib.ListN.{get_or, set}
use lib.Seq.{get_or-set_same}
use Rattle.bitrow.specs.Row.{word_put, put_bit}
use Rattle.bitrow.proofs.Masks.{put_same, put_other}
use Rattle.records.specs.declared.Kind.TheVariants.{Class}
use Rattle.records.specs.Pool.{Pool, kind_at}
use Rattle.records.specs.Calls.{admit_of}
use Rattle.records.proofs.AdmitLaws.{Shape, shaped_lengths}
use Rattle.blocks.specs.Stores.{put_slot}
use Rattle.blocks.proofs.KeepLaws.{admit_good}
use Rattle.hints.specs.Hints.{row_of, slots_in, Says, Opens, Cut, Row, Marks, marked, Part, Back}
use Rattle.hints.proofs.OpenLaws.{put_under}
use Rattle.hints.proofs.RowLaws.{lent_row, row_part, lent_long, noted}
use Rattle.hints.proofs.SlotLaws.{words_kept, slot_same_but}

abbrev pub part : (c : ℕ) (p : Pool) → admit_of c p ≡ 0 → (rows opens : List ℕ) → Marks (512 * c) p rows opens → (b : ℕ) → b < 30
    → Part p (lent_row rows b) opens
part c p ok rows opens h b l =
    record { chunks = c; class = b; rows = rows; good = admit_good c p ok; low = l; marks = h; own = row_part rows b; long = lent_long rows b h.cuts.long l }

module _ {p : Pool} {row opens : List ℕ} (l : Part p row opens) where
  pub part_shape : Shape l.chunks p
  part_shape = shaped_lengths l.chunks _ _ _ l.good.shape

  pub part_cut : Cut l.class row
  part_cut = rw l.own (l.marks.cuts.cut l.class l.low)

  pub part_row : Row (512 * l.chunks) p l.class row
  part_row = rw l.own (l.marks.row l.class l.low)

  -- slot s of the run at page g, bit u of its slot word k, got the bit v; d says whether this word has a free slot now
  module _ (v : ℕ) (v01 : v < 2) {g k u s : ℕ} (inside : g < 512 * l.chunks) (kind : kind_at p g ≡ Class l.class) (kl : k < 8)
      (few : u < slots_in l.class k) (at : s ≡ 64 * k + u) {d : ℕ} (d01 : d < 2)
      (says : Says (word_put v (get_or p.slots (8 * g + k) 0) u) (slots_in l.class k) d) where
    slot_word : get_or (put_slot v p g s).slots (8 * g + k) 0 ≡ word_put v (get_or p.slots (8 * g + k) 0) u
    unfolding put_slot put_bit
    slot_word =
        let h = part_shape in
        let q : (512 * g + s) / 64 ≡ 8 * g + k = omega arith in let r : (512 * g + s) % 64 ≡ u = omega arith in
        rw (q, r) (get_or-set_same p.slots (8 * g + k) (word_put v (get_or p.slots (8 * g + k) 0) u) 0 (omega arith))

    slot_opens : {o : ℕ} → o ≡ word_put d (get_or opens g 0) k → Opens (put_slot v p g s).slots l.class g o
    slot_opens {o} e =
        let h = l.marks.byte l.class g inside kind in
        let words = words_kept l.chunks v p l.good g l.class s v01 inside (omega arith) kind in
        record {
          byte = rw e (put_under d (get_or opens g 0) k 8 h.byte kl);
          which =
              λ i m. by_cases (ℕ_discrete i k) (λ x. rw (x, slot_word, e, put_same d (get_or opens g 0) k d01 (omega arith)) says)
              (λ x. rw (sym (words g i m (λ _. omega arith)), e, put_other d (get_or opens g 0) k i (omega arith) (omega arith) x) (h.which i m));
        }

    pub slot_back : {o : ℕ} → o ≡ word_put d (get_or opens g 0) k → {q : Pool} → q ≡ put_slot v p g s → {row' : List ℕ} → row' ≡ marked row g (not (eqb o 0))
        → Back l q row' (set opens g o)
    slot_back {o} e {q} f {row'} m =
        let h = part_shape in
        let is : row' ≡ marked (row_of l.rows l.class) g (not (eqb o 0)) = m ∙ ap (λ (x : List ℕ). marked x g (not (eqb o 0))) l.own in
        rw (f, is) (noted l.marks (omega arith) (slot_same_but l.chunks v p l.good g l.class s v01 inside (omega arith) kind) o (slot_opens e))
