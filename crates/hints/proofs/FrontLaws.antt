-- The word in front among the marks of a class: where the slot search starts, and what it comes to for all rows. Assumes nothing.
use mathlib.Core.Path.{◌≡◌, refl, sym, ap, ◌∙◌}
use mathlib.Core.Logic.{by_cases}
use mathlib.Core.List.{List}
use Prim.Native.Nat.{ℕ, ◌+◌, ◌-◌, ◌*◌, ◌/◌, ◌%◌, ◌^◌, ◌≤◌, ◌<◌}
use native.Mathlib.Decide.{dec_lt}
use native.Mathlib.Omega.{arith}
use lib.ListN.{get_or, drop}
use lib.Seq.{get_or-take, get_or-drop}
use borrow.Author.Tests.{le-ltb}
use borrow.Rule.Slice.PartMut.{put_mid}
use Rattle.std.specs.Prelude.{Some, None}
use Rattle.bitrow.specs.Row.{bit, Lowest}
use Rattle.bitrow.proofs.Words.{bit_of_zero}
use Rattle.bitrow.proofs.Lows.{one_within}
use Rattle.records.specs.Pool.{Pool}
use Rattle.records.specs.Calls.{leaves, admit_of}
use Rattle.reserve.specs.Reserve.{slot_page}
use Rattle.hints.specs.Hints.{Marks, Part, Front, Took, taking}
use Rattle.hints.proofs.RowLaws.{lent_row, rows_back}
use Rattle.hints.proofs.PartLaws.{part, part_shape, part_row}
use Rattle.hints.proofs.TakeLaws.{page_is, blank_by, none_by}

-- word j of the marks of class b is the first that has one, by the top word w: the slot is taken there
abbrev pub Leads : ℕ → Pool → List ℕ → List ℕ → ℕ → ℕ → ℕ → Type 0
Leads c p rows opens b j w =
    Front p (lent_row rows b) opens j w
    × ((r : ℕ) (q : Pool) (row' opens' : List ℕ) → ((f : Front p (lent_row rows b) opens j w) → Took f r q row' opens')
    → (leaves (Some r) q ≡ taking c p b) × Marks (512 * c) q (put_mid (144 * b) (144 * b + 144 - 144 * b) rows row') opens')

module _ (c : ℕ) (p : Pool) (ok : admit_of c p ≡ 0) (rows opens : List ℕ) (h : Marks (512 * c) p rows opens) (b : ℕ) (bl : b < 30) where
  abbrev lent : Part p (lent_row rows b) opens
  lent = part c p ok rows opens h b bl

  -- its top word e, which is word i of all rows
  module _ (e i : ℕ) (l : e < 2) (at : i ≡ 144 * b + (128 + e)) where
    top_at_lem : get_or rows i 0 ≡ get_or (lent_row rows b) (128 + e) 0
    top_at_lem =
        ap (λ (k : ℕ). get_or rows k 0) at
        ∙ sym (get_or-take (144 * b + 144 - 144 * b) (drop (144 * b) rows) (128 + e) 0 (omega arith) ∙ get_or-drop (144 * b) rows (128 + e) 0)

    -- words of marks whose bits in it are 0 have none
    blank : (k : ℕ) → 64 * e ≤ k → k < 64 * e + 64 → bit (get_or rows i 0) (k - 64 * e) ≡ 0 → get_or (lent_row rows b) k 0 ≡ 0
    blank k m n z = blank_by (part_row lent) e (k - 64 * e) l (omega arith) (rw (sym top_at_lem) z) (omega arith)

    blank_all : get_or rows i 0 ≡ 0 → (k : ℕ) → 64 * e ≤ k → k < 64 * e + 64 → get_or (lent_row rows b) k 0 ≡ 0
    blank_all z k m n = blank k m n (rw z (bit_of_zero (k - 64 * e)))

    module _ (j t : ℕ) (x : j ≡ 64 * e + t) (fits : get_or rows i 0 < 2 ^ 64) (some : 1 ≤ get_or rows i 0) (low : Lowest 64 (get_or rows i 0) 1 t)
        (none : (k : ℕ) → k < 64 * e → get_or (lent_row rows b) k 0 ≡ 0) where
      front : Front p (lent_row rows b) opens j (get_or rows i 0)
      front =
          let tl = one_within (get_or rows i 0) t fits some low in
          let q : j / 64 ≡ e = omega arith in let r : j % 64 ≡ t = omega arith in
          record {
            part = lent;
            inside = omega arith;
            word = rw q top_at_lem;
            lowest = rw r low;
            some = some;
            none = λ k m. by_cases (dec_lt k (64 * e)) (none k) (λ z. blank k (omega arith) (omega arith) (low.below (k - 64 * e) (omega arith)));
          }

      leads : Leads c p rows opens b j (get_or rows i 0)
      unfolding front
      leads = (front, λ r q row' opens' took. let (gave, back) = took front in (gave, rows_back rows row' b back))

  abbrev low : ℕ
  low = get_or rows (144 * b + 128) 0

  abbrev high : ℕ
  high = get_or rows (144 * b + 128 + 1) 0

  pub leads_low : (t : ℕ) → low < 2 ^ 64 → 1 ≤ low → Lowest 64 low 1 t → Leads c p rows opens b t low
  leads_low t fits some f = leads 0 (144 * b + 128) (omega arith) (omega arith) t t (omega arith) fits some f (λ k l. absurd (omega arith))

  module _ (clear : low ≡ 0) where
    low_blank : (k : ℕ) → k < 64 → get_or (lent_row rows b) k 0 ≡ 0
    low_blank k l = blank_all 0 (144 * b + 128) (omega arith) (omega arith) clear k (omega arith) l

    pub leads_high : (t : ℕ) → high < 2 ^ 64 → 1 ≤ high → Lowest 64 high 1 t → Leads c p rows opens b (64 + t) high
    leads_high t fits some f = leads 1 (144 * b + 128 + 1) (omega arith) (omega arith) (64 + t) t (omega arith) fits some f (λ k l. low_blank k (omega arith))

    -- no word has a mark
    pub taken_none : high ≡ 0 → leaves None p ≡ taking c p b
    unfolding taking
    taken_none e =
        let few = (part_shape lent).few in
        let word : (k : ℕ) → k < 128 → get_or (lent_row rows b) k 0 ≡ 0 =
        λ k l. by_cases (dec_lt k 64) (low_blank k)
        (λ x. blank_all 1 (144 * b + 128 + 1) (omega arith) (omega arith) e k (omega arith) (omega arith)) in
        let is : 512 * c ≡ slot_page p b 0 (512 * c) =
        page_is p b (512 * c) (512 * c) (omega arith)
        (λ i l. none_by (part_row lent) i (omega arith) l (rw (word (i / 64) (omega arith)) (bit_of_zero (i % 64)))) (λ l. absurd (omega arith)) in
        rw (sym is, le-ltb (512 * c) (512 * c) (omega arith)) refl
