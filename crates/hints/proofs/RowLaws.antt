-- The rows of marks: the row of a class in all rows, how one mark changes, and what marks of a pool become. Assumes nothing.
use mathlib.Core.Path.{◌≡◌, refl, sym, ap, ◌∙◌, subst}
use mathlib.Core.Logic.{◌≢◌, by_cases}
use mathlib.Core.Bool.{Bool, true, false, not}
use mathlib.Core.List.{List, ◌++◌}
use Prim.Native.Nat.{ℕ, ◌+◌, ◌-◌, ◌*◌, ◌/◌, ◌%◌, ◌^◌, ◌≤◌, ◌<◌}
use native.Mathlib.Decide.{ℕ_discrete, dec_lt}
use native.Mathlib.Omega.{arith}
use lib.Bits.{bit_or}
use lib.Dec.{eqb}
use lib.ListN.{length, get_or, set, take, drop, length-set, length-drop, take-append-drop}
use lib.Seq.{get_or-set_same, get_or-set_other, get_or-take, get_or-drop, take_at, drop_at, length-take-le, take-append-le, drop-append-le, drop-drop}
use lib.Pow.{shl_exact}
use borrow.Author.Tests.{lt-ltb, ne_eqb}
use borrow.Rule.Slice.PartMut.{put_mid, same_len_mid, drop_put}
use Rattle.bitrow.specs.Row.{digit, is_set, word_put, put_bit}
use Rattle.bitrow.proofs.Words.{digit_lt}
use Rattle.bitrow.proofs.Marks.{length_put_bit, is_set_same, is_set_other}
use Rattle.records.specs.declared.Kind.{Kind}
use Rattle.records.specs.declared.Kind.TheVariants.{Class}
use Rattle.records.specs.Pool.{Pool, kind_at}
use Rattle.records.proofs.RunLaws.{class_at_low}
use Rattle.hints.specs.Hints.{row_of, rows_with, Opens, Cut, Row, Marks, marked, SameBut}
use Rattle.hints.proofs.OpenLaws.{put_some, open_has}

-- ---- the row of a class in all rows

pub row_at : (rows : List ℕ) (d i : ℕ) → i < 144 → get_or (row_of rows d) i 0 ≡ get_or rows (144 * d + i) 0
row_at rows d i k = get_or-take 144 (drop (144 * d) rows) i 0 k ∙ get_or-drop (144 * d) rows i 0

pub row_long : (rows : List ℕ) (b : ℕ) → length rows ≡ 4320 → b < 30 → length (row_of rows b) ≡ 144
row_long rows b e l = let n = length-drop (144 * b) rows in length-take-le 144 (drop (144 * b) rows) (omega arith)

-- a row that lies in the front of a list
row_in : (xs ys : List ℕ) (d : ℕ) → 144 * d + 144 ≤ length xs → row_of (xs ++ ys) d ≡ row_of xs d
row_in xs ys d l =
    let n = length-drop (144 * d) xs in
    ap (take 144) (drop-append-le (144 * d) xs ys (omega arith)) ∙ take-append-le 144 (drop (144 * d) xs) ys (omega arith)

-- the row of class b came back as e
module _ (rows e : List ℕ) (b : ℕ) (bl : b < 30) (all : length rows ≡ 4320) (own : length e ≡ 144) where
  before : length (take (144 * b) rows) ≡ 144 * b
  before = length-take-le (144 * b) rows (omega arith)

  pub part_own : row_of (rows_with rows b e) b ≡ e
  unfolding rows_with
  part_own =
      ap (take 144) (drop_at (take (144 * b) rows) (e ++ drop 144 (drop (144 * b) rows)) (144 * b) before) ∙ take_at e (drop 144 (drop (144 * b) rows)) 144 own

  pub part_long : length (rows_with rows b e) ≡ 4320
  unfolding rows_with
  part_long = same_len_mid (144 * b) 144 rows e (own ∙ sym (row_long rows b all bl)) ∙ all

  pub part_other : (d : ℕ) → d < 30 → d ≢ b → row_of (rows_with rows b e) d ≡ row_of rows d
  unfolding rows_with
  part_other d l x = by_cases (dec_lt d b) low high
    where
      low : d < b → row_of (rows_with rows b e) d ≡ row_of rows d
      low y =
          let n = before in
          row_in (take (144 * b) rows) (e ++ drop 144 (drop (144 * b) rows)) d (omega arith)
          ∙ sym (row_in (take (144 * b) rows) (drop (144 * b) rows) d (omega arith)) ∙ ap (λ (z : List ℕ). row_of z d) (take-append-drop (144 * b) rows)

      high : (d < b → ⊥) → row_of (rows_with rows b e) d ≡ row_of rows d
      high y =
          let to : ℕ = 144 * b + 144 in let n : ℕ = 144 * d - to in
          let i : 144 * d ≡ to + n = omega arith in let m : 144 ≡ to - 144 * b = omega arith in
          let same : drop to (put_mid (144 * b) 144 rows e) ≡ drop to rows =
          ap (λ (k : ℕ). drop to (put_mid (144 * b) k rows e)) m ∙ drop_put (144 * b) to rows e (omega arith) (omega arith) (omega arith) in
          rw (i, sym (drop-drop n to (put_mid (144 * b) 144 rows e)), sym (drop-drop n to rows), same) refl

-- ---- one mark

eqb_digit : (v : Bool) → eqb (digit v) 1 ≡ v
eqb_digit true = refl
eqb_digit false = refl

module _ (row : List ℕ) (g : ℕ) (v : Bool) (long : length row ≡ 144) (gl : g < 8192) where
  -- the row with the mark, before its top bit
  abbrev low : List ℕ
  low = put_bit (digit v) row g

  abbrev top : Bool
  top = not (eqb (get_or low (g / 64) 0) 0)

  low_long : length low ≡ 144
  low_long = length_put_bit (digit v) row g ∙ long

  pub marked_long : length (marked row g v) ≡ 144
  unfolding marked
  marked_long = length_put_bit (digit top) low (8192 + g / 64) ∙ low_long

  pub marked_here : is_set (marked row g v) g ≡ v
  unfolding marked
  marked_here =
      let l = low_long in
      is_set_other (digit top) low (8192 + g / 64) (digit_lt top) (omega arith) g (omega arith)
      ∙ is_set_same (digit v) row g (digit_lt v) (omega arith) ∙ eqb_digit v

  pub marked_other : (i : ℕ) → i ≢ 8192 + g / 64 → i ≢ g → is_set (marked row g v) i ≡ is_set row i
  unfolding marked
  marked_other i m n =
      let l = low_long in
      is_set_other (digit top) low (8192 + g / 64) (digit_lt top) (omega arith) i m ∙ is_set_other (digit v) row g (digit_lt v) (omega arith) i n

  -- a word other than the top word that changes
  word_low : (j : ℕ) → j ≢ 128 + g / 64 / 64 → get_or (marked row g v) j 0 ≡ get_or low j 0
  unfolding marked put_bit
  word_low j n =
      get_or-set_other low ((8192 + g / 64) / 64) j
      (word_put (digit top) (get_or low ((8192 + g / 64) / 64) 0) ((8192 + g / 64) % 64)) 0 (λ e. n (omega arith))

  pub marked_word : (j : ℕ) → j ≢ 128 + g / 64 / 64 → j ≢ g / 64 → get_or (marked row g v) j 0 ≡ get_or row j 0
  unfolding put_bit
  marked_word j m n = word_low j m ∙ get_or-set_other row (g / 64) j (word_put (digit v) (get_or row (g / 64) 0) (g % 64)) 0 n

  top_set : is_set (marked row g v) (8192 + g / 64) ≡ top
  unfolding marked
  top_set = let l = low_long in is_set_same (digit top) low (8192 + g / 64) (digit_lt top) (omega arith) ∙ eqb_digit top

  pub marked_tops : ((j : ℕ) → j < 128 → is_set row (8192 + j) ≡ not (eqb (get_or row j 0) 0))
      → (j : ℕ) → j < 128 → is_set (marked row g v) (8192 + j) ≡ not (eqb (get_or (marked row g v) j 0) 0)
  marked_tops h j k =
      by_cases (ℕ_discrete j (g / 64))
      (λ e. ap (λ (x : ℕ). is_set (marked row g v) (8192 + x)) e ∙ top_set
      ∙ ap (λ (w : ℕ). not (eqb w 0)) (sym (ap (λ (x : ℕ). get_or (marked row g v) x 0) e ∙ word_low (g / 64) (omega arith))))
      (λ e. marked_other (8192 + j) (λ x. e (omega arith)) (omega arith) ∙ h j k ∙ ap (λ (w : ℕ). not (eqb w 0)) (sym (marked_word j (omega arith) e)))

  pub cut_kept : {b : ℕ} → Cut b row → Cut b (marked row g v)
  cut_kept h =
      let at : (j : ℕ) → 130 ≤ j → get_or (marked row g v) j 0 ≡ get_or row j 0 = λ j k. marked_word j (omega arith) (omega arith) in
      record {
        long = marked_long;
        masks = λ k m. at (130 + k) (omega arith) ∙ h.masks k m;
        bytes = at 138 (omega arith) ∙ h.bytes;
        count = at 139 (omega arith) ∙ h.count;
        share = at 140 (omega arith) ∙ h.share;
      }

-- ---- one mark, as the code puts it

-- word j of the marks gets x, and its top word y
pub marked_is : (row : List ℕ) (j t x y : ℕ) (v : Bool) → length row ≡ 144 → j < 128 → t < 64
    → x ≡ word_put (digit v) (get_or row j 0) t → y ≡ word_put (digit (not (eqb x 0))) (get_or row (128 + j / 64) 0) (j % 64)
    → set (set row j x) (128 + j / 64) y ≡ marked row (64 * j + t) v
unfolding marked put_bit
marked_is row j t x y v long jl tl e f =
    let q : (64 * j + t) / 64 ≡ j = omega arith in let r : (64 * j + t) % 64 ≡ t = omega arith in
    let a : (8192 + j) / 64 ≡ 128 + j / 64 = omega arith in let b : (8192 + j) % 64 ≡ j % 64 = omega arith in
    rw (q, r, a, b, sym e, get_or-set_same row j x 0 (omega arith), get_or-set_other row j (128 + j / 64) x 0 (omega arith), f) refl

-- 1 shifted to place k, in a number of n bits
pub shifted : (n k : ℕ) → k < n → 1 * 2 ^ k % 2 ^ n ≡ 2 ^ k
shifted n k l = shl_exact {a = 1} 1 k n (omega arith) (omega arith) ∙ omega arith

pub mark_set : (row : List ℕ) (g : ℕ) → length row ≡ 144 → g < 8192
    → set (set row (g / 64) (bit_or (get_or row (g / 64) 0) (1 * 2 ^ (g % 64) % 18446744073709551616))) (128 + g / 64 / 64)
    (bit_or (get_or (set row (g / 64) (bit_or (get_or row (g / 64) 0) (1 * 2 ^ (g % 64) % 18446744073709551616))) (128 + g / 64 / 64) 0)
    (1 * 2 ^ (g / 64 % 64) % 18446744073709551616)) ≡ marked row g true
mark_set row g long gl =
    let j : ℕ = g / 64 in let x : ℕ = bit_or (get_or row j 0) (2 ^ (g % 64)) in
    let is : 64 * j + g % 64 ≡ g = omega arith in
    let some : not (eqb x 0) ≡ true = ap not (ne_eqb x 0 (put_some (get_or row j 0) (g % 64) (omega arith))) in
    rw (shifted 64 (g % 64) (omega arith), shifted 64 (g / 64 % 64) (omega arith), get_or-set_other row j (128 + j / 64) x 0 (omega arith))
    (marked_is row j (g % 64) x _ true long (omega arith) (omega arith) refl
    (ap (λ (v : Bool). word_put (digit v) (get_or row (128 + j / 64) 0) (j % 64)) (sym some))
    ∙ ap (λ (i : ℕ). marked row i true) is)

pub top_inside : (row : List ℕ) (j x : ℕ) → length row ≡ 144 → j < 128 → 128 + j / 64 < length (set row j x)
top_inside row j x long l = let n = length-set row j x in omega arith

pub mark_put : (row : List ℕ) (g : ℕ) (v : Bool) {r r' : List ℕ} → r ≡ put_bit (digit v) row g
    → r' ≡ put_bit (digit (not (eqb (get_or r (g / 64) 0) 0))) r (8192 + g / 64) → r' ≡ marked row g v
unfolding marked
mark_put row g v e f = f ∙ ap (λ (x : List ℕ). put_bit (digit (not (eqb (get_or x (g / 64) 0) 0))) x (8192 + g / 64)) e

-- ---- marks of a pool that changed at the run of class b at page g

class_of : (b d : ℕ) (x : Kind) → x ≡ Class b → x ≡ Class d → b ≡ d
class_of b d x e f = cc

module _ {n : ℕ} {p : Pool} {rows opens : List ℕ} (h : Marks n p rows opens) {m : ℕ} {q : Pool} {b g : ℕ} (gl : g < 8192)
    (same : SameBut n p m q b g) (o : ℕ) (free : Opens q.slots b g o) where
  bl : b < 30
  bl = class_at_low q g b same.here

  len : length (row_of rows b) ≡ 144
  len = (h.cuts.cut b bl).long

  abbrev row : List ℕ
  row = marked (row_of rows b) g (not (eqb o 0))

  own_row : Row m q b row
  own_row =
      let r = h.row b bl in
      record {
        marks =
            λ i l. by_cases (ℕ_discrete i g)
            (λ e. rw (e, lt-ltb g m same.inside) (marked_here (row_of rows b) g (not (eqb o 0)) len gl ∙ sym (open_has q same.here free)))
            (λ e. marked_other (row_of rows b) g (not (eqb o 0)) len gl i (omega arith) e ∙ r.marks i l ∙ same.has b i l (λ _. e));
        tops = marked_tops (row_of rows b) g (not (eqb o 0)) len gl r.tops;
      }

  long : length row ≡ 144
  long = marked_long (row_of rows b) g (not (eqb o 0)) len gl

  -- the rows of all classes
  row_of_lem : (d : ℕ) → d < 30 → Cut d (row_of (rows_with rows b row) d) × Row m q d (row_of (rows_with rows b row) d)
  row_of_lem d l =
      by_cases (ℕ_discrete d b)
      (λ e. rw (e, part_own rows row b bl h.cuts.long long) (cut_kept (row_of rows b) g (not (eqb o 0)) len gl (h.cuts.cut b bl), own_row))
      (λ e. rw (part_other rows row b bl h.cuts.long long d l e)
      (h.cuts.cut d l, record { marks = λ i k. (h.row d l).marks i k ∙ same.has d i k (λ x. absurd (e (sym x))); tops = (h.row d l).tops }))

  opens_of : (d i : ℕ) → i < m → kind_at q i ≡ Class d → Opens q.slots d i (get_or (set opens g o) i 0)
  opens_of d i l k =
      by_cases (ℕ_discrete i g)
      (λ e. let w = h.wide in let class = class_of d b (kind_at q i) k (ap (kind_at q) e ∙ same.here) in
      rw (e, class, get_or-set_same opens g o 0 (omega arith)) free)
      (λ e. let (a, f) = same.kind d i l e k in let before = h.byte d i a f in
      rw (get_or-set_other opens g i o 0 e)
      (record { byte = before.byte; which = λ j x. rw (sym (same.words i j l x e)) (before.which j x) }))

  pub noted : Marks m q (rows_with rows b row) (set opens g o)
  noted =
      record {
        cuts = record { long = part_long rows row b bl h.cuts.long long; cut = λ d l. (row_of_lem d l).0 };
        wide = length-set opens g o ∙ h.wide;
        row = λ d l. (row_of_lem d l).1;
        byte = opens_of;
      }

-- ---- a row as the code lends it

abbrev pub lent_row : List ℕ → ℕ → List ℕ
lent_row rows b = take (144 * b + 144 - 144 * b) (drop (144 * b) rows)

pub row_part : (rows : List ℕ) (b : ℕ) → lent_row rows b ≡ row_of rows b
row_part rows b = let e : 144 * b + 144 - 144 * b ≡ 144 = omega arith in ap (λ (k : ℕ). take k (drop (144 * b) rows)) e

pub lent_long : (rows : List ℕ) (b : ℕ) → length rows ≡ 4320 → b < 30 → length (lent_row rows b) ≡ 144
lent_long rows b e l = ap length (row_part rows b) ∙ row_long rows b e l

pub rows_back : {n : ℕ} {q : Pool} {opens' : List ℕ} (rows row' : List ℕ) (b : ℕ) → Marks n q (rows_with rows b row') opens'
    → Marks n q (put_mid (144 * b) (144 * b + 144 - 144 * b) rows row') opens'
unfolding rows_with
rows_back {n} {q} {opens'} rows row' b h =
    let e : 144 ≡ 144 * b + 144 - 144 * b = omega arith in subst (λ (k : ℕ). Marks n q (put_mid (144 * b) k rows row') opens') e h
