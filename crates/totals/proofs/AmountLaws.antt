-- The number of live blocks and the sum of their sizes, page by page. Assumes nothing.
use mathlib.Core.Path.{◌≡◌, refl, sym, ap, ap₂, ◌∙◌}
use mathlib.Core.Bool.{Bool, true, false}
use mathlib.Core.Logic.{◌≢◌}
use mathlib.Core.List.{List, [], ◌∷◌, ◌++◌}
use Prim.Native.Nat.{ℕ, zero, suc, ◌+◌, ◌*◌, ◌≤◌, ◌<◌}
use native.Mathlib.Nat.{zero-add, mul-le-mul_right}
use native.Mathlib.Omega.{arith}
use lib.Dec.{eqb}
use lib.ListN.{length, length-append}
use borrow.Author.Tests.{eq-eqb, ne_eqb}
use Rattle.bitrow.specs.Row.{digit, bit_at, is_set, count_bits}
use Rattle.bitrow.proofs.Rows.{bit_at_le}
use Rattle.bitrow.proofs.Counts.{count_le}
use Rattle.classes.specs.declared.Row.{Row}
use Rattle.classes.specs.Classes.{row_at, size, slots}
use Rattle.classes.proofs.ClassLaws.{any_row, size_read, slots_read}
use Rattle.records.specs.declared.Kind.{Kind}
use Rattle.records.specs.declared.Kind.TheVariants.{Edge, Free, Damaged, Large, Class, Inner}
use Rattle.records.specs.Pool.{Pool, kind_at, slot_at}
use Rattle.records.specs.Calls.{admit_of}
use Rattle.records.proofs.KindLaws.{Bare}
use Rattle.blocks.specs.Blocks.{Block, slot_block, flat, when, page_blocks, live, Rising, stop, next}
use Rattle.blocks.proofs.PageLaws.{kind_blocks, bare_blocks, live_from, from_start, from_step, from_over}
use Rattle.blocks.proofs.KeepLaws.{admit_good}
use Rattle.blocks.proofs.ApartLaws.{live_rising}
use Rattle.totals.specs.declared.Amount.{Amount}
use Rattle.totals.specs.Totals.{given, amount_of}
use Rattle.totals.specs.Rows.{class_in}

abbrev pub amount : ℕ → ℕ → Amount
amount n b = record { blocks = n; bytes = b }

-- ---- one list behind another

pub given_append : (a r : List Block) → given (a ++ r) ≡ given a + given r
unfolding given
given_append [] r = omega arith
given_append (b ∷ a) r = let h = given_append a r in omega arith

-- ---- the taken slots of a run

pub digit_set : (ss : List ℕ) (i : ℕ) → digit (is_set ss i) ≡ bit_at ss i
unfolding is_set
digit_set ss i = go (bit_at ss i) (bit_at_le ss i)
  where
    go : (d : ℕ) → d ≤ 1 → digit (eqb d 1) ≡ d
    go zero h = ap digit (ne_eqb 0 1 (omega arith))
    go (suc zero) h = ap digit (eq-eqb 1 1 refl)
    go (suc (suc d)) h = absurd (omega arith)

when_length : (v : Bool) (x : Block) (r : List Block) → length (when v x ++ r) ≡ digit v + length r
when_length true x r = omega arith
when_length false x r = omega arith

when_given : (v : Bool) (x : Block) (r : List Block) → given (when v x ++ r) ≡ digit v * x.size + given r
unfolding given
when_given true x r = omega arith
when_given false x r = omega arith

module _ (ss : List ℕ) (g b : ℕ) where
  abbrev slot_row : ℕ → List Block
  slot_row s = when (is_set ss (512 * g + s)) (slot_block g b s)

  slots_length : (i n j : ℕ) → 512 * g + i ≡ j → length (flat slot_row i n) ≡ count_bits ss j n
  unfolding flat count_bits
  slots_length i zero j e = refl
  slots_length i (suc n) j e =
      let r = slots_length (suc i) n (j + 1) (omega arith) in
      let d : digit (is_set ss (512 * g + i)) ≡ bit_at ss j = digit_set ss (512 * g + i) ∙ ap (bit_at ss) e in
      when_length (is_set ss (512 * g + i)) (slot_block g b i) (flat slot_row (suc i) n) ∙ ap₂ ◌+◌ d r

  slots_given : (i n j : ℕ) → 512 * g + i ≡ j → given (flat slot_row i n) ≡ count_bits ss j n * size b
  unfolding flat count_bits given
  slots_given i zero j e = omega arith
  slots_given i (suc n) j e =
      let r = slots_given (suc i) n (j + 1) (omega arith) in
      let d : digit (is_set ss (512 * g + i)) ≡ bit_at ss j = digit_set ss (512 * g + i) ∙ ap (bit_at ss) e in
      when_given (is_set ss (512 * g + i)) (slot_block g b i) (flat slot_row (suc i) n)
      ∙ ap₂ (λ (x y : ℕ). x * size b + y) d r ∙ omega arith

-- ---- the amount of a page, in the arm of a match that tells its kind

module _ (p : Pool) (g : ℕ) where
  pub page_none : {k : Kind} → k ≡ kind_at p g → Bare k → amount 0 0 ≡ amount_of (page_blocks p g)
  unfolding amount_of given
  page_none {k} e h = sym (ap amount_of (bare_blocks p g k e h))

  pub page_large : (n : ℕ) → Large n ≡ kind_at p g → amount 1 (4096 * (n + 1)) ≡ amount_of (page_blocks p g)
  unfolding amount_of given
  page_large n e =
      let r : 4096 * (n + 1) ≡ 4096 * suc n + 0 = omega arith in
      ap (amount 1) r ∙ ap amount_of (kind_blocks p g (Large n) (sym e))

  pub page_class : (b : ℕ) {r : Row} {s n z : ℕ} → Class b ≡ kind_at p g → r ≡ row_at b → s ≡ r.slots → n ≡ count_bits p.slots (512 * g) s → z ≡ r.size
      → amount n (n * z) ≡ amount_of (page_blocks p g)
  unfolding amount_of slot_at
  page_class b {n = n} {z = z} d e f h q =
      let count : n ≡ count_bits p.slots (512 * g) (slots b) = h ∙ ap (count_bits p.slots (512 * g)) (slots_read b e f) in
      let bytes : z ≡ size b = size_read b e q in
      ap₂ amount (count ∙ sym (slots_length p.slots g b 0 (slots b) (512 * g) (omega arith)))
      (ap₂ ◌*◌ count bytes ∙ sym (slots_given p.slots g b 0 (slots b) (512 * g) (omega arith)))
      ∙ ap amount_of (kind_blocks p g (Class b) (sym d))

-- a run's slots are few, and so are their bytes
pub slots_few : (b : ℕ) {r : Row} {s : ℕ} → r ≡ row_at b → s ≡ r.slots → s ≤ 512
slots_few b e f = let h = (any_row b).slots_most in let k = slots_read b e f in omega arith

pub bytes_few : (b : ℕ) {r : Row} (ss : List ℕ) (i : ℕ) {s n z : ℕ} → r ≡ row_at b → s ≡ r.slots → n ≡ count_bits ss i s → z ≡ r.size → n * z ≤ 28672
bytes_few b {r} ss i {s} {n} {z} e f h k =
    let a = any_row b in
    let few = slots_read b e f in
    let big = size_read b e k in
    let most = count_le s ss i in
    let m : n * size b ≤ slots b * size b = mul-le-mul_right (size b) (omega arith) in
    let t = a.fit in let u = a.pages_most in
    rw big (omega arith)

-- ---- the row of a page's class

-- any page but the first of a class run
pub others_zero : (k : Kind) → ((b : ℕ) → k ≢ Class b) → 0 ≡ class_in k
others_zero Edge h = refl
others_zero Free h = refl
others_zero Damaged h = refl
others_zero (Large k) h = refl
others_zero (Class b) h = absurd (h b refl)
others_zero (Inner w) h = refl

-- ---- the pages one after the other

-- so far n blocks of b bytes were found, and those from page g on make all
pub record Counted (c : ℕ) (p : Pool) (g n b : ℕ) : Type 0 where
  pub number : n + length (live_from c p g) ≡ length (live c p)
  pub sum : b + given (live_from c p g) ≡ given (live c p)

pub counted_start : (c : ℕ) (p : Pool) → Counted c p 0 0 0
counted_start c p =
    let e = sym (from_start c p) in
    record { number = zero-add (length (live_from c p 0)) ∙ ap length e; sum = zero-add (given (live_from c p 0)) ∙ ap given e }

module _ {c : ℕ} {p : Pool} {g n b : ℕ} (h : Counted c p g n b) (l : g < 512 * c) {t : Amount} (made : t ≡ amount_of (page_blocks p g)) where
  pub counted_on : Counted c p (g + 1) (n + t.blocks) (b + t.bytes)
  unfolding amount_of
  counted_on =
      let x : t.blocks ≡ length (page_blocks p g) = ap (λ (y : Amount). y.blocks) made in
      let z : t.bytes ≡ given (page_blocks p g) = ap (λ (y : Amount). y.bytes) made in
      let u = ap length (from_step c p g l) ∙ length-append (page_blocks p g) (live_from c p (g + 1)) in
      let v = ap given (from_step c p g l) ∙ given_append (page_blocks p g) (live_from c p (g + 1)) in
      let a = h.number in let d = h.sum in
      record { number = omega arith; sum = omega arith }

pub counted_done : {c : ℕ} {p : Pool} {g n b : ℕ} → Counted c p g n b → 512 * c ≤ g → amount n b ≡ amount_of (live c p)
unfolding amount_of given
counted_done {c} {p} {g} {n} {b} h l =
    let z = from_over c p g l in
    let u : length (live_from c p g) ≡ 0 = ap length z in
    let v : given (live_from c p g) ≡ 0 = ap given z in
    let a = h.number in let d = h.sum in
    let x : n ≡ length (live c p) = omega arith in let y : b ≡ given (live c p) = omega arith in
    ap₂ amount x y

-- ---- the sums are those of a pool: at most its bytes

rising_given : {l : List Block} {lo hi : ℕ} → Rising lo l hi → (lo + given l ≤ hi) × (length l ≤ given l)
unfolding given
rising_given (stop h) = (omega arith, omega arith)
rising_given (next {b} {l} h z r) = let (x, y) = rising_given r in (omega arith, omega arith)

pub record Bounded (c : ℕ) (p : Pool) : Type 0 where
  pub blocks : length (live c p) ≤ 2097152 * c
  pub bytes : given (live c p) ≤ 2097152 * c

pub bounded : (c : ℕ) (p : Pool) → admit_of c p ≡ 0 → Bounded c p
bounded c p ok = let (x, y) = rising_given (live_rising c p (admit_good c p ok)) in record { blocks = omega arith; bytes = omega arith }

pub count_as : {t : Amount} (l : List Block) → t ≡ amount_of l → t.blocks ≡ length l
unfolding amount_of
count_as l e = ap (λ (y : Amount). y.blocks) e
