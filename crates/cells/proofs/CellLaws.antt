-- What each page shows. Assumes nothing.
use mathlib.Core.Path.{◌≡◌, refl, sym, ap, ap₂, ◌∙◌}
use mathlib.Core.List.{List}
use Prim.Native.Nat.{ℕ, suc, ◌+◌, ◌*◌, ◌/◌, ◌≤◌, ◌<◌}
use Prim.Native.Char.{code}
use native.Mathlib.Nat.{div-le_of_le-mul, div-mul-le_self, mul-div_left, mul-le-mul_right}
use native.Mathlib.Omega.{arith}
use borrow.Author.Tests.{lt-ltb, le-ltb}
use Rattle.bitrow.specs.Row.{count_bits}
use Rattle.bitrow.proofs.Counts.{count_le}
use Rattle.classes.specs.declared.Row.{Row}
use Rattle.classes.specs.Classes.{row_at, slots}
use Rattle.classes.proofs.ClassLaws.{row_facts, size_read, slots_read}
use Rattle.records.specs.declared.Kind.{Kind}
use Rattle.records.specs.Pool.{Pool, kind_at}
use Rattle.records.proofs.Flags.{lt_cases}
use Rattle.cells.specs.declared.Cell.{Cell}
use Rattle.cells.specs.Means.{CellsMean}
use Rattle.cells.specs.Cells.{cell, tenths, mark_of, run_cell, goes_on, cell_of, cell_at}

-- ---- tenths

pub tenths_most : (n s : ℕ) → n ≤ s → 0 < s → (10 * n / s ≡ tenths n s) × (10 * n / s ≤ 10)
unfolding tenths
tenths_most n s l h = (refl, div-le_of_le-mul s (omega (arith, l)))

pub mark_digit : (t : ℕ) → t < 10 → 48 + t ≡ mark_of t
unfolding mark_of
mark_digit t l = rw (lt-ltb t 10 l)

pub mark_full : (t : ℕ) → 10 ≤ t → ◌≡◌ {A = ℕ} 88 (mark_of t)
unfolding mark_of
mark_full t l = rw (le-ltb t 10 l)

-- X is the mark of a run all of whose slots are taken
mark_ten : (t : ℕ) → mark_of t ≡ 88 → 10 ≤ t
unfolding mark_of
mark_ten t = lt_cases (λ (m : ℕ). m ≡ 88 → 10 ≤ t) t 10 (λ l e. absurd (omega arith)) (λ l e. l)

pub cells_mean : CellsMean
unfolding tenths
cells_mean =
    record {
      full = λ n s l h e. let m = mark_ten (10 * n / s) e in
          let k = mul-le-mul_right s m in let d = div-mul-le_self (10 * n) s in omega arith;
      marked = λ s h. sym (mark_full (10 * s / s) (rw (mul-div_left 10 h) (omega arith)));
    }

-- ---- one page

pub run_shown : (ss : List ℕ) (i b : ℕ) {r : Row} {s n t m z : ℕ} → r ≡ row_at b → s ≡ r.slots → n ≡ count_bits ss i s → t ≡ tenths n s
    → m ≡ mark_of t → z ≡ r.size → cell m (code "c") 0 t z ≡ run_cell b (tenths (count_bits ss i (slots b)) (slots b))
unfolding run_cell
run_shown ss i b {r} {s} {n} {t} {m} {z} e f h k d w =
    let few = slots_read b e f in
    let big = size_read b e w in
    let full : t ≡ tenths (count_bits ss i (slots b)) (slots b) = k ∙ ap₂ tenths (h ∙ ap (count_bits ss i) few) few in
    rw (d, big, full)

-- what a run's row promises of its slots
pub run_slots : (b : ℕ) {r : Row} {s : ℕ} → b < 30 → r ≡ row_at b → s ≡ r.slots → (0 < s) × (s ≤ 512)
run_slots b l e f =
    let h = row_facts b l in
    let k = slots_read b e f in
    let u = h.slots_least in let v = h.slots_most in (omega arith, omega arith)

pub run_most : (ss : List ℕ) (i : ℕ) {s n : ℕ} → n ≡ count_bits ss i s → n ≤ s
run_most ss i {s} e = let h = count_le s ss i in omega arith

-- a cell with what the next one relies on
abbrev pub Drawn : Cell → Cell → Type 0
Drawn s x = (s ≡ x) × (s.joined ≤ 1) × (s.level ≤ 10)

-- the cell of page g
abbrev pub Shows : Pool → Cell → ℕ → Cell → Type 0
Shows p last g s = Drawn s (cell_at p last g)

-- in the arm of a match: the page is of the kind j
pub shown : (p : Pool) (last : Cell) (g : ℕ) (j : Kind) {s : Cell} → j ≡ kind_at p g → Drawn s (cell_of p g last j) → Shows p last g s
unfolding cell_at
shown p last g j e h = (h.0 ∙ ap (cell_of p g last) e, h.1, h.2)

pub large_shown : {s : Cell} (k : ℕ) → Drawn s (cell (code "L") (code "l") 0 0 (k + 1)) → Drawn s (cell (code "L") (code "l") 0 0 (suc k))
large_shown k h = let y : k + 1 ≡ suc k = omega arith in (h.0 ∙ ap (cell (code "L") (code "l") 0 0) y, h.1, h.2)

pub behind_shown : (last : Cell) {s : Cell} → last.level ≤ 10 → s ≡ goes_on last → Drawn s (goes_on last)
unfolding goes_on
behind_shown last h f = (f, rw f (omega arith), rw f h)
