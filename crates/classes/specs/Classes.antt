-- The 30 size classes (RULES 2) and the class that serves a request.
-- Assumes nothing.
use Rattle.std.specs.Prelude.{◌≡◌, ◌↔◌, cond, List, [], ◌∷◌, ℕ, zero, suc, ◌+◌, ◌-◌, ◌*◌, ◌/◌, ◌^◌, ◌≤◌, ◌<◌, leb, get_or}
use Rattle.std.specs.Int.Count.{count_leading_zeros}
use Rattle.classes.specs.declared.Row.{Row}

abbrev pub row_of : ℕ → ℕ → ℕ → Row
row_of z s p = record { size = z; slots = s; pages = p }

-- class: slot size in bytes, slots in a run, pages in a run
unfoldable pub rows : List Row
rows =
    row_of 8 512 1 ∷
    row_of 16 256 1 ∷
    row_of 24 170 1 ∷
    row_of 32 128 1 ∷
    row_of 40 102 1 ∷
    row_of 48 85 1 ∷
    row_of 56 73 1 ∷
    row_of 64 64 1 ∷
    row_of 80 51 1 ∷
    row_of 96 42 1 ∷
    row_of 112 36 1 ∷
    row_of 128 32 1 ∷
    row_of 160 25 1 ∷
    row_of 192 21 1 ∷
    row_of 224 18 1 ∷
    row_of 256 16 1 ∷
    row_of 320 64 5 ∷
    row_of 384 32 3 ∷
    row_of 448 9 1 ∷
    row_of 512 8 1 ∷
    row_of 640 32 5 ∷
    row_of 768 16 3 ∷
    row_of 896 9 2 ∷
    row_of 1024 8 2 ∷
    row_of 1280 16 5 ∷
    row_of 1536 8 3 ∷
    row_of 1792 16 7 ∷
    row_of 2048 8 4 ∷
    row_of 2560 8 5 ∷
    row_of 3072 4 3 ∷
    []

-- the row of class b: all zero where there is no such class
unfoldable pub row_at : ℕ → Row
row_at b = get_or rows b (row_of 0 0 0)

abbrev pub size : ℕ → ℕ
size b = (row_at b).size

abbrev pub slots : ℕ → ℕ
slots b = (row_at b).slots

abbrev pub pages : ℕ → ℕ
pages b = (row_at b).pages

-- the first class of these rows, counted from b, whose slots hold n bytes
unfoldable pub first_holding : List Row → ℕ → ℕ → ℕ
first_holding [] b n = b
first_holding (r ∷ rs) b n = let later = first_holding rs (suc b) n in cond (leb n r.size) b later

-- the smallest class that holds n bytes (30 where none does)
unfoldable pub class_for : ℕ → ℕ
class_for n = first_holding rows 0 n

-- the bit length of n, which has at most 64 bits
abbrev pub bit_length : ℕ → ℕ
bit_length n = 64 - count_leading_zeros 64 n

-- PHP 7's calculation of that class (zend_mm_small_size_to_bin): one for every 8 bytes up to 64, then four to each doubling
unfoldable pub calculated : ℕ → ℕ
calculated n =
    let last = n - 1 in
    let low = bit_length last - 3 in
    cond (leb n 64) (last / 8) (last / 2 ^ low + 4 * (low - 3))

-- what f gives at m numbers from i on
abbrev pub tabled : (ℕ → ℕ) → ℕ → ℕ → List ℕ
tabled f i zero = []
tabled f i (suc m) = f i ∷ tabled f (suc i) m

-- what each row keeps to: the pages of a run hold its slots, and not one slot more; and the bounds that the records rely on
pub record RowFacts (r : Row) : Type 0 where
  pub fit : r.slots * r.size ≤ 4096 * r.pages
  pub full : 4096 * r.pages < suc r.slots * r.size
  pub slots_least : 1 ≤ r.slots
  pub slots_most : r.slots ≤ 512
  pub pages_least : 1 ≤ r.pages
  pub pages_most : r.pages ≤ 7
  pub size_least : 8 ≤ r.size
  pub size_most : r.size ≤ 3072

-- class b is the smallest that holds n bytes
pub record Smallest (n b : ℕ) : Type 0 where
  pub class : b < 30
  pub holds : n ≤ size b
  pub smaller : (a : ℕ) → a < b → size a < n

-- The claim: what RULES 2 says of the rows and of the class of a request
pub record ClassesMean : Type 0 where
  pub row : (b : ℕ) → b < 30 → RowFacts (row_at b)
  pub smallest : (n b : ℕ) → n ≤ 3072 → Smallest n b ↔ (class_for n ≡ b)
