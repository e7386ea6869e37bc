-- Marks beside sound records, for a caller that reserves and releases many times: where the free slots of each class are, in levels of one
-- word each, so that the lowest one is found in a fixed number of steps, however many chunks there are. Assumes nothing.
use Rattle.std.specs.Prelude.{◌≡◌, ◌≢◌, Bool, not, cond, ◌&&◌, Option, Some, None, List, ◌++◌, ℕ, ◌+◌, ◌-◌, ◌*◌, ◌/◌, ◌%◌, ◌≤◌, ◌<◌, min, eqb, ltb, length, get_or, take, drop}
use Rattle.bitrow.specs.Row.{digit, bit, is_set, Lowest, put_bit}
use Rattle.bitrow.specs.Mask.{mask_of}
use Rattle.classes.specs.Classes.{size, slots}
use Rattle.records.specs.declared.Kind.TheVariants.{Class}
use Rattle.records.specs.Pool.{Pool, kind_at}
use Rattle.records.specs.Calls.{Left, leaves}
use Rattle.blocks.specs.Stores.{put_slot, Good}
use Rattle.reserve.specs.Reserve.{lowest_free, has_slot, slot_page}
use Rattle.release.specs.Release.{slot_spot, released, give_back}

-- ---- the numbers of a row: 30 rows of 144 numbers, one for each class

-- words 0 to 127: the marks, a bit for each page. Words 128 and 129: the tops, a bit for each word of marks
abbrev pub top_at : ℕ
top_at = 128

-- words 130 to 137: the bits that the slots of a run have in each of its eight slot words
abbrev pub mask_at : ℕ
mask_at = 130

-- the slot size, the slots of a run, and 2 ^ 32 divided by the slot size, rounded up
abbrev pub size_at : ℕ
size_at = 138

abbrev pub count_at : ℕ
count_at = 139

abbrev pub share_at : ℕ
share_at = 140

abbrev pub row_length : ℕ
row_length = 144

-- the row of class b
abbrev pub row_of : List ℕ → ℕ → List ℕ
row_of rows b = take row_length (drop (row_length * b) rows)

-- the rows with another one as that of class b
unfoldable pub rows_with : List ℕ → ℕ → List ℕ → List ℕ
rows_with rows b row = take (row_length * b) rows ++ (row ++ drop row_length (drop (row_length * b) rows))

-- ---- what they say

-- how many slots of a run of class b have their bits in its slot word k
abbrev pub slots_in : ℕ → ℕ → ℕ
slots_in b k = min 64 (slots b - 64 * k)

-- one of the first n bits of the word w is 0
pub record Spare (w n : ℕ) : Type 0 where
  pub place : ℕ
  pub few : place < n
  pub free : bit w place ≡ 0

-- the bit v says whether the word w, of n slots, has a free one: 1 where it has, 0 where all are taken
abbrev pub Says : ℕ → ℕ → ℕ → Type 0
Says w n v = (v ≡ 1 → Spare w n) × (v ≡ 0 → (u : ℕ) → u < n → bit w u ≡ 1)

-- the byte o says which slot words of the run of class b at page g have a free slot
pub record Opens (ss : List ℕ) (b g o : ℕ) : Type 0 where
  pub byte : o < 256
  pub which : (k : ℕ) → k < 8 → Says (get_or ss (8 * g + k) 0) (slots_in b k) (bit o k)

-- the numbers of class b stand in its row
pub record Cut (b : ℕ) (row : List ℕ) : Type 0 where
  pub long : length row ≡ 144
  pub masks : (k : ℕ) → k < 8 → get_or row (mask_at + k) 0 ≡ mask_of 0 (slots_in b k)
  pub bytes : get_or row size_at 0 ≡ size b
  pub count : get_or row count_at 0 ≡ slots b
  pub share : get_or row share_at 0 ≡ 4294967295 / size b + 1

-- the numbers of all classes stand in their rows
pub record Cuts (rows : List ℕ) : Type 0 where
  pub long : length rows ≡ 4320
  pub cut : (b : ℕ) → b < 30 → Cut b (row_of rows b)

-- of the first n pages, page g has a run of class b with a free slot
abbrev pub has_to : ℕ → Pool → ℕ → ℕ → Bool
has_to n p b g = ltb g n && has_slot p b g

-- the marks of class b in its row
pub record Row (n : ℕ) (p : Pool) (b : ℕ) (row : List ℕ) : Type 0 where
  -- a page has a mark where a run of the class with a free slot starts
  pub marks : (g : ℕ) → g < 8192 → is_set row g ≡ has_to n p b g
  -- a word of marks has a top bit where it has a mark
  pub tops : (j : ℕ) → j < 128 → is_set row (8192 + j) ≡ not (eqb (get_or row j 0) 0)

-- the marks of the first n pages of the pool p: all rows, and a byte for each page at which a class run starts
pub record Marks (n : ℕ) (p : Pool) (rows opens : List ℕ) : Type 0 where
  pub cuts : Cuts rows
  pub wide : length opens ≡ 8192
  pub row : (b : ℕ) → b < 30 → Row n p b (row_of rows b)
  pub byte : (b g : ℕ) → g < n → kind_at p g ≡ Class b → Opens p.slots b g (get_or opens g 0)

-- ---- how they start

-- the number at place j of the row of class b before any page is looked at
unfoldable pub started : ℕ → ℕ → ℕ
started b j =
    cond (ltb j mask_at) 0
    (cond (ltb j size_at) (mask_of 0 (slots_in b (j - mask_at)))
    (cond (eqb j count_at) (slots b) (cond (eqb j share_at) (4294967295 / size b + 1) (size b))))

-- the numbers of all classes, and no mark: the marks of no page
abbrev pub Blank : List ℕ → Type 0
Blank rows = (p : Pool) (opens : List ℕ) → length opens ≡ 8192 → Marks 0 p rows opens

-- ---- how they change

-- the row with the mark v at page g, and the top bit of its word
unfoldable pub marked : List ℕ → ℕ → Bool → List ℕ
marked row g v =
    let r = put_bit (digit v) row g in
    put_bit (digit (not (eqb (get_or r (g / 64) 0) 0))) r (8192 + g / 64)

-- what the first m pages of q have is what the first n of p have, but for the run of class b at page g of q
pub record SameBut (n : ℕ) (p : Pool) (m : ℕ) (q : Pool) (b g : ℕ) : Type 0 where
  pub here : kind_at q g ≡ Class b
  pub inside : g < m
  pub has : (d i : ℕ) → i < 8192 → (b ≡ d → i ≢ g) → has_to n p d i ≡ has_to m q d i
  pub kind : (d i : ℕ) → i < m → i ≢ g → kind_at q i ≡ Class d → (i < n) × (kind_at p i ≡ Class d)
  pub words : (i k : ℕ) → i < m → k < 8 → i ≢ g → get_or p.slots (8 * i + k) 0 ≡ get_or q.slots (8 * i + k) 0

-- the run of class b at page g of the pool q was looked at anew: marks of a pool that was the same but for this run are those of q
abbrev pub Noted : Pool → ℕ → ℕ → List ℕ → List ℕ → List ℕ → List ℕ → Type 0
Noted q b g rows opens rows' opens' = (n : ℕ) (p : Pool) (m : ℕ) → Marks n p rows opens → SameBut n p m q b g → Marks m q rows' opens'

-- ---- the row of one class, lent by itself

-- out of the marks of a good pool
pub record Part (p : Pool) (row opens : List ℕ) : Type 0 where
  pub chunks : ℕ
  pub class : ℕ
  pub rows : List ℕ
  pub good : Good chunks p
  pub low : class < 30
  pub marks : Marks (512 * chunks) p rows opens
  pub own : row ≡ row_of rows class
  pub long : length row ≡ 144

-- it came back as row', among marks of the pool q
abbrev pub Back : {p : Pool} {row opens : List ℕ} → Part p row opens → Pool → List ℕ → List ℕ → Type 0
Back l q row' opens' = Marks (512 * l.chunks) q (rows_with l.rows l.class row') opens'

-- word j is its first that has a mark, and the top word `top` says so
pub record Front (p : Pool) (row opens : List ℕ) (j top : ℕ) : Type 0 where
  pub part : Part p row opens
  pub inside : j < 128
  pub word : top ≡ get_or row (top_at + j / 64) 0
  pub lowest : Lowest 64 top 1 (j % 64)
  pub some : 1 ≤ top
  pub none : (i : ℕ) → i < j → get_or row i 0 ≡ 0

-- ---- what a call finds

-- the lowest free slot of class b is taken: 512 times its page and its number, where there is one
unfoldable pub taking : ℕ → Pool → ℕ → Left (Option ℕ) Pool
taking c p b =
    let g = slot_page p b 0 (512 * c) in
    let s = lowest_free p.slots b g in
    cond (ltb g (512 * c)) (leaves (Some (512 * g + s)) (put_slot 1 p g s)) (leaves None p)

-- the lowest free slot of the class in front was taken: the answer, the pool, and its row and bytes
abbrev pub Took : {p : Pool} {row opens : List ℕ} {j top : ℕ} → Front p row opens j top → ℕ → Pool → List ℕ → List ℕ → Type 0
Took {p} f r q row' opens' = (leaves (Some r) q ≡ taking f.part.chunks p f.part.class) × Back f.part q row' opens'

-- what starts at byte `off` of the run of class b at page g is given back
unfoldable pub giving : Pool → ℕ → ℕ → ℕ → Left ℕ Pool
giving p g b off = leaves (released (slot_spot p.slots g b off)) (give_back p (slot_spot p.slots g b off))
