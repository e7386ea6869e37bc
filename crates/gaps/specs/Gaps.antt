-- Finding n pages (RULES 5.3): the chunk with the lowest number that has a gap of at least n; in it, the
-- shortest such gap, the lower one on a tie; the run starts at the gap's first page. A gap is a longest stretch of free pages.
-- Pages are counted through the pool, page p of chunk k as 512 * k + p, and bit g of the row of page bits is 1 where page g is taken.
-- Assumes nothing.
use Rattle.std.specs.Prelude.{◌≡◌, ◌↔◌, ◌⊎◌, Bool, cond, ◌&&◌, ℕ, zero, suc, ◌+◌, ◌-◌, ◌*◌, ◌≤◌, ◌<◌, eqb, ltb, leb, Option, Some, None}
use mathlib.Core.List.{List, [], ◌∷◌, Memᴰ}
use Rattle.std.specs.Int.Bits.{differ}
use Rattle.bitrow.specs.Row.{bit, bit_at, put_bit}
use Rattle.gaps.specs.declared.Gap.{Gap}
use Rattle.gaps.specs.declared.Search.{Search}

abbrev pub is_free : List ℕ → ℕ → Bool
is_free bits g = eqb (bit_at bits g) 0

abbrev pub gap : ℕ → ℕ → Gap
gap a l = record { at = a; len = l }

-- the gap of l pages at a in front of others; no pages are no gap
abbrev pub with_gap : ℕ → ℕ → List Gap → List Gap
with_gap a zero others = others
with_gap a (suc l) others = gap a (suc l) ∷ others

-- The gaps of the m pages from g on, by rising first page. The l pages right before g are free, and belong to the gap that is open at g.
-- It ends before a taken page, and behind the last page.
unfoldable pub gaps_from : List ℕ → ℕ → ℕ → ℕ → List Gap
gaps_from bits g zero l = with_gap (g - l) l []
gaps_from bits g (suc m) l =
    let others = gaps_from bits (g + 1) m (cond (is_free bits g) (l + 1) 0) in
    cond (is_free bits g) others (with_gap (g - l) l others)

-- the gaps of chunk k: its page 0 belongs to none
unfoldable pub gaps_of : List ℕ → ℕ → List Gap
gaps_of bits k = gaps_from bits (512 * k + 1) 511 0

-- no gap: it is longer than each gap of a chunk
abbrev pub no_gap : Gap
no_gap = gap 0 512

-- x, where it holds n pages and is shorter than the best gap before it
unfoldable pub better : ℕ → Gap → Gap → Gap
better n x best = cond (leb n x.len && ltb x.len best.len) x best

-- the shortest of `best` and those of the gaps that hold n pages, the first of them on a tie
unfoldable pub shortest : ℕ → Gap → List Gap → Gap
shortest n best [] = best
shortest n best (x ∷ xs) = shortest n (better n x best) xs

abbrev pub found_at : Gap → Option ℕ
found_at best = cond (ltb best.len 512) (Some best.at) None

-- n pages in chunk k
unfoldable pub find_in_chunk : List ℕ → ℕ → ℕ → Option ℕ
find_in_chunk bits k n = found_at (shortest n no_gap (gaps_of bits k))

abbrev pub or_else : Option ℕ → Option ℕ → Option ℕ
or_else (Some g) next = Some g
or_else None next = next

-- n pages in the first of the m chunks from k on that has them
unfoldable pub find_from : List ℕ → ℕ → ℕ → ℕ → Option ℕ
find_from bits n k zero = None
find_from bits n k (suc m) = or_else (find_in_chunk bits k n) (find_from bits n (k + 1) m)

-- n pages in a pool of c chunks
unfoldable pub find_pages : ℕ → List ℕ → ℕ → Option ℕ
find_pages c bits n = find_from bits n 0 c

-- ---- the search reads a chunk a word at a time, from edge to edge: an edge is a page whose bit differs from that of the page before it

-- e has the edges of the word w from place o on, and nothing below it; v is the bit before place o
pub record Edges (w o v e : ℕ) : Type 0 where
  pub below : (i : ℕ) → i < o → bit e i ≡ 0
  pub first : o < 64 → bit e o ≡ differ (bit w o) v
  pub later : (i : ℕ) → o ≤ i → i + 1 < 64 → bit e (i + 1) ≡ differ (bit w (i + 1)) (bit w i)

abbrev pub searching : ℕ → Gap → Search
searching a b = record { start = a; best = b }

-- the search behind the edge at page e
unfoldable pub at_edge : ℕ → ℕ → ℕ → Search → Search
at_edge n to e s = cond (ltb s.start e) (searching to (better n (gap s.start (e - s.start)) s.best)) (searching e s.best)

-- what the search gives that has come to page g, in the pages up to, not including, `to`
unfoldable pub ahead : List ℕ → ℕ → ℕ → ℕ → Search → Gap
ahead bits n to g s = shortest n s.best (gaps_from bits g (to - g) (g - s.start))

-- at page g a gap is open or none is
abbrev pub Ready : ℕ → ℕ → Search → Type 0
Ready to g s = (s.start < g) ⊎ (s.start ≡ to)

-- the word w shows the 64 pages from q on
abbrev pub Shows : List ℕ → ℕ → ℕ → Type 0
Shows bits q w = (i : ℕ) → i < 64 → bit_at bits (q + i) ≡ bit w i

-- r is the search s behind the 64 pages from q on, which w shows
pub record Searched (w q to n : ℕ) (s r : Search) : Type 0 where
  pub ready : Ready to (q + 64) r
  pub gives : (bits : List ℕ) → Shows bits q w → ahead bits n to (q + 64) r ≡ ahead bits n to q s

-- the row with page 0 of chunk k taken
unfoldable pub barred : List ℕ → ℕ → List ℕ
barred bits k = put_bit 1 bits (512 * k)

-- ---- what these definitions mean

-- a longest stretch of free pages of chunk k
pub record IsGap (bits : List ℕ) (k : ℕ) (x : Gap) : Type 0 where
  pub some : 1 ≤ x.len
  pub low : 512 * k + 1 ≤ x.at
  pub high : x.at + x.len ≤ 512 * k + 512
  pub free : (i : ℕ) → x.at ≤ i → i < x.at + x.len → bit_at bits i ≡ 0
  pub before : 512 * k + 1 < x.at → bit_at bits (x.at - 1) ≡ 1
  pub after : x.at + x.len < 512 * k + 512 → bit_at bits (x.at + x.len) ≡ 1

-- the shortest gap of chunk k that holds n pages, the lowest one on a tie
pub record IsBest (bits : List ℕ) (k n : ℕ) (x : Gap) : Type 0 where
  pub is : IsGap bits k x
  pub holds : n ≤ x.len
  pub least : (z : Gap) → IsGap bits k z → n ≤ z.len → x.len ≤ z.len
  pub lowest : (z : Gap) → IsGap bits k z → z.len ≡ x.len → x.at ≤ z.at

-- no gap of chunk k holds n pages
abbrev pub HoldsNone : List ℕ → ℕ → ℕ → Type 0
HoldsNone bits k n = (z : Gap) → IsGap bits k z → z.len < n

-- g is the first page of the best gap of the first chunk that has one
pub record IsPlace (c : ℕ) (bits : List ℕ) (n g : ℕ) : Type 0 where
  pub chunk : ℕ
  pub exists : chunk < c
  pub earlier : (i : ℕ) → i < chunk → HoldsNone bits i n
  pub best : Gap
  pub is : IsBest bits chunk n best
  pub starts : best.at ≡ g

-- The claim: the list has the gaps of the chunk and nothing else, and the answer is that of RULES 5.3.
pub record GapsMean : Type 0 where
  pub listed : (bits : List ℕ) (k : ℕ) (x : Gap) → Memᴰ x (gaps_of bits k) ↔ IsGap bits k x
  pub found : (c : ℕ) (bits : List ℕ) (n g : ℕ) → (find_pages c bits n ≡ Some g) ↔ IsPlace c bits n g
  pub nothing : (c : ℕ) (bits : List ℕ) (n : ℕ) → (find_pages c bits n ≡ None) ↔ ((k : ℕ) → k < c → HoldsNone bits k n)
