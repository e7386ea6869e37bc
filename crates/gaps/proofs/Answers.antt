-- The answer for a pool, in the words of RULES 5.3, and what a caller that takes the pages wants of them.
-- Assumes nothing.
use mathlib.Core.Path.{◌≡◌, refl, sym, ap, ap₂, ◌∙◌, subst}
use mathlib.Core.Logic.{⊎_elim}
use mathlib.Core.List.{List}
use Prim.Native.Nat.{ℕ, zero, suc, ◌+◌, ◌-◌, ◌*◌, ◌/◌, ◌%◌, ◌≤◌, ◌<◌}
use native.Mathlib.Nat.{zero-add}
use native.Mathlib.Omega.{arith}
use lib.Dec.{lit<}
use Rattle.bitrow.specs.Row.{bit_at, next_bit}
use Rattle.bitrow.proofs.Rows.{lt_or_ge, First, next_first}
use Rattle.gaps.specs.declared.Gap.{Gap}
use Rattle.std.specs.Prelude.{Option, Some, None}
use Rattle.gaps.specs.Gaps.{gap, gaps_of, no_gap, shortest, found_at, find_in_chunk, or_else, find_from, find_pages, IsGap, IsBest, HoldsNone, IsPlace, GapsMean}
use Rattle.gaps.proofs.Scan.{free_or_taken, gaps_same}
use Rattle.gaps.proofs.Listed.{in_mem, mem_in, row_each, gaps_row, gap_listed}
use Rattle.gaps.proofs.Choice.{InChunk, chunk_means}

module _ (c : ℕ) (bits : List ℕ) (n : ℕ) where
  -- no chunk below k has a gap that holds n pages
  abbrev NoneBelow : ℕ → Type 0
  NoneBelow k = (i : ℕ) → i < k → HoldsNone bits i n

  -- what an answer for the pool means
  abbrev Means : Option ℕ → Type 0
  Means (Some g) = IsPlace c bits n g
  Means None = NoneBelow c

  -- chunk k, behind chunks that have no such gap, and what the chunks behind it give
  chunk_or_else : (k : ℕ) (f next : Option ℕ) → k < c → NoneBelow k → InChunk bits k n f
      → (HoldsNone bits k n → Means next) → Means (or_else f next)
  chunk_or_else k (Some g) next l h is rest = record { chunk = k; exists = l; earlier = h; best = is.0; is = is.2; starts = is.1 }
  chunk_or_else k None next l h is rest = rest is

  none_more : (k : ℕ) → NoneBelow k → HoldsNone bits k n → NoneBelow (k + 1)
  none_more k h z i l =
      ⊎_elim (λ a. h i a) (λ a. let same : k ≡ i = omega arith in subst (λ (j : ℕ). HoldsNone bits j n) same z) (lt_or_ge i k)

  means_from : (m k : ℕ) → k + m ≡ c → NoneBelow k → Means (find_from bits n k m)
  unfolding find_from
  means_from zero k e h = let same : k ≡ c = omega arith in subst NoneBelow same h
  means_from (suc m) k e h =
      chunk_or_else k (find_in_chunk bits k n) (find_from bits n (k + 1) m) (omega arith) h (chunk_means bits k n)
      (λ z. means_from m (k + 1) (omega arith) (none_more k h z))

  means : Means (find_pages c bits n)
  unfolding find_pages
  means = means_from c 0 (zero-add c) (λ i l. absurd (omega arith))

  -- ---- there is one such page only, and none where no chunk has such a gap

  place_first : (g h : ℕ) (p : IsPlace c bits n g) (q : IsPlace c bits n h) → q.chunk ≤ p.chunk
  place_first g h p q =
      ⊎_elim
      (λ l. let none = q.earlier p.chunk l p.best p.is.is in absurd (omega (arith, p.is.holds)))
      (λ l. l)
      (lt_or_ge p.chunk q.chunk)

  best_once : (k : ℕ) (x y : Gap) → IsBest bits k n x → IsBest bits k n y → x.at ≡ y.at
  best_once k x y a b =
      let xy = a.least y b.is b.holds in
      let yx = b.least x a.is a.holds in
      omega (arith, a.lowest y b.is (omega arith), b.lowest x a.is (omega arith))

  place_once : (g h : ℕ) → IsPlace c bits n g → IsPlace c bits n h → g ≡ h
  place_once g h p q =
      let same : q.chunk ≡ p.chunk = omega (arith, place_first g h p q, place_first h g q p) in
      let is : IsBest bits p.chunk n q.best = subst (λ (k : ℕ). IsBest bits k n q.best) same q.is in
      omega (arith, best_once p.chunk p.best q.best p.is is, p.starts, q.starts)

  never_both : (g : ℕ) → IsPlace c bits n g → NoneBelow c → ⊥
  never_both g p none = omega (arith, p.is.holds, none p.chunk p.exists p.best p.is.is)

  at_place : (g : ℕ) (f : Option ℕ) → Means f → IsPlace c bits n g → f ≡ Some g
  at_place g (Some h) m p = ap Some (place_once h g m p)
  at_place g None m p = absurd (never_both g p m)

  nothing_there : (f : Option ℕ) → Means f → NoneBelow c → f ≡ None
  nothing_there (Some g) m none = absurd (never_both g m none)
  nothing_there None m none = refl

  pub found_place : (g : ℕ) → find_pages c bits n ≡ Some g → IsPlace c bits n g
  found_place g e = subst Means e means

  pub place_found : (g : ℕ) → IsPlace c bits n g → find_pages c bits n ≡ Some g
  place_found g p = at_place g (find_pages c bits n) means p

  pub nothing_none : find_pages c bits n ≡ None → (k : ℕ) → k < c → HoldsNone bits k n
  nothing_none e = subst Means e means

  pub none_nothing : ((k : ℕ) → k < c → HoldsNone bits k n) → find_pages c bits n ≡ None
  none_nothing none = nothing_there (find_pages c bits n) means none

pub gaps_mean : GapsMean
gaps_mean = record {
  listed = λ bits k x. (λ m. (row_each (gaps_row bits k) x (mem_in m)).0, λ i. in_mem x (gaps_of bits k) (gap_listed bits k x i));
  found = λ c bits n g. (found_place c bits n g, place_found c bits n g);
  nothing = λ c bits n. (nothing_none c bits n, none_nothing c bits n);
}

-- ---- free pages lie in a gap

-- the m pages from g on lie in the gap x of chunk k
pub record Around (bits : List ℕ) (k g m : ℕ) : Type 0 where
  pub gap : Gap
  pub is : IsGap bits k gap
  pub low : gap.at ≤ g
  pub high : g + m ≤ gap.at + gap.len

module _ (bits : List ℕ) (k : ℕ) where
  -- all pages from a up to, not including, e are free
  abbrev Free : ℕ → ℕ → Type 0
  Free a e = (i : ℕ) → a ≤ i → i < e → bit_at bits i ≡ 0

  free_before : (a e : ℕ) → Free (a + 1) e → bit_at bits a ≡ 0 → Free a e
  free_before a e f z i l h = ⊎_elim (λ j. f i (omega arith) h) (λ j. let same : i ≡ a = omega arith in ap (bit_at bits) same ∙ z) (lt_or_ge a i)

  -- the gap's first page is d pages below a at most
  first_of : (d a e : ℕ) → 512 * k + 1 + d ≡ a → Free a e
      → (x : ℕ) × (512 * k + 1 ≤ x) × (x ≤ a) × Free x e × (512 * k + 1 < x → bit_at bits (x - 1) ≡ 1)
  first_of zero a e r f = (a, omega arith, omega arith, f, λ l. absurd (omega arith))
  first_of (suc d) a e r f =
      let same : a - 1 + 1 ≡ a = omega arith in
      ⊎_elim
      (λ z. let (x, l, h, free, edge) = first_of d (a - 1) e (omega arith) (free_before (a - 1) e (subst (λ (y : ℕ). Free y e) (sym same) f) z) in
      (x, l, omega arith, free, edge))
      (λ z. (a, omega arith, omega arith, f, λ l. z)) (free_or_taken bits (a - 1))

  pub free_around : (g m : ℕ) → 1 ≤ m → 512 * k + 1 ≤ g → g + m ≤ 512 * k + 512 → Free g (g + m) → Around bits k g m
  free_around g m some low high f =
      let (x, xl, xh, xf, xe) = first_of (g - (512 * k + 1)) g (g + m) (omega arith) f in
      let y = next_bit 1 bits (g + m) (512 * k + 512 - (g + m)) in
      let f : First bits (g + m) (512 * k + 512) 1 y = next_first bits (g + m) (512 * k + 512) 1 (lit< tt) high in
      let yl = f.low in let yh = f.high in
      let ends : x + (y - x) ≡ y = omega arith in
      record {
        gap = gap x (y - x);
        is = record {
          some = omega arith;
          low = xl;
          high = omega arith;
          free = λ i a b. ⊎_elim (λ j. xf i a j) (λ j. f.below i j (omega arith)) (lt_or_ge i (g + m));
          before = xe;
          after = λ l. ap (bit_at bits) ends ∙ f.here (omega arith);
        };
        low = xh;
        high = omega arith;
      }

-- n free pages from g on, all in one chunk of the pool and off its page 0
pub record FreeRun (c : ℕ) (bits : List ℕ) (n g : ℕ) : Type 0 where
  pub exists : g < 512 * c
  pub inside : g + n ≤ 512 * (g / 512) + 512
  pub off : 1 ≤ g % 512
  pub free : (i : ℕ) → g ≤ i → i < g + n → bit_at bits i ≡ 0

pub found_free : (c : ℕ) (bits : List ℕ) (n g : ℕ) → find_pages c bits n ≡ Some g → FreeRun c bits n g
found_free c bits n g e =
    let p = found_place c bits n g e in
    let start = p.starts in
    let chunk = p.exists in
    let holds = p.is.holds in
    let is = p.is.is in
    let some = is.some in
    let low = is.low in
    let high = is.high in
    record {
      exists = omega arith;
      inside = omega arith;
      off = omega arith;
      free = λ i a b. is.free i (omega arith) (omega arith);
    }

-- ---- rows with the same bits

module _ (bits bits' : List ℕ) where
  from_same : (n m k : ℕ) → ((i : ℕ) → i < 512 * (k + m) → bit_at bits i ≡ bit_at bits' i) → find_from bits n k m ≡ find_from bits' n k m
  unfolding find_from find_in_chunk gaps_of
  from_same n zero k h = refl
  from_same n (suc m) k h =
      ap₂ (λ (x : List Gap) (y : Option ℕ). or_else (found_at (shortest n no_gap x)) y) (gaps_same bits bits' 511 (512 * k + 1) 0 (λ i a b. h i (omega arith)))
      (from_same n m (k + 1) (λ i a. h i (omega arith)))

  pub find_same : (c n : ℕ) → ((i : ℕ) → i < 512 * c → bit_at bits i ≡ bit_at bits' i) → find_pages c bits n ≡ find_pages c bits' n
  unfolding find_pages
  find_same c n h = from_same n c 0 (λ i a. h i (omega arith))
