-- The turns of the search in a word, over pages that are alike and over an edge: each leaves what the search gives as it was.
-- Assumes nothing.
use mathlib.Core.Path.{◌≡◌, refl, sym, ap, ap₂, ◌∙◌, subst}
use mathlib.Core.Logic.{inl, inr}
use mathlib.Core.Bool.{Bool}
use mathlib.Core.List.{List}
use Prim.Native.Nat.{ℕ, zero, suc, ◌+◌, ◌-◌, ◌^◌, ◌≤◌, ◌<◌}
use native.Mathlib.Omega.{arith}
use borrow.Author.Tests.{lt-ltb, le-ltb, le-leb, lt-leb}
use lib.Bits.{bit_and, and_le_l}
use lib.Dec.{leb, lit<}
use Rattle.bitrow.specs.Row.{digit, bit, bit_at, Lowest}
use Rattle.bitrow.proofs.Words.{bit_of_zero}
use Rattle.bitrow.proofs.Lows.{one_within}
use Rattle.gaps.specs.declared.Gap.{Gap}
use Rattle.gaps.specs.declared.Search.{Search}
use Rattle.gaps.specs.Gaps.{gap, with_gap, gaps_from, better, shortest, Edges, searching, at_edge, ahead, Ready, Shows, Searched}
use Rattle.gaps.proofs.Scan.{gaps_free, gaps_taken, shortest_with, shortest_exact}
use Rattle.gaps.proofs.Edges.{unchanged, edge_behind, edge_here, edge_passed}

-- ---- over pages that are alike, and over an edge

-- the bit of the page before g: a gap is open there, or none is
pub data Side (to g : ℕ) (s : Search) : ℕ → Type 0 where
  opened : s.start < g → Side to g s 0
  closed : s.start ≡ to → Side to g s 1

module _ (n to e : ℕ) (s : Search) where
  pub at_end : s.start < e → at_edge n to e s ≡ searching to (better n (gap s.start (e - s.start)) s.best)
  unfolding at_edge
  at_end l = rw (lt-ltb s.start e l) refl

  pub at_start : e ≤ s.start → at_edge n to e s ≡ searching e s.best
  unfolding at_edge
  at_start l = rw (le-ltb s.start e l) refl

  side_over : {v : ℕ} → Side to e s v → e < to → Side to (e + 1) (at_edge n to e s) (1 - v)
  side_over (opened o) h = subst (λ (r : Search). Side to (e + 1) r 1) (sym (at_end o)) (closed refl)
  side_over (closed o) h = subst (λ (r : Search). Side to (e + 1) r 0) (sym (at_start (omega arith))) (opened (omega arith))

side_later : {to g e v : ℕ} {s : Search} → Side to g s v → g ≤ e → Side to e s v
side_later (opened o) l = opened (omega arith)
side_later (closed o) l = closed o

side_lt : {to g v : ℕ} {s : Search} → Side to g s v → v < 2
side_lt (opened o) = lit< tt
side_lt (closed o) = lit< tt

side_ready : {to g v : ℕ} {s : Search} → Side to g s v → Ready to g s
side_ready (opened o) = inl o
side_ready (closed o) = inr o

module _ (bits : List ℕ) (n to : ℕ) where
  -- page g is like the page before it
  next : (g : ℕ) (s : Search) {v : ℕ} → Side to g s v → g < to → bit_at bits g ≡ v → ahead bits n to g s ≡ ahead bits n to (g + 1) s
  unfolding ahead
  next g s (opened o) h same =
      ap (shortest n s.best)
      (ap (λ (m : ℕ). gaps_from bits g m (g - s.start)) (omega arith)
      ∙ gaps_free bits g (to - (g + 1)) (g - s.start) same
      ∙ ap (gaps_from bits (g + 1) (to - (g + 1))) (omega arith))
  next g s (closed o) h same =
      ap (shortest n s.best)
      (ap₂ (gaps_from bits g) (omega arith) (omega arith)
      ∙ gaps_taken bits g (to - (g + 1)) 0 same
      ∙ ap (gaps_from bits (g + 1) (to - (g + 1))) (omega arith))

  -- and so are those from g up to, not including, e
  pub skip : (d g e : ℕ) (s : Search) {v : ℕ} → Side to g s v → g + d ≡ e → e ≤ to → ((i : ℕ) → g ≤ i → i < e → bit_at bits i ≡ v)
      → ahead bits n to g s ≡ ahead bits n to e s
  skip zero g e s side l h like = ap (λ (x : ℕ). ahead bits n to x s) (omega arith)
  skip (suc d) g e s side l h like =
      next g s side (omega arith) (like g (omega arith) (omega arith))
      ∙ skip d (g + 1) e s (side_later side (omega arith)) (omega arith) h (λ i a b. like i (omega arith) b)

  -- page e is not
  over : (e : ℕ) (s : Search) {v : ℕ} → 1 ≤ n → Side to e s v → e < to → bit_at bits e ≡ 1 - v
      → ahead bits n to e s ≡ ahead bits n to (e + 1) (at_edge n to e s)
  unfolding ahead
  over e s some (opened o) h edge =
      let a : ℕ = s.start in
      let others : List Gap = gaps_from bits (e + 1) (to - (e + 1)) 0 in
      ap (shortest n s.best)
      (ap (λ (m : ℕ). gaps_from bits e m (e - a)) (omega arith)
      ∙ gaps_taken bits e (to - (e + 1)) (e - a) edge
      ∙ ap (λ (y : ℕ). with_gap y (e - a) others) (omega arith))
      ∙ shortest_with n a (e - a) s.best others some
      ∙ ap (λ (l : ℕ). shortest n (better n (gap a (e - a)) s.best) (gaps_from bits (e + 1) (to - (e + 1)) l)) (omega arith)
      ∙ ap (ahead bits n to (e + 1)) (sym (at_end n to e s o))
  over e s some (closed o) h edge =
      ap (shortest n s.best)
      (ap₂ (λ (m l : ℕ). gaps_from bits e m l) (omega arith) (omega arith)
      ∙ gaps_free bits e (to - (e + 1)) 0 edge
      ∙ ap (gaps_from bits (e + 1) (to - (e + 1))) (omega arith))
      ∙ ap (ahead bits n to (e + 1)) (sym (at_start n to e s (omega arith)))

  -- what comes behind a gap of n pages does not count
  settled : (g e : ℕ) (s : Search) → s.best.len ≡ n → ahead bits n to g s ≡ ahead bits n to e s
  unfolding ahead
  settled g e s x =
      shortest_exact n s.best (gaps_from bits g (to - g) (g - s.start)) x
      ∙ sym (shortest_exact n s.best (gaps_from bits e (to - e) (e - s.start)) x)

-- ---- over a word: the search r has come to a place of it, and the edges are those from there on

pub record Within (w q to n : ℕ) (s : Search) (edges : ℕ) (r : Search) : Type 0 where
  place : ℕ
  bit_before : ℕ
  high : place ≤ 64
  pub word : edges < 2 ^ 64
  are : Edges w place bit_before edges
  side : Side to (q + place) r bit_before
  same : (bits : List ℕ) → Shows bits q w → ahead bits n to (q + place) r ≡ ahead bits n to q s

module _ {w q to n : ℕ} {s : Search} (room : q + 64 ≤ to) where
  pub word_start : {edges : ℕ} → edges < 2 ^ 64 → Ready to q s → Edges w 0 (digit (leb q s.start)) edges → Within w q to n s edges s
  word_start l ready are = record {
    place = 0;
    bit_before = digit (leb q s.start);
    high = omega arith;
    word = l;
    are = are;
    side = side_later (side ready) (omega arith);
    same = λ bits shows. ap (λ (g : ℕ). ahead bits n to g s) (omega arith);
  }
    where
      side : Ready to q s → Side to q s (digit (leb q s.start))
      side (inl a) = subst (λ (b : Bool). Side to q s (digit b)) (sym (lt-leb q s.start a)) (opened a)
      side (inr a) = subst (λ (b : Bool). Side to q s (digit b)) (sym (le-leb q s.start (omega arith))) (closed a)

  module _ {edges : ℕ} {r : Search} (i : Within w q to n s edges r) where
    -- the pages from the place up to place t are alike
    alike : (bits : List ℕ) → Shows bits q w → (t : ℕ) → i.place ≤ t → t ≤ 64 → ((j : ℕ) → j < t → bit edges j ≡ 0)
        → ahead bits n to (q + t) r ≡ ahead bits n to q s
    alike bits shows t low high none =
        sym (skip bits n to (t - i.place) (q + i.place) (q + t) r i.side (omega arith) (omega arith)
        (λ j a b. ap (bit_at bits) (omega arith) ∙ shows (j - q) (omega arith)
        ∙ unchanged (side_lt i.side) i.are t high none (j - q) (omega arith) (omega arith)))
        ∙ i.same bits shows

    pub word_turn : {t : ℕ} {next : Search} → 1 ≤ n → 1 ≤ edges → Lowest 64 edges 1 t → next ≡ at_edge n to (q + t) r
        → Within w q to n s (bit_and edges (edges - 1)) next
    word_turn {t} {next} some more f there =
        let l = one_within edges t i.word more f in
        let v = i.bit_before in
        let v01 = side_lt i.side in
        let behind = edge_behind v01 i.are l f in
        let side : Side to (q + t) r v = side_later i.side (omega arith) in
        record {
          place = t + 1;
          bit_before = 1 - v;
          high = omega arith;
          word = omega (arith, i.word, and_le_l edges (edges - 1));
          are = edge_passed v01 i.are l f i.word more;
          side = subst (λ (x : Search). Side to (q + (t + 1)) x (1 - v)) (sym there)
              (side_later (side_over n to (q + t) r side (omega arith)) (omega arith));
          same = λ bits shows.
              ap₂ (λ (g : ℕ) (x : Search). ahead bits n to g x) (omega arith) there
              ∙ sym (over bits n to (q + t) r some side (omega arith) (shows t l ∙ edge_here v01 i.are l f))
              ∙ alike bits shows t behind (omega arith) f.below;
        }

    ready_behind : Ready to (q + 64) r
    ready_behind = side_ready (side_later i.side (omega (arith, i.high)))

    -- no edge is left
    pub word_done : edges ≡ 0 → Searched w q to n s r
    word_done z = record {
      ready = ready_behind;
      gives = λ bits shows. alike bits shows 64 i.high (omega arith) (λ j l. ap (λ (x : ℕ). bit x j) z ∙ bit_of_zero j);
    }

    -- a gap of n pages is found
    pub word_settled : r.best.len ≡ n → Searched w q to n s r
    word_settled x = record {
      ready = ready_behind;
      gives = λ bits shows. settled bits n to (q + 64) (q + i.place) r x ∙ i.same bits shows;
    }
