-- The choice among a chunk's gaps: it is the shortest gap that holds n pages, the lowest on a tie, and there is none where no gap holds them.
-- The chunks in turn: the first that has such a gap gives it.
-- Assumes nothing.
use mathlib.Core.Path.{◌≡◌, refl, sym, ap, ◌∙◌, subst}
use mathlib.Core.Logic.{◌⊎◌, inl, inr, ⊎_elim}
use mathlib.Core.Bool.{Bool, cond}
use mathlib.Core.List.{List, [], ◌∷◌}
use Prim.Native.Nat.{ℕ, suc, ◌+◌, ◌-◌, ◌≤◌, ◌<◌}
use native.Mathlib.Nat.{le_refl, sub-zero}
use native.Mathlib.Omega.{arith}
use borrow.Author.Tests.{lt-ltb, le-ltb}
use Rattle.bitrow.proofs.Rows.{lt_or_ge}
use Rattle.gaps.specs.declared.Gap.{Gap}
use Rattle.std.specs.Prelude.{Option, Some, None}
use Rattle.gaps.specs.Gaps.{gaps_of, no_gap, shortest, found_at, find_in_chunk, or_else, find_from, find_pages, IsBest, HoldsNone}
use Rattle.gaps.proofs.Scan.{better_took, better_short, better_kept, found_at_lem, found_nothing}
use Rattle.gaps.proofs.Listed.{In, Row, none, more, row_each, gaps_row, gap_listed}

-- y is no longer than x, and comes no later where it is as long
abbrev Beats : Gap → Gap → Type 0
Beats y x = (y.len ≤ x.len) × (x.len ≡ y.len → y.at ≤ x.at)

-- y is the shortest of best and the gaps of xs that hold n pages, and the first of those
record Chosen (n : ℕ) (best : Gap) (xs : List Gap) (y : Gap) : Type 0 where
  from : (y ≡ best) ⊎ (In y xs × (n ≤ y.len) × (y.len < best.len))
  beats : (x : Gap) → In x xs → n ≤ x.len → Beats y x

pub len_of : {x y : Gap} → x ≡ y → x.len ≡ y.len
len_of e = ap (λ (z : Gap). z.len) e

module _ {n : ℕ} {x best : Gap} {xs : List Gap} {y : Gap} where
  -- what the best beats
  passes : Chosen n best xs y → Beats best x → Beats y x
  passes ch b = ⊎_elim (λ d. rw d b) (λ t. (omega (arith, t.2, b.0), λ q. absurd (omega (arith, t.2, b.0)))) ch.from

  -- the best is as it was
  chosen_kept : (n ≤ x.len → Beats best x) → Chosen n best xs y → Chosen n best (x ∷ xs) y
  chosen_kept keep ch = record {
    from = ⊎_elim (λ e. inl e) (λ t. inr (inr t.0, t.1, t.2)) ch.from;
    beats = λ z i h. ⊎_elim (λ e. rw e (passes ch (keep (omega (arith, len_of e))))) (λ j. ch.beats z j h) i;
  }

-- x is the best now
chosen_took : {n : ℕ} {x best : Gap} {xs : List Gap} {y : Gap} → n ≤ x.len → x.len < best.len → Chosen n x xs y → Chosen n best (x ∷ xs) y
chosen_took {x = x} a b ch = record {
  from = inr (⊎_elim (λ e. (inl e, omega (arith, len_of e), omega (arith, len_of e))) (λ t. (inr t.0, t.1, omega (arith, t.2))) ch.from);
  beats = λ z i h. ⊎_elim (λ e. rw e (passes ch (le_refl x.len, λ q. le_refl x.at))) (λ j. ch.beats z j h) i;
}

-- what an answer for chunk k means
abbrev pub InChunk : List ℕ → ℕ → ℕ → Option ℕ → Type 0
InChunk bits k n (Some a) = (x : Gap) × (x.at ≡ a) × IsBest bits k n x
InChunk bits k n None = HoldsNone bits k n

module _ (bits : List ℕ) (k n : ℕ) where
  shortest_chosen : {a : ℕ} (xs : List Gap) (best : Gap) → Row bits k a xs → ((x : Gap) → In x xs → x.len ≡ best.len → best.at ≤ x.at)
      → Chosen n best xs (shortest n best xs)
  unfolding shortest
  shortest_chosen [] best none early = record { from = inl refl; beats = λ x i h. absurd i }
  shortest_chosen (x ∷ xs) best (more is low r) early =
      let kept = shortest_chosen xs best r (λ z i. early z (inr i)) in
      ⊎_elim
      (λ s. rw (better_short n x best s) (chosen_kept (λ h. absurd (omega arith)) kept))
      (λ s. ⊎_elim
      (λ t. rw (better_took n x best s t) (chosen_took s t (shortest_chosen xs x r (λ z i q. (row_each r z i).1))))
      (λ t. rw (better_kept n x best s t) (chosen_kept (λ h. (t, early x (inl refl))) kept))
      (lt_or_ge x.len best.len))
      (lt_or_ge x.len n)

  chosen : Chosen n no_gap (gaps_of bits k) (shortest n no_gap (gaps_of bits k))
  chosen =
      shortest_chosen (gaps_of bits k) no_gap (gaps_row bits k)
      (λ x i q. let is = (row_each (gaps_row bits k) x i).0 in absurd (omega (arith, is.low, is.high)))

  answered : (y : Gap) → Chosen n no_gap (gaps_of bits k) y → InChunk bits k n (found_at y)
  answered y ch =
      ⊎_elim
      (λ h. subst Goal (sym (lt-ltb y.len 512 h)) (y, refl, best h))
      (λ h. subst Goal (sym (le-ltb y.len 512 h)) (none h))
      (lt_or_ge y.len 512)
    where
      Goal : Bool → Type 0
      Goal b = InChunk bits k n (cond b (Some y.at) None)

      one : y.len < 512 → In y (gaps_of bits k) × (n ≤ y.len)
      one h = ⊎_elim (λ e. absurd (omega (arith, len_of e))) (λ t. (t.0, t.1)) ch.from

      best : y.len < 512 → IsBest bits k n y
      best h = record {
        is = (row_each (gaps_row bits k) y (one h).0).0;
        holds = (one h).1;
        least = λ z i l. (ch.beats z (gap_listed bits k z i) l).0;
        lowest = λ z i q. (ch.beats z (gap_listed bits k z i) (omega (arith, (one h).1))).1 q;
      }

      none : 512 ≤ y.len → HoldsNone bits k n
      none h z i =
          ⊎_elim (λ l. l) (λ l. absurd (omega (arith, (ch.beats z (gap_listed bits k z i) l).0, i.low, i.high))) (lt_or_ge z.len n)

  pub chunk_means : InChunk bits k n (find_in_chunk bits k n)
  unfolding find_in_chunk
  chunk_means = answered (shortest n no_gap (gaps_of bits k)) chosen

-- ---- the turns of the search in a pool: no chunk before k gave a gap, and the chunks from k on give what all chunks give

pub record Sought (bits : List ℕ) (n c k : ℕ) (best : Gap) : Type 0 where
  pub none : best ≡ no_gap
  pub gives : find_from bits n k (c - k) ≡ find_pages c bits n

module _ (bits : List ℕ) (n c : ℕ) where
  pub sought_start : Sought bits n c 0 no_gap
  unfolding find_pages
  sought_start = record { none = refl; gives = ap (find_from bits n 0) (sub-zero c) }

  module _ (k : ℕ) (best next : Gap) (l : k < c) (e : next ≡ shortest n best (gaps_of bits k)) (s : Sought bits n c k best) where
    alone : next ≡ shortest n no_gap (gaps_of bits k)
    alone = e ∙ ap (λ (b : Gap). shortest n b (gaps_of bits k)) s.none

    step : or_else (found_at next) (find_from bits n (k + 1) (c - (k + 1))) ≡ find_pages c bits n
    unfolding find_from find_in_chunk
    step =
        let more : suc (c - (k + 1)) ≡ c - k = omega arith in
        ap (λ (x : Gap). or_else (found_at x) (find_from bits n (k + 1) (c - (k + 1)))) alone ∙ ap (find_from bits n k) more ∙ s.gives

    pub sought_at : next.len < 512 → Some next.at ≡ find_pages c bits n
    sought_at h = sym (ap (λ (f : Option ℕ). or_else f (find_from bits n (k + 1) (c - (k + 1)))) (found_at_lem next h)) ∙ step

    pub sought_turn : 512 ≤ next.len → Sought bits n c (k + 1) next
    sought_turn h = record {
      none = ⊎_elim (λ z. alone ∙ z) (λ z. absurd (omega (arith, z.2, len_of alone))) (chosen bits k n).from;
      gives = sym (ap (λ (f : Option ℕ). or_else f (find_from bits n (k + 1) (c - (k + 1)))) (found_nothing next h)) ∙ step;
    }

  pub sought_none : (k : ℕ) (best : Gap) → c ≤ k → Sought bits n c k best → None ≡ find_pages c bits n
  unfolding find_from
  sought_none k best l s = let none : 0 ≡ c - k = omega arith in ap (find_from bits n k) none ∙ s.gives
