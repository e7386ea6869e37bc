-- Demand 3: a book that is kept is what a census lists. Assumes nothing.
use mathlib.Core.Path.{◌≡◌, refl, sym, ap, ◌∙◌, subst}
use mathlib.Core.Bool.{true}
use mathlib.Core.List.{List, [], ◌++◌, Memᴰ}
use Prim.Native.Nat.{ℕ, zero, suc, ◌*◌, ◌≤◌}
use native.Mathlib.Omega.{arith}
use lib.ListN.{length, drop}
use Rattle.refusals.specs.Refusals.{unless}
use Rattle.records.specs.Kinds.{zeros}
use Rattle.records.specs.Pool.{Pool, pool}
use Rattle.records.specs.Calls.{fit, shape_of, Left, leaves, fresh_pool, fresh_of}
use Rattle.records.proofs.KindLaws.{length_zeros}
use Rattle.records.proofs.AdmitLaws.{lengths_shaped, shape_fits}
use Rattle.records.proofs.FreshLaws.{fresh_served}
use Rattle.blocks.specs.Blocks.{Block, live, Rising}
use Rattle.blocks.proofs.ApartLaws.{live_rising, live_off}
use Rattle.census.specs.Census.{words_for, counted, census_of}
use Rattle.census.proofs.MeanLaws as census
use Rattle.demands.specs.Demand3.{State, state, sort, Lists, Demand3}
use Rattle.demands.proofs.BookLaws.{length_sort, in_sort, rising_apart}
use Rattle.demands.proofs.KeepLaws.{Booked, fresh_noted, series_keeps}

-- ---- what the book says

module _ (c : ℕ) (x : State) (h : Booked c x) where
  count : length (live c x.pool) ≡ length x.book
  count = ap length h.listed ∙ length_sort x.book

  census_lists : (room : List ℕ) → 2 * length x.book ≤ length room
      → census_of c x.pool room
      ≡ leaves (counted 0 (length x.book)) (words_for (sort x.book) ++ drop (2 * length x.book) room)
  census_lists room k =
      let n = count in
      census.census_lists c x.pool room h.good (omega arith)
      ∙ ap (λ (m : ℕ). leaves (counted 0 m) (words_for (live c x.pool) ++ drop (2 * m) room)) n
      ∙ ap (λ (l : List Block). leaves (counted 0 (length x.book)) (words_for l ++ drop (2 * length x.book) room)) h.listed

  book_rising : Rising 0 (sort x.book) (2097152 * c)
  book_rising = subst (λ (l : List Block). Rising 0 l (2097152 * c)) h.listed (live_rising c x.pool h.good)

  booked_lists : Lists c x
  booked_lists =
      let n = length_sort x.book in
      record {
        census = census_lists;
        rising = book_rising;
        apart = λ i j a b. rising_apart book_rising i j (omega arith) (omega arith);
        off = λ b m q y. live_off c x.pool h.good b (subst (Memᴰ b) (sym h.listed) (in_sort m)) q y.0 y.1;
      }

-- ---- the start

-- a fresh call that is not refused fits
fresh_fits : (c : ℕ) (p : Pool) → (fresh_of c p).answer ≡ 0 → fit c p ≡ true
unfolding fresh_of
fresh_fits c p e = go (shape_of c p) refl e
  where
    go : (n : ℕ) → shape_of c p ≡ n → (unless n (λ r. leaves r p) (leaves 0 (fresh_pool c))).answer ≡ 0 → fit c p ≡ true
    go zero k z = shape_fits c p k
    go (suc n) k z = absurd (omega arith)

-- buffers of the right lengths, of zeros
zeros_open : (c : ℕ) → 1 ≤ c → c ≤ 16 → (fresh_of c (pool (zeros (8 * c)) (zeros (512 * c)) (zeros (4096 * c)))).answer ≡ 0
zeros_open c l m =
    ap (λ (y : Left ℕ Pool). y.answer)
    (fresh_served c (pool (zeros (8 * c)) (zeros (512 * c)) (zeros (4096 * c)))
    (sym (lengths_shaped c _ _ _ (record {
      some_chunk = l;
      few = m;
      bits_long = length_zeros (8 * c);
      words_long = length_zeros (512 * c);
      slots_long = length_zeros (4096 * c);
    }))))

pub demand_3 : Demand3
demand_3 =
    record {
      opens = zeros_open;
      lists = λ c p e calls.
          booked_lists c _ (series_keeps c calls (state (fresh_of c p).left []) (fresh_noted c p (fresh_fits c p e)));
    }
