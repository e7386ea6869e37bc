-- What the stores of the calls promise: each keeps a pool good, and its live blocks are those before with one block more or less, or just
-- these.
-- Assumes nothing.
use Rattle.std.specs.Prelude.{◌≡◌, ℕ, suc, ◌+◌, ◌*◌, ◌<◌, ◌≤◌, true, false, []}
use Rattle.records.specs.declared.Kind.TheVariants.{Free, Large, Class}
use Rattle.records.specs.Kinds.{zeros, behind, words_of}
use Rattle.records.specs.Pool.{Pool, kind_at}
use Rattle.records.specs.Calls.{fresh_pool}
use Rattle.blocks.specs.Blocks.{slot_block, run_block, IsSlot, IsLarge, IsEmpty, live}
use Rattle.blocks.specs.Stores.{put_run, put_slot, Good, Gains, Loses, Stays}

pub record Keeps : Type 0 where
  -- a large run is written on free pages
  pub put_large : (c : ℕ) (p : Pool) → Good c p → (g k : ℕ) → k < 511 → g + suc k ≤ 512 * c
      → ((i : ℕ) → g ≤ i → i < g + suc k → kind_at p i ≡ Free) → Gains c p (put_run 1 p g (words_of (Large k))) (run_block g k)
  -- a large run is freed
  pub give_large : (c : ℕ) (p : Pool) → Good c p → (g k : ℕ) → IsLarge c p g k
      → Loses c p (put_run 0 p g (zeros (suc k))) (run_block g k)
  -- a free slot is taken
  pub put_slot_lem : (c : ℕ) (p : Pool) → Good c p → (g b s : ℕ) → IsSlot c p g b s false
      → Gains c p (put_slot 1 p g s) (slot_block g b s)
  -- a taken slot is freed
  pub give_slot : (c : ℕ) (p : Pool) → Good c p → (g b s : ℕ) → IsSlot c p g b s true
      → Loses c p (put_slot 0 p g s) (slot_block g b s)
  -- a run of a class is written on free pages, and its slot 0 is taken
  pub put_class : (c : ℕ) (p : Pool) → Good c p → (g b : ℕ) → b < 30 → g + suc (behind b) ≤ 512 * c
      → ((i : ℕ) → g ≤ i → i < g + suc (behind b) → kind_at p i ≡ Free)
      → Gains c p (put_slot 1 (put_run 1 p g (words_of (Class b))) g 0) (slot_block g b 0)
  -- an empty run is freed
  pub give_class : (c : ℕ) (p : Pool) → Good c p → (g b : ℕ) → IsEmpty c p g b → Stays c p (put_run 0 p g (zeros (suc (behind b))))
  -- fresh records hold no block
  pub fresh_empty : (c : ℕ) → live c (fresh_pool c) ≡ []
