-- The stores of the calls: the pages of a run and one slot; and what they do to a pool. Assumes nothing.
use Rattle.std.specs.Prelude.{◌≡◌, ℕ, suc, ◌+◌, ◌*◌, ◌<◌, ◌≤◌, true, List, length, slice_index}
use Rattle.std.proofs.lemmas.List.Edits.{sets}
use Rattle.bitrow.specs.Row.{put_bit, put_bits}
use Rattle.records.specs.Pool.{Pool, pool}
use Rattle.records.specs.Calls.{fit}
use Rattle.records.specs.Sound.{sound}
use Rattle.blocks.specs.Blocks.{Block, live, Ins}

-- the pages from page g on get these words, and the page bit v each
unfoldable pub put_run : ℕ → Pool → ℕ → List ℕ → Pool
put_run v p g ws = pool (put_bits v p.bits g (length ws)) (sets p.words g ws) p.slots

-- slot s of the run that starts at page g gets the slot bit v
unfoldable pub put_slot : ℕ → Pool → ℕ → ℕ → Pool
put_slot v p g s = pool p.bits p.words (put_bit v p.slots (512 * g + s))

-- a large run at page g with k pages behind it lies inside the buffers, and the pages behind have the word 0
pub record LargeRoom (g k : ℕ) (bits words : List ℕ) : Type 0 where
  pub few : k < 511
  pub low : g + suc k ≤ 8192
  pub bit : g + suc k ≤ 64 * length bits
  pub word : g + suc k ≤ length words
  pub zero : (i : ℕ) → g < i → i < g + suc k → slice_index words i ≡ 0

-- records of c chunks, sound
pub record Good (c : ℕ) (p : Pool) : Type 0 where
  pub shape : fit c p ≡ true
  pub whole : sound c p ≡ true

-- the pool q is as good as p was, and has the block b more
pub record Gains (c : ℕ) (p q : Pool) (b : Block) : Type 0 where
  pub good : Good c q
  pub more : Ins b (live c p) (live c q)

-- ... or less
pub record Loses (c : ℕ) (p q : Pool) (b : Block) : Type 0 where
  pub good : Good c q
  pub less : Ins b (live c q) (live c p)

-- ... or the block b in place of a, all others as they were
pub record Swaps (c : ℕ) (p q : Pool) (a b : Block) : Type 0 where
  pub good : Good c q
  pub others : List Block
  pub less : Ins a others (live c p)
  pub more : Ins b others (live c q)

-- ... or the same blocks
pub record Stays (c : ℕ) (p q : Pool) : Type 0 where
  pub good : Good c q
  pub same : live c q ≡ live c p
