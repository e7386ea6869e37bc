-- What the live blocks of a pool are, and where those of a good one lie. Assumes nothing.
use Rattle.std.specs.Prelude.{ℕ, ◌+◌, ◌*◌, ◌/◌, ◌%◌, ◌<◌, ◌≤◌, ◌≢◌, ◌↔◌}
use mathlib.Core.List.{Memᴰ}
use Rattle.records.specs.Pool.{Pool}
use Rattle.blocks.specs.Blocks.{Block, IsLive, live, Rising}
use Rattle.blocks.specs.Stores.{Good}

pub record Apart : Type 0 where
  -- the large runs and the taken slots, and nothing else
  pub listed : (c : ℕ) (p : Pool) (b : Block) → Memᴰ b (live c p) ↔ IsLive c p b
  -- inside the pool, by rising place, none empty, and no two of them share a byte
  pub rising : (c : ℕ) (p : Pool) → Good c p → Rising 0 (live c p) (2097152 * c)
  -- no byte of a live block lies in page 0 of a chunk
  pub off : (c : ℕ) (p : Pool) → Good c p → (b : Block) → Memᴰ b (live c p)
      → (q : ℕ) → b.place ≤ q → q < b.place + b.size → q / 4096 % 512 ≢ 0
