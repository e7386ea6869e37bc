-- A resize up to where a block is moved, and what that relies on. Assumes nothing.
use Rattle.std.specs.Prelude.{◌≡◌, Bool, true, false, ℕ, suc, ◌+◌, ◌*◌, ◌/◌, ◌%◌, ◌≤◌, ◌<◌}
use Rattle.records.specs.Pool.{Pool}
use Rattle.records.specs.Calls.{leaves}
use Rattle.release.specs.declared.Spot.{Spot}
use Rattle.release.specs.declared.Spot.TheVariants.{Nowhere, Run, Slot}
use Rattle.resize.specs.declared.Change.{Change}
use Rattle.resize.specs.declared.Change.TheVariants.{Refuse, Stay, Recut, Move}
use Rattle.resize.specs.declared.Resized.{Resized}
use Rattle.resize.specs.declared.Settled.{Settled}
use Rattle.resize.specs.declared.Settled.TheVariants.{Over, Moving}
use Rattle.resize.specs.Resize.{recut, done}

-- the chunk of page g is among n words of page bits
pub record ChunkIn (g n : ℕ) : Type 0 where
  pub low : g < 8192
  pub whole : 512 * (g / 512) + 512 ≤ 64 * n

-- the numbers of what starts at a place are those of a pool with n words of page bits
abbrev pub SpotLow : ℕ → Spot → Type 0
SpotLow n (Nowhere r) = Unit {0}
SpotLow n (Run g k) = ChunkIn g n × (g % 512 + suc k ≤ 512)
SpotLow n (Slot g b s) = b < 30

-- the pool that a change leaves where the block is not moved
unfoldable pub settled : Pool → Change → Pool
settled p (Refuse r) = p
settled p (Stay z) = p
settled p (Recut g k j) = recut p g k j
settled p (Move z) = p

abbrev pub is_move : Change → Bool
is_move (Refuse r) = false
is_move (Stay z) = false
is_move (Recut g k j) = false
is_move (Move z) = true

-- what is told: the answer of a change that is no move, or how many bytes the block has that is still to be moved
pub data Tells (c : ℕ) (p : Pool) (q n : ℕ) : Change → Settled → Type 0 where
  over : {x : Change} {r : Resized} → is_move x ≡ false → leaves r (settled p x) ≡ done c p q n x → Tells c p q n x (Over r)
  moving : {z : ℕ} → Tells c p q n (Move z) (Moving z)
