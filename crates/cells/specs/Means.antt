-- What a run's mark tells. Assumes nothing.
use Rattle.std.specs.Prelude.{◌≡◌, ℕ, ◌≤◌, ◌<◌}
use Prim.Native.Char.{code}
use Rattle.cells.specs.Cells.{tenths, mark_of}

-- a run of s slots, n of which are taken, is marked X where all are taken, and only there
pub record CellsMean : Type 0 where
  pub full : (n s : ℕ) → n ≤ s → 0 < s → mark_of (tenths n s) ≡ code "X" → n ≡ s
  pub marked : (s : ℕ) → 0 < s → mark_of (tenths s s) ≡ code "X"
