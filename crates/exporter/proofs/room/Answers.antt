-- `exporter::room` meets its contract. Assumes nothing.
use mathlib.Core.Path.{sym}
use Prim.Native.Nat.{ℕ}
use lib.ListN.{length-replicate}
use Rattle.exporter.proofs.room.Goals as goal

pub returns : goal.returns
returns g c = sym (length-replicate {A = ℕ} g.row.N 0)
