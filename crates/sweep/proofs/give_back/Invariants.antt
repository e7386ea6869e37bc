-- `sweep::give_back` meets its contract. Assumes nothing.
use Prim.Native.Nat.{◌≤◌}
use Rattle.records.specs.Pool.{pool}
use Rattle.sweep.specs.Sweep.{swept}
use Rattle.sweep.proofs.SpareLaws.{Giving}
use Rattle.sweep.proofs.give_back.Given as goal

abbrev pub invariant-loop-k : goal.invariant-loop-k
invariant-loop-k l =
    (l.c ≤ 16) × Giving (pool l.initial.bits l.initial.words l.slots) (swept l.c (pool l.initial.bits l.initial.words l.slots)) l.k l.bits l.words
