-- `admit::free_64` meets its contract. Assumes nothing.
use Rattle.records.specs.Pool.{pool}
use Rattle.admit.proofs.PageLaws.{Freed}
use Rattle.admit.proofs.free_64.Given as goal

abbrev pub invariant-loop-p : goal.invariant-loop-p
invariant-loop-p l = Freed (pool l.bits l.words l.slots) l.i l.p l.acc
