-- `admit::mixed_64` meets its contract. Assumes nothing.
use Rattle.records.specs.Pool.{pool}
use Rattle.admit.proofs.PageLaws.{Walked}
use Rattle.admit.proofs.mixed_64.Given as goal

abbrev pub invariant-loop-p : goal.invariant-loop-p
invariant-loop-p l = Walked (pool l.bits l.words l.slots) l.i l.fn.at.left l.fn.at.due l.p l.left l.due l.acc l.bw
