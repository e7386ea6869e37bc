-- `admit::pages_sound` meets its contract. Assumes nothing.
use Rattle.records.specs.Pool.{pool}
use Rattle.admit.proofs.PageLaws.{Blocks}
use Rattle.admit.proofs.pages_sound.Given as goal

abbrev pub invariant-loop-i : goal.invariant-loop-i
invariant-loop-i l = Blocks (pool l.bits l.words l.slots) l.n l.i l.at.left l.at.due
