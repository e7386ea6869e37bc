-- `hints::start_rows` meets its contract. Assumes nothing.
use Prim.Native.Nat.{◌+◌, ◌*◌}
use Rattle.hints.proofs.CutLaws.{Started}
use Rattle.hints.proofs.start_rows.Given as goal

abbrev pub invariant-loop-b : goal.invariant-loop-b
invariant-loop-b l = Started l.rows (14 * l.b + 130)

abbrev pub invariant-loop-j : goal.invariant-loop-j
invariant-loop-j l = Started l.rows (14 * l.b + l.j)
