-- `sweep::free_64` meets its contract. Assumes nothing.
use native.Mathlib.Omega.{arith}
use Rattle.sweep.proofs.FreeLaws.{freed_by, all_freed}
use Rattle.sweep.proofs.free_64.Goals as goal

pub returns-then-w-eq0 : goal.returns-then-w-eq0
returns-then-w-eq0 c = freed_by (all_freed _ _ _ _ c.requires.1 (omega arith) (c.fill.ensures.after (λ y e. e))) c.if-w-eq0.true
