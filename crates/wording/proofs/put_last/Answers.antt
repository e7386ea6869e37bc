-- `wording::put_last` meets its contract. Assumes nothing.
use native.Mathlib.Omega.{arith}
use Rattle.wording.proofs.WordLaws.{last_live, last_refused}
use Rattle.wording.proofs.put_last.Goals as goal

pub returns-then-refusal-eq0 : goal.returns-then-refusal-eq0
returns-then-refusal-eq0 c = record { text = last_live _ _ _ c.if-refusal-eq0.true c.put_filled.ensures.appends; room = omega arith }

pub returns-else-refusal-eq0 : goal.returns-else-refusal-eq0
returns-else-refusal-eq0 c = record { text = last_refused _ _ _ c.if-refusal-eq0.false c.put_filled-else-refusal-eq0.ensures.appends; room = omega arith }
