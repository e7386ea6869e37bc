-- `gaps::better_gap` meets its contract: each return goes by the tests that led there.
-- Assumes nothing.
use mathlib.Core.Path.{sym}
use native.Mathlib.Omega.{arith}
use Rattle.gaps.proofs.Scan.{better_took, better_short, better_kept}
use Rattle.gaps.proofs.better_gap.Goals as goal
use Rattle.gaps.proofs.better_gap.Goals.{else-n-x-via-then-n-x+else-x-best, else-n-x-via-else-n-x}

pub returns-then-x-best : goal.returns-then-x-best
returns-then-x-best c = sym (better_took _ _ _ (omega arith) (omega arith))

pub returns-else-n-x : goal.returns-else-n-x
returns-else-n-x c =
    elim c.else-n-x.branch [
      | else-n-x-via-then-n-x+else-x-best w ↦ sym (better_kept _ _ _ (omega arith) (omega arith))
      | else-n-x-via-else-n-x w ↦ sym (better_short _ _ _ (omega arith))
    ]
