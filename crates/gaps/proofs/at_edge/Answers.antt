-- `gaps::at_edge` meets its contract: each return goes by the test that led there.
-- Assumes nothing.
use mathlib.Core.Path.{sym, ap, ◌∙◌}
use Rattle.gaps.specs.Gaps.{searching}
use Rattle.gaps.proofs.Turns.{at_end, at_start}
use Rattle.gaps.proofs.at_edge.Goals as goal

pub returns-then-a-e : goal.returns-then-a-e
returns-then-a-e c =
    let start = c.args in
    ap (searching start.to) c.better_gap-best.ensures ∙ sym (at_end start.n start.to start.e start.s c.if-a-e.true)

pub returns : goal.returns
returns c =
    let start = c.args in sym (at_start start.n start.to start.e start.s c.if-a-e.false)
