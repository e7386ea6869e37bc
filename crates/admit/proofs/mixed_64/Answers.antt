-- `admit::mixed_64` meets its contract. Assumes nothing.
use Rattle.std.proofs.Common.{arith}
use Rattle.admit.proofs.PageLaws.{walked_on, walked_off, edge_off}
use Rattle.admit.proofs.mixed_64.Goals as goal

pub returns-then-not-edge_ok : goal.returns-then-not-edge_ok
returns-then-not-edge_ok c = let f = c.edge_ok.ensures.no c.if-not-edge_ok.true in edge_off _ _ _ _ f.0 f.1

pub returns-in_err-s : goal.returns-in_err-s
returns-in_err-s c =
    rw c.from_residual.ensures (walked_off c.loop-p.invariant (omega arith) (λ j. (c.type_inv.slots j).fits) c.in_err-s.ensures)

pub loop-p-preserved : goal.loop-p-preserved
loop-p-preserved c = walked_on c.loop-p.invariant (omega arith) (λ j. (c.type_inv.slots j).fits) c.in_ok-s.ensures
