-- `admit::free_64` meets its contract. Assumes nothing.
use Rattle.std.proofs.Common.{arith}
use borrow.Author.Tests.{eqb-true, eqb-false}
use Rattle.admit.proofs.PageLaws.{freed_on, freed_done, freed_wrong}
use Rattle.admit.proofs.free_64.Goals as goal

pub loop-p-preserved : goal.loop-p-preserved
loop-p-preserved c =
    let r = c.requires in
    freed_on _ _ _ (omega arith) r.mid r.zero (λ j. (c.type_inv.slots j).fits) _ c.any_slot-x.result _ c.loop-p.invariant c.any_slot-x.ensures
    c.from-w.ensures

pub returns-clause-yes : goal.returns-clause-yes
returns-clause-yes c = λ e. freed_done c.loop-p.invariant (omega arith) (eqb-true _ _ e)

pub returns-clause-no : goal.returns-clause-no
returns-clause-no c = λ e. freed_wrong c.loop-p.invariant (omega arith) (eqb-false _ _ e)
