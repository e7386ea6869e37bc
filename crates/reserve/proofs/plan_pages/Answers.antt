-- `reserve::plan_pages` meets its contract. Assumes nothing.
use Rattle.reserve.proofs.PlanLaws.{class_low, pages_small, pages_large}
use Rattle.reserve.proofs.plan_pages.Goals as goal

pub plan_class-requires : goal.plan_class-requires
plan_class-requires c =
    let long = c.requires.long in let few = c.requires.few in record { long = long; few = few; class = class_low c.if-n-le3072.true c.class_of.ensures }

pub returns-then-n-le3072 : goal.returns-then-n-le3072
returns-then-n-le3072 c = pages_small _ _ _ _ _ c.if-n-le3072.true c.class_of.ensures c.plan_class.ensures

pub returns : goal.returns
returns c = pages_large _ _ _ _ c.if-n-le3072.false c.plan_large.ensures
