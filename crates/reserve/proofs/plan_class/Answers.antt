-- `reserve::plan_class` meets its contract. Assumes nothing.
use Rattle.classes.proofs.ClassLaws.{pages_read}
use Rattle.reserve.proofs.PlanLaws.{class_pages, class_at, class_none}
use Rattle.reserve.proofs.plan_class.Goals as goal

pub find_pages-requires : goal.find_pages-requires
find_pages-requires c = record {
  long = c.requires.long;
  few = c.requires.few;
  some = class_pages c.requires.class (pages_read _ c.class_row-row.ensures c.from.ensures);
}

pub returns-in-Some : goal.returns-in-Some
returns-in-Some c =
    class_at _ _ _ _ _ (pages_read _ c.class_row-row.ensures c.from.ensures) c.find_pages.ensures _ c.in-Some.is

pub returns-in-None : goal.returns-in-None
returns-in-None c =
    class_none _ _ _ _ _ (pages_read _ c.class_row-row.ensures c.from.ensures) c.find_pages.ensures c.in-None.is
