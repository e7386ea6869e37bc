-- `marked::reserve_now` meets its contract. Assumes nothing.
use mathlib.Core.Path.{ap, ◌∙◌}
use native.Mathlib.Omega.{arith}
use Rattle.records.specs.Calls.{admit_of}
use Rattle.reserve.proofs.PlanLaws.{class_low}
use Rattle.marked.proofs.MarkLaws.{same_marks}
use Rattle.marked.proofs.ReserveLaws.{slot_taken, none_taken, class_taken}
use Rattle.marked.proofs.reserve_now.Goals as goal

pub returns-then-n-gt3072 : goal.returns-then-n-gt3072
returns-then-n-gt3072 c =
    let given = c.reserve_run.ensures.given in let same = c.reserve_run.ensures.same in record { given = given; marks = same_marks c.requires.marks same }

pub take-requires : goal.take-requires
take-requires c =
    let sound = c.requires.sound in let marks = c.requires.marks in record { sound = sound; marks = marks; class = class_low (omega arith) c.class_of-b.ensures }

pub returns-in-Some : goal.returns-in-Some
returns-in-Some c =
    let given = c.take.ensures.taken in let marks = c.take.ensures.marks in record { given = slot_taken _ _ _ _ (omega arith) c.class_of-b.ensures given c.in-Some.is; marks = marks }

pub reserve_class-requires : goal.reserve_class-requires
reserve_class-requires c =
    let given = c.take.ensures.taken in let marks = c.take.ensures.marks in let class = c.class_of-b.ensures in record { sound = ap (admit_of _) (none_taken _ _ _ _ (omega arith) class given c.in-None.is) ∙ c.requires.sound; marks = marks; class = class_low (omega arith) class }

pub returns-in-None : goal.returns-in-None
returns-in-None c =
    let given = c.reserve_class.ensures.given in let marks = c.reserve_class.ensures.marks in record { given = class_taken _ _ _ _ (omega arith) c.class_of-b.ensures c.take.ensures.taken c.in-None.is given; marks = marks }
