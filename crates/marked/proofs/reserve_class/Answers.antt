-- `marked::reserve_class` meets its contract. Assumes nothing.
use native.Mathlib.Omega.{arith}
use Rattle.classes.proofs.ClassLaws.{pages_read}
use Rattle.records.proofs.AdmitLaws.{admitted}
use Rattle.reserve.proofs.PlanLaws.{class_pages}
use Rattle.marked.proofs.ReserveLaws.{class_nowhere, class_room, class_page, class_note, class_noted}
use mathlib.Core.Path.{refl}
use Rattle.marked.proofs.reserve_class.Goals as goal

pub find_pages-requires : goal.find_pages-requires
find_pages-requires c =
    let sound = c.requires.sound in let marks = c.requires.marks in let class = c.requires.class in let s = (admitted _ _ sound).shape in record { long = omega arith; few = s.few; some = class_pages class (pages_read _ c.class_row-row.ensures c.from.ensures) }

pub perform_plan-requires : goal.perform_plan-requires
perform_plan-requires c =
    let sound = c.requires.sound in let marks = c.requires.marks in let class = c.requires.class in
    let pages = pages_read _ c.class_row-row.ensures c.from.ensures in
    (sound, class_room _ _ sound _ _ class pages c.find_pages.ensures _ c.in-Some.is)

pub invariant_of-pool : goal.invariant_of-pool
invariant_of-pool c =
    let sound = c.requires.sound in let marks = c.requires.marks in let class = c.requires.class in
    let pages = pages_read _ c.class_row-row.ensures c.from.ensures in record { sound = (class_note _ _ sound _ _ class pages c.find_pages.ensures _ c.in-Some.is c.perform_plan.ensures marks).0 }

pub note-requires : goal.note-requires
note-requires c =
    let sound = c.requires.sound in let marks = c.requires.marks in let class = c.requires.class in
    let pages = pages_read _ c.class_row-row.ensures c.from.ensures in let both = class_note _ _ sound _ _ class pages c.find_pages.ensures _ c.in-Some.is c.perform_plan.ensures marks in record { cuts = both.1.0; run = both.1.1.0; inside = both.1.1.1 }

pub overflow_mul-result : goal.overflow_mul-result
overflow_mul-result c =
    let sound = c.requires.sound in let marks = c.requires.marks in let class = c.requires.class in
    let pages = pages_read _ c.class_row-row.ensures c.from.ensures in
    let l = class_page _ _ sound _ _ class pages c.find_pages.ensures _ c.in-Some.is in omega arith

pub returns-in-Some : goal.returns-in-Some
returns-in-Some c =
    let sound = c.requires.sound in let marks = c.requires.marks in let class = c.requires.class in
    let pages = pages_read _ c.class_row-row.ensures c.from.ensures in let both = class_noted _ _ sound _ _ class pages c.find_pages.ensures _ c.in-Some.is c.perform_plan.ensures marks refl c.note.ensures in record { given = both.0; marks = both.1 }

pub returns-in-None : goal.returns-in-None
returns-in-None c =
    let sound = c.requires.sound in let marks = c.requires.marks in let class = c.requires.class in
    let pages = pages_read _ c.class_row-row.ensures c.from.ensures in record { given = class_nowhere _ _ sound _ _ class pages c.find_pages.ensures c.in-None.is; marks = marks }
