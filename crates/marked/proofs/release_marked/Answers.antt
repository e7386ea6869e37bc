-- `marked::release_marked` meets its contract. Assumes nothing.
use mathlib.Core.Path.{sym, ◌∙◌}
use native.Mathlib.Omega.{arith}
use Rattle.records.proofs.AdmitLaws.{admitted}
use Rattle.marked.proofs.ReleaseLaws.{give_outside, out_marks, run_low, run_there, gave_run}
use Rattle.marked.proofs.release_marked.Goals as goal

pub overflow_mul-c : goal.overflow_mul-c
overflow_mul-c c =
    let s = (admitted _ _ c.requires.sound).shape in omega arith

pub returns-then-c-q : goal.returns-then-c-q
returns-then-c-q c = record { given = give_outside _ _ _ c.if-c-q.true; marks = c.requires.marks }

pub returns-then-not-in_class : goal.returns-then-not-in_class
returns-then-not-in_class c =
    let sound = c.requires.sound in let marks = c.requires.marks in
    let out = sym c.in_class.ensures ∙ c.if-not-in_class.true in record { given = c.release_sound.ensures; marks = out_marks _ _ sound _ (omega arith) out marks c.release_sound.ensures }

pub class_run-run-requires : goal.class_run-run-requires
class_run-run-requires c =
    let sound = c.requires.sound in let marks = c.requires.marks in record { inside = omega arith; class = sym c.in_class.ensures ∙ c.if-not-in_class.false }

pub overflow_sub-off : goal.overflow_sub-off
overflow_sub-off c =
    let sound = c.requires.sound in let marks = c.requires.marks in run_low _ _ sound _ (omega arith) c.class_run-run.ensures

pub give-requires : goal.give-requires
give-requires c =
    let sound = c.requires.sound in let marks = c.requires.marks in
    let (run, inside) = run_there _ _ sound _ (omega arith) c.class_run-run.ensures in record { sound = sound; marks = marks; run = run; inside = inside }

pub returns : goal.returns
returns c =
    let sound = c.requires.sound in let marks = c.requires.marks in record { given = gave_run _ _ sound _ (omega arith) c.class_run-run.ensures c.give.ensures.given; marks = c.give.ensures.marks }
