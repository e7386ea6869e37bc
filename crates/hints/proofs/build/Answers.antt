-- `hints::build` meets its contract. Assumes nothing.
use mathlib.Core.Path.{refl}
use native.Mathlib.Omega.{arith}
use Rattle.records.proofs.AdmitLaws.{admitted}
use Rattle.hints.proofs.NoteLaws.{marks_as}
use Rattle.hints.proofs.build.Goals as goal

pub overflow_mul-n : goal.overflow_mul-n
overflow_mul-n c = let h = (admitted _ _ c.args.pool.now.sound).shape in omega arith

pub loop-g-init : goal.loop-g-init
loop-g-init c = (refl, c.start_rows.ensures _ _ c.requires.wide)

pub note_page-requires : goal.note_page-requires
note_page-requires c = record { marks = c.loop-g.invariant.1; inside = omega arith }

pub loop-g-preserved : goal.loop-g-preserved
loop-g-preserved c = (c.loop-g.invariant.0, c.note_page.ensures)

pub returns : goal.returns
returns c = marks_as (omega arith) c.loop-g.invariant.1
