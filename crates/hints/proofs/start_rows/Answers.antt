-- `hints::start_rows` meets its contract. Assumes nothing.
use mathlib.Core.Path.{refl}
use native.Mathlib.Omega.{arith}
use Rattle.classes.proofs.ClassLaws.{row_read, size_read, slots_read}
use Rattle.hints.proofs.CutLaws.{started_first, started_on, started_by, blank}
use Rattle.hints.proofs.start_rows.Goals as goal

pub loop-b-init : goal.loop-b-init
loop-b-init c = started_first c.requires (c.fill.ensures.after (λ y e. e))

pub number_of-requires : goal.number_of-requires
number_of-requires c =
    let row = row_read _ _ _ _ c.class_rows-table.ensures refl refl in
    record { class = omega arith; bytes = size_read _ row c.from-bytes.ensures; count = slots_read _ row c.from-n.ensures; place = omega arith }

pub loop-j-preserved : goal.loop-j-preserved
loop-j-preserved c = started_on _ _ c.loop-j.invariant (omega arith) (omega arith) (omega arith) _ c.number_of.ensures

pub loop-b-preserved : goal.loop-b-preserved
loop-b-preserved c = started_by c.loop-j.invariant (omega arith)

pub returns : goal.returns
returns c = blank c.loop-b.invariant (omega arith)
