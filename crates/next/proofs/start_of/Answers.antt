-- `next::start_of` meets its contract. Assumes nothing.
use mathlib.Core.Path.{refl}
use native.Mathlib.Omega.{arith}
use Rattle.records.proofs.RunLaws.{lies_as}
use Rattle.next.proofs.StartLaws.{others_alone, start_run, start_edge, start_here, start_behind}
use Rattle.next.proofs.start_of.Goals as goal

pub overflow_mul-f : goal.overflow_mul-f
overflow_mul-f c =
    let l = (start_run _ _ c.args.pool.now.sound _ c.requires (lies_as c.in-Class.is c.home_at-home.ensures)).1 in omega arith

pub overflow_sub-q : goal.overflow_sub-q
overflow_sub-q c =
    let l = (start_run _ _ c.args.pool.now.sound _ c.requires (lies_as c.in-Class.is c.home_at-home.ensures)).1 in omega arith

pub slot_from-requires : goal.slot_from-requires
slot_from-requires c =
    let r = start_run _ _ c.args.pool.now.sound _ c.requires (lies_as c.in-Class.is c.home_at-home.ensures) in let l = r.2 in (r.0, omega arith)

pub returns-in-Class : goal.returns-in-Class
returns-in-Class c =
    (start_run _ _ c.args.pool.now.sound _ c.requires (lies_as c.in-Class.is c.home_at-home.ensures)).3 _ c.slot_from.ensures

pub returns-in-Edge : goal.returns-in-Edge
returns-in-Edge c =
    start_edge _ _ c.args.pool.now.sound _ c.requires refl (lies_as c.in-Edge.is c.home_at-home.ensures)

pub returns-in_default : goal.returns-in_default
returns-in_default c =
    let o = others_alone c.home_at-home.result.kind c.in_default.not-Class c.in_default.not-Edge c.home_at-home.ensures in
    start_here _ _ c.args.pool.now.sound _ c.requires o.alone o.off c.if-q-eq0.true

pub returns-in_default-2 : goal.returns-in_default-2
returns-in_default-2 c =
    let o = others_alone c.home_at-home.result.kind c.in_default.not-Class c.in_default.not-Edge c.home_at-home.ensures in
    start_behind _ _ c.args.pool.now.sound _ c.requires refl o.alone c.if-q-eq0.false
