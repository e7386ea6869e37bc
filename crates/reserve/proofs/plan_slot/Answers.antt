-- `reserve::plan_slot` meets its contract. Assumes nothing.
use Rattle.records.proofs.AdmitLaws.{admitted}
use Rattle.reserve.proofs.PlanLaws.{class_few, plan_in, plan_new}
use native.Mathlib.Omega.{arith}
use Rattle.reserve.proofs.plan_slot.Goals as goal

pub overflow_mul-pool : goal.overflow_mul-pool
overflow_mul-pool c =
    let sound = c.args.pool.now.sound in let class = c.requires.class in let count = c.requires.count in let first = c.requires.first in let a = admitted _ _ sound in let h = a.shape in
    omega arith

pub lowest_free-free-requires : goal.lowest_free-free-requires
lowest_free-free-requires c =
    let sound = c.args.pool.now.sound in let class = c.requires.class in let count = c.requires.count in let first = c.requires.first in let a = admitted _ _ sound in
    let h = a.shape in record { low = omega arith; long = omega arith; count = count; few = class_few class count }

pub returns-then-g-pool : goal.returns-then-g-pool
returns-then-g-pool c =
    let sound = c.args.pool.now.sound in let class = c.requires.class in let count = c.requires.count in let first = c.requires.first in
    plan_in _ _ _ _ _ first c.if-g-pool.true c.lowest_free-free.ensures

pub plan_class-requires : goal.plan_class-requires
plan_class-requires c =
    let sound = c.args.pool.now.sound in let class = c.requires.class in let count = c.requires.count in let first = c.requires.first in let a = admitted _ _ sound in let h = a.shape in record { long = omega arith; few = omega arith; class = class }

pub returns-else-g-pool : goal.returns-else-g-pool
returns-else-g-pool c =
    let sound = c.args.pool.now.sound in let class = c.requires.class in let count = c.requires.count in let first = c.requires.first in
    plan_new _ _ _ _ _ first c.if-g-pool.false c.plan_class.ensures
