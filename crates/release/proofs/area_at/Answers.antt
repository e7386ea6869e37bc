-- `release::area_at` meets its contract. Assumes nothing.
use native.Mathlib.Omega.{arith}
use Rattle.records.proofs.AdmitLaws.{admitted}
use Rattle.records.proofs.KindLaws.{others_bare}
use Rattle.records.proofs.RunLaws.{lies_as}
use Rattle.release.proofs.SpotLaws.{spot_outside, lies_class, lies_first, lies_behind, lies_bare}
use Rattle.release.proofs.area_at.Goals as goal

pub overflow_mul-pool : goal.overflow_mul-pool
overflow_mul-pool c = let s = (admitted _ _ c.args.pool.now.sound).shape in omega arith

pub returns-then-pool-q : goal.returns-then-pool-q
returns-then-pool-q c = spot_outside _ _ _ c.if-pool-q.true

pub returns-in-Class : goal.returns-in-Class
returns-in-Class c =
    lies_class _ _ c.args.pool.now.sound _ (omega arith) _ _ (lies_as c.in-Class.is c.home_at-home.ensures)

pub returns-then-at-eq0 : goal.returns-then-at-eq0
returns-then-at-eq0 c =
    lies_first _ _ c.args.pool.now.sound _ (omega arith) _ _ (lies_as c.in-Large.is
    c.home_at-home.ensures) c.if-at-eq0.true

pub returns-else-at-eq0 : goal.returns-else-at-eq0
returns-else-at-eq0 c =
    lies_behind _ _ c.args.pool.now.sound _ (omega arith) _ _ (lies_as c.in-Large.is
    c.home_at-home.ensures) c.if-at-eq0.false

pub returns-in_default : goal.returns-in_default
returns-in_default c =
    lies_bare _ _ c.args.pool.now.sound _ (omega arith) _ _ (others_bare c.home_at-home.result.kind
    c.in_default.not-Large c.in_default.not-Class) c.home_at-home.ensures
