-- `classes::class_of` meets its contract: the calculation gives the smallest class.
-- Assumes nothing.
use mathlib.Core.Path.{refl}
use native.Mathlib.Nat.{le_trans}
use native.Mathlib.Omega.{arith}
use lib.Dec.{lit≤}
use Rattle.classes.proofs.ClassLaws.{up_to_64, above_64, long, length_left}
use Rattle.classes.proofs.class_of.Goals as goal

pub returns-then-size-eq0 : goal.returns-then-size-eq0
returns-then-size-eq0 c = let h = c.requires in omega (arith, c.if-size-eq0.true, up_to_64 h (omega arith))

pub returns-then-size-le64 : goal.returns-then-size-le64
returns-then-size-le64 c = up_to_64 c.requires c.if-size-le64.true

pub overflow_sub-low : goal.overflow_sub-low
overflow_sub-low c = let h = c.requires in le_trans (lit≤ tt) (long (omega arith) (omega arith))

pub overflow_sub-result : goal.overflow_sub-result
overflow_sub-result c = let h = c.requires in length_left (omega arith) (omega arith) _ _ (lit≤ tt)

pub returns : goal.returns
returns c = above_64 c.requires c.if-size-le64.false _ refl
