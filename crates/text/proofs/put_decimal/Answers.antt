-- `text::put_decimal` meets its contract. Assumes nothing.
use Rattle.std.proofs.Common.{◌/◌, refl, ◌∙◌, arith}
use Rattle.text.proofs.TextLaws.{digit_turn, digit_done, decimal_length_large, decimal_some}
use Rattle.text.proofs.put_decimal.Goals as goal

pub loop-m-init : goal.loop-m-init
loop-m-init c = (omega arith, omega arith, refl)

pub overflow_sub-i-in-loop-m : goal.overflow_sub-i-in-loop-m
overflow_sub-i-in-loop-m c = omega (arith, decimal_length_large _ c.loop-m-test.true, decimal_some (c.loop-m.m / 10))

pub loop-m-preserved : goal.loop-m-preserved
loop-m-preserved c =
    let v = c.loop-m.invariant in
    let l = decimal_length_large c.loop-m.m c.loop-m-test.true in
    let s = decimal_some (c.loop-m.m / 10) in
    (omega arith, omega arith, digit_turn _ _ _ _ c.loop-m-test.true v.0 ∙ v.2)

pub returns : goal.returns
returns c =
    let v = c.loop-m.invariant in
    record { next = omega arith; text = digit_done _ _ _ _ c.loop-m-test.false v.0 ∙ v.2 }
