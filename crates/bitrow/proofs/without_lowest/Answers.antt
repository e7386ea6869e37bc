-- `bitrow::without_lowest` meets its contract. Assumes nothing.
use Rattle.std.proofs.Common.{◌≡◌, Bool, true, false, refl, ◌∙◌, arith}
use mir.Val.{bool_byte}
use Rattle.bitrow.specs.Row.{digit}
use Rattle.bitrow.proofs.Words.{digit_lt}
use Rattle.bitrow.proofs.Lows.{without_lowest}
use Rattle.bitrow.proofs.without_lowest.Goals as goal

byte_digit : (b : Bool) → bool_byte b ≡ digit b
byte_digit true = refl
byte_digit false = refl

pub overflow_sub-result : goal.overflow_sub-result
overflow_sub-result c = omega (arith, byte_digit c.args.so, digit_lt c.args.so)

pub returns : goal.returns
returns c = λ t f. without_lowest c.args.w t (omega arith) c.args.so _ c.requires (c.from.ensures ∙ byte_digit c.args.so) f
