-- `bitrow::first_zero` meets its contract: the wrapped sum has as many zeros at its low end as the word has ones.
-- Assumes nothing.
use Rattle.std.proofs.Common.{◌+◌, sym, subst, arith}
use Rattle.bitrow.specs.Row.{Lowest}
use Rattle.bitrow.proofs.Words.{trailing_lowest, trailing_mod}
use Rattle.bitrow.proofs.first_zero.Goals as goal

pub returns : goal.returns
returns c =
    let w = c.args.w in subst (Lowest 64 w 0) (sym (trailing_mod 64 (w + 1))) (trailing_lowest 64 0 w (omega arith))
