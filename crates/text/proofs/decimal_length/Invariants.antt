-- `text::decimal_length` meets its contract. Assumes nothing.
use Rattle.text.proofs.TextLaws.{Digits}
use Rattle.text.proofs.decimal_length.Given as goal

abbrev pub invariant-loop-k : goal.invariant-loop-k
invariant-loop-k l = Digits l.n l.p l.k
