-- `text::number_takes` meets its contract. Assumes nothing.
use Rattle.std.proofs.Common.{arith}
use Rattle.std.proofs.lemmas.Bool.Decides.{nat_tests}
use Rattle.text.specs.Text.{takes}
use Rattle.text.proofs.number_takes.Goals as goal

pub returns-in-91 : goal.returns-in-91
unfolding takes
returns-in-91 c = grind (arith, nat_tests)

pub returns-in_default : goal.returns-in_default
unfolding takes
returns-in_default c = grind (arith, nat_tests)
