-- `text::shows_after` meets its contract. Assumes nothing.
use Rattle.std.proofs.Common.{arith}
use Rattle.std.proofs.lemmas.Bool.Decides.{nat_tests}
use Rattle.text.specs.Text.{shows}
use Rattle.text.proofs.shows_after.Goals as goal

pub returns-in-91 : goal.returns-in-91
unfolding shows
returns-in-91 c = grind (arith, nat_tests)

pub returns-in-93 : goal.returns-in-93
unfolding shows
returns-in-93 c = grind (arith, nat_tests)

pub returns-in_default : goal.returns-in_default
unfolding shows
returns-in_default c = grind (arith, nat_tests)
