-- `records::is_shaped` meets its contract. Assumes nothing.
use Rattle.std.proofs.Common.{arith}
use Rattle.std.proofs.lemmas.Bool.Decides.{nat_tests}
use Rattle.records.specs.Calls.{shaped}
use Rattle.records.proofs.is_shaped.Goals as goal

pub returns-then-nwords-c : goal.returns-then-nwords-c
unfolding shaped
returns-then-nwords-c c = grind (arith, nat_tests)

pub returns-else-nwords-c : goal.returns-else-nwords-c
unfolding shaped
returns-else-nwords-c c = grind (arith, nat_tests)
