-- `text::put_filled` meets its contract. Assumes nothing.
use Rattle.text.proofs.TextLaws.{Filling}
use Rattle.text.proofs.put_filled.Given as goal

abbrev pub invariant-loop-b : goal.invariant-loop-b
invariant-loop-b l = Filling l.initial.out l.at l.t l.ns l.out l.v l.b-index l.j l.k
