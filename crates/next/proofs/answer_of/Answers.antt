-- `next::answer_of` meets its contract. Assumes nothing.
use mathlib.Core.Path.{sym, ap}
use Rattle.next.specs.Next.{answer_of}
use Rattle.next.proofs.answer_of.Goals as goal

pub returns-in-Some : goal.returns-in-Some
returns-in-Some c = ap answer_of (sym c.in-Some.is)

pub returns-in-None : goal.returns-in-None
returns-in-None c = ap answer_of (sym c.in-None.is)
