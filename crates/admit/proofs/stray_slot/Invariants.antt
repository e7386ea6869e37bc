-- `admit::stray_slot` meets its contract. Assumes nothing.
use Rattle.std.proofs.Common.{◌≡◌, eqb}
use Rattle.classes.specs.Classes.{slots}
use Rattle.records.specs.Sound.{all}
use Rattle.records.specs.Slots.{word_clear}
use Rattle.admit.proofs.stray_slot.Given as goal

abbrev pub invariant-loop-j : goal.invariant-loop-j
invariant-loop-j l = eqb l.acc 0 ≡ all l.j (word_clear l.slots l.g (slots l.b))
