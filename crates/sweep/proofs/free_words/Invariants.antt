-- `sweep::free_words` meets its contract. Assumes nothing.
use Rattle.sweep.specs.Found.{WordsFreed}
use Rattle.sweep.proofs.free_words.Given as goal

abbrev pub invariant-loop-i : goal.invariant-loop-i
invariant-loop-i l = WordsFreed l.initial.words l.words l.k l.w l.i
