-- `blocks::class_words` meets its contract. Assumes nothing.
use Rattle.std.proofs.Common.{refl, arith}
use Rattle.blocks.proofs.StoreForms.{written_none, written_on, written_all, run_pages_lem}
use Rattle.blocks.proofs.class_words.Goals as goal

pub bounds-words-g : goal.bounds-words-g
bounds-words-g c = let k = run_pages_lem c.requires.class c.requires.count in omega arith

pub loop-k-init : goal.loop-k-init
loop-k-init c = let k = run_pages_lem c.requires.class c.requires.count in (omega arith, written_none _ _ _ _)

pub loop-k-preserved : goal.loop-k-preserved
loop-k-preserved c = (c.loop-k.invariant.0, written_on c.loop-k.invariant.1 (omega arith) _ c.inner_word.ensures)

pub returns : goal.returns
returns c = written_all c.args.words.now c.loop-k.invariant.1 (omega arith) c.requires.count _ c.class_word.ensures refl
