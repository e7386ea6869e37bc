-- `blocks::put_large` meets its contract. Assumes nothing.
use Rattle.std.proofs.Common.{ap, ◌∙◌, arith}
use Rattle.records.specs.Kinds.{large_word}
use Rattle.blocks.proofs.StoreForms.{first_put}
use Rattle.blocks.proofs.put_large.Goals as goal

pub returns : goal.returns
returns c =
    first_put _ _ _ _ _ c.requires.zero _ _ _ (omega arith) c.put_bits.ensures (c.large_word.ensures ∙ ap large_word (omega arith))
