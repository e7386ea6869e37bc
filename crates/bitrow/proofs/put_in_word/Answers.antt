-- `bitrow::put_in_word` meets its contract: a word changed by a mask has the bits that the definition gives it.
-- Assumes nothing.
use Rattle.std.proofs.Common.{◌/◌, get_or, set, ap, ◌∙◌, rules, arith}
use Rattle.bitrow.specs.Row.{digit}
use Rattle.bitrow.specs.Mask.{with_mask}
use Rattle.bitrow.proofs.Words.{digit_lt}
use Rattle.bitrow.proofs.Ext.{put_word}
use Rattle.bitrow.proofs.put_in_word.Goals as goal

pub returns : goal.returns
returns c =
    let ws = c.args.words.now in
    let i = c.args.i in
    let v = digit c.args.v in
    ap (set ws (i / 64)) (c.put_mask.ensures ∙ ap (with_mask v (get_or ws (i / 64) 0)) c.mask-b.ensures)
    ∙ put_word v ws i c.args.m (digit_lt c.args.v) (λ j. search rules) (omega arith) (omega arith)
