-- `bitrow::put_bits` meets its contract. The loop's invariant: the places from i on, changed too, make the whole change.
-- Assumes nothing.
use Rattle.std.proofs.Common.{◌+◌, length, sym, refl, ap, ◌∙◌, arith}
use Rattle.bitrow.specs.Row.{digit, put_bits}
use Rattle.bitrow.proofs.Marks.{put_bits_none, length_put_bits}
use Rattle.bitrow.proofs.Ext.{put_turn}
use Rattle.bitrow.proofs.put_bits.Goals as goal

pub loop-i-init : goal.loop-i-init
loop-i-init c = (
  refl,
  omega arith,
  refl,
  ap (put_bits (digit c.args.v) c.args.words.now c.args.from) (omega arith),
)

pub loop-i-preserved : goal.loop-i-preserved
loop-i-preserved c =
    let l = c.loop-i in
    let m = c.min-m.result in
    let v = digit c.args.v in
    let e = c.put_in_word.ensures in (
      refl,
      omega arith,
      ap length e ∙ length_put_bits v m l.words l.i ∙ l.invariant.2,
      put_turn v l.words _ l.i m (c.args.from + c.args.n) (omega arith) e ∙ l.invariant.3,
    )

pub returns : goal.returns
returns c =
    sym (put_bits_none (digit c.args.v) c.loop-i.words c.loop-i.i _ (omega arith)) ∙
    c.loop-i.invariant.3
