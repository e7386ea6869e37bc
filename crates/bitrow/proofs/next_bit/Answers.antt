-- `bitrow::next_bit` meets its contract. The loop's invariant: the search from q on gives the whole answer, which is `to` once q is behind it.
-- Assumes nothing.
use Rattle.std.proofs.Common.{sym, ◌∙◌, arith}
use Rattle.bitrow.specs.Row.{digit}
use Rattle.bitrow.proofs.Words.{digit_lt}
use Rattle.bitrow.proofs.Rows.{next_from_lem, next_end, next_inside, next_passed}
use Rattle.bitrow.proofs.next_bit.Goals as goal

pub loop-q-init : goal.loop-q-init
loop-q-init c = (omega arith, next_from_lem (digit c.args.v) c.args.words.now _ _ (omega arith))

pub returns-then-t-left : goal.returns-then-t-left
returns-then-t-left c =
    let l = c.loop-q in
    c.min.ensures
    ∙ sym (next_inside (digit c.args.v) c.args.words.now l.q c.args.to _ (digit_lt c.args.v)
    (omega arith) c.first_bit-t.ensures c.if-t-left.true)
    ∙ l.invariant.1

pub loop-q-preserved : goal.loop-q-preserved
loop-q-preserved c =
    let l = c.loop-q in (
      omega arith,
      sym (next_passed (digit c.args.v) c.args.words.now l.q c.args.to _ (digit_lt c.args.v)
          (omega arith) c.first_bit-t.ensures c.if-t-left.false) ∙ l.invariant.1,
    )

pub returns : goal.returns
returns c =
    sym (next_end (digit c.args.v) c.args.words.now c.loop-q.q c.args.to c.loop-q-test.false)
    ∙ c.loop-q.invariant.1
