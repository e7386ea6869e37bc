-- `hints::take_at` meets its contract. Assumes nothing.
use native.Mathlib.Omega.{arith}
use mathlib.Core.Bool.{not}
use Prim.Native.Nat.{◌+◌}
use lib.Dec.{eqb}
use lib.ListN.{get_or}
use Rattle.hints.proofs.RowLaws.{top_inside}
use Rattle.hints.proofs.PartLaws.{part_cut}
use Rattle.hints.proofs.TakeLaws.{reached, aimed_at, took}
use Rattle.hints.proofs.take_at.Goals as goal

-- the page is found; then its slot word, and the bit of its byte
pub bounds-opens-g : goal.bounds-opens-g
bounds-opens-g c = (reached c.requires _ (omega arith) (omega arith) c.first_one.ensures).page

pub bounds-slots-i : goal.bounds-slots-i
bounds-slots-i c = (aimed_at c.requires _ (omega arith) (omega arith) c.first_one.ensures c.from-o.ensures c.first_one-k.ensures).word

pub fill_word-v-requires : goal.fill_word-v-requires
fill_word-v-requires c = (aimed_at c.requires _ (omega arith) (omega arith) c.first_one.ensures c.from-o.ensures c.first_one-k.ensures).word

pub bounds-row-k : goal.bounds-row-k
bounds-row-k c = (aimed_at c.requires _ (omega arith) (omega arith) c.first_one.ensures c.from-o.ensures c.first_one-k.ensures).mask

pub without_lowest-p-requires : goal.without_lowest-p-requires
without_lowest-p-requires c = (aimed_at c.requires _ (omega arith) (omega arith) c.first_one.ensures c.from-o.ensures c.first_one-k.ensures).some

pub overflow_cast-opens : goal.overflow_cast-opens
overflow_cast-opens c =
    let aim = aimed_at c.requires _ (omega arith) (omega arith) c.first_one.ensures c.from-o.ensures c.first_one-k.ensures in
    let full = eqb c.fill_word-v.result (get_or c.args.row.now (130 + c.first_one-k.result) 0) in
    record { fits = aim.byte (not full) _ c.without_lowest-p.ensures }

pub bounds-opens-g-2 : goal.bounds-opens-g-2
bounds-opens-g-2 c = (reached c.requires _ (omega arith) (omega arith) c.first_one.ensures).page

pub without_lowest-l-requires : goal.without_lowest-l-requires
without_lowest-l-requires c = (reached c.requires _ (omega arith) (omega arith) c.first_one.ensures).front

pub bounds-row-j-3 : goal.bounds-row-j-3
bounds-row-j-3 c =
    top_inside c.args.row.now _ _ (part_cut c.requires.part).long c.requires.inside

pub returns : goal.returns
returns c = λ f.
    took f c.first_one.result (aimed_at f _ (omega arith) (omega arith) c.first_one.ensures c.from-o.ensures c.first_one-k.ensures) _ _ _ _ _ _
    (omega arith) c.first_zero.ensures c.fill_word-v.ensures c.without_lowest-p.ensures c.without_lowest-l.ensures c.without_lowest.ensures
