-- `totals::live_amount` meets its contract. Assumes nothing.
use Rattle.records.specs.Pool.{pool}
use Rattle.totals.proofs.AmountLaws.{Counted}
use Rattle.totals.proofs.live_amount.Given as goal

abbrev pub invariant-loop-g : goal.invariant-loop-g
invariant-loop-g l = Counted l.pool.chunks (pool l.pool.bits.now l.pool.words.now l.pool.slots.now) l.g l.blocks l.bytes
