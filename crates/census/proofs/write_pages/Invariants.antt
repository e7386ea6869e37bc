-- `census::write_pages` meets its contract. Assumes nothing.
use Rattle.records.specs.Pool.{pool}
use Rattle.blocks.specs.Blocks.{live}
use Rattle.census.proofs.WriteLaws.{Writing}
use Rattle.blocks.proofs.PageLaws.{live_from}
use Rattle.census.proofs.write_pages.Given as goal

abbrev pub invariant-loop-g : goal.invariant-loop-g
invariant-loop-g l = Writing l.initial.room 0 (live l.pool.chunks (pool l.pool.bits.now l.pool.words.now l.pool.slots.now)) l.room l.i (live_from l.pool.chunks (pool l.pool.bits.now l.pool.words.now l.pool.slots.now) l.g)
