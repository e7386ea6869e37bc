-- `pagemap::put_pages` meets its contract. Assumes nothing.
use Rattle.records.specs.Pool.{pool}
use Rattle.pagemap.specs.Drawing.{is_svg}
use Rattle.pagemap.proofs.DrawLaws.{Drawing}
use Rattle.pagemap.proofs.put_pages.Given as goal

abbrev pub invariant-loop-g : goal.invariant-loop-g
invariant-loop-g l = Drawing (is_svg l.form) l.pool.chunks (pool l.pool.bits.now l.pool.words.now l.pool.slots.now) l.initial.out l.at l.out l.last l.i l.g
