-- `hints::note` meets its contract. Assumes nothing.
use mathlib.Core.Path.{refl}
use native.Mathlib.Omega.{arith}
use Rattle.hints.proofs.RowLaws.{lent_long}
use Rattle.hints.proofs.NoteLaws.{told_none, told_on, told_off, placed, noted_anew}
use Rattle.hints.proofs.note.Goals as goal
use Rattle.hints.proofs.note.Goals.{then-pool-g, else-pool-g}

pub loop-k-init : goal.loop-k-init
loop-k-init c = (refl, placed _ _ c.args.pool.now.sound _ _ c.requires.inside c.requires.run, told_none _ _ _)

pub loop-k-preserved : goal.loop-k-preserved
loop-k-preserved c =
    let h = c.loop-k.invariant in
    let sound = c.args.pool.now.sound in let cuts = c.requires.cuts in let run = c.requires.run in let inside = c.requires.inside in (
      h.0,
      h.1,
      elim c.if-pool-g.branch [
        | then-pool-g w ↦ told_on _ _ sound _ _ inside run _ cuts.0 (omega arith) h.2 (omega arith) w.if-pool-g.true w.o-is
        | else-pool-g w ↦ told_off _ _ sound _ _ inside run _ cuts.0 (omega arith) h.2 (omega arith) w.if-pool-g.false w.o-is
      ],
    )

pub put_mark-requires : goal.put_mark-requires
put_mark-requires c = let h = c.loop-k.invariant in (lent_long _ _ c.requires.cuts.0.long h.1.class, h.1.few)

pub returns : goal.returns
returns c =
    noted_anew _ _ c.args.pool.now.sound _ _ c.requires.inside c.requires.run c.args.rows.now c.args.opens.now c.loop-k.invariant.2 (omega arith) _
    c.put_mark.ensures
