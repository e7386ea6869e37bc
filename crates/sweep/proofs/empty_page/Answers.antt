-- `sweep::empty_page` meets its contract. Assumes nothing.
use native.Mathlib.Omega.{arith}
use Rattle.records.proofs.AdmitLaws.{admitted}
use Rattle.blocks.proofs.KeepLaws.{admit_good}
use Rattle.sweep.proofs.MaskLaws.{part_low, no_part, a_part}
use Rattle.sweep.proofs.empty_page.Goals as goal

pub returns-then-part-lt2 : goal.returns-then-part-lt2
returns-then-part-lt2 c =
    no_part _ _ (admit_good _ _ c.args.pool.now.sound) _ c.requires.inside _ c.class_part-part.ensures c.if-part-lt2.true

pub overflow_sub-part : goal.overflow_sub-part
overflow_sub-part c = part_low _ _ (admit_good _ _ c.args.pool.now.sound) _ c.requires.inside _ c.class_part-part.ensures

pub idle_page-idle-requires : goal.idle_page-idle-requires
idle_page-idle-requires c = let s = (admitted _ _ c.args.pool.now.sound).shape in (omega arith, omega arith)

pub returns : goal.returns
returns c =
    a_part _ _ (admit_good _ _ c.args.pool.now.sound) _ c.requires.inside _ c.class_part-part.ensures c.if-part-lt2.false c.idle_page-idle.ensures
    c.requires.last c.from-first.ensures
