-- `release::size_sound` meets its contract. Assumes nothing.
use mathlib.Core.Bool.{true}
use native.Mathlib.Omega.{arith}
use Rattle.records.proofs.AdmitLaws.{admitted}
use Rattle.records.proofs.RunLaws.{class_at_low}
use Rattle.blocks.specs.Blocks.{IsSlot, IsLarge}
use Rattle.release.proofs.GiveLaws.{found, large_ends}
use Rattle.release.proofs.size_sound.Goals as goal

pub overflow_add-result : goal.overflow_add-result
overflow_add-result c =
    let (r, _) : IsLarge _ _ _ _ × _ = found _ _ _ c.spot_at.ensures c.in-Run.is in
    omega (arith, large_ends _ _ (admitted _ _ c.args.pool.now.sound).whole r)

pub overflow_mul-result : goal.overflow_mul-result
overflow_mul-result c =
    let (r, _) : IsLarge _ _ _ _ × _ = found _ _ _ c.spot_at.ensures c.in-Run.is in
    omega (arith, large_ends _ _ (admitted _ _ c.args.pool.now.sound).whole r)

pub class_row-row-requires : goal.class_row-row-requires
class_row-row-requires c =
    let (r, _) : IsSlot _ _ _ _ _ true × _ = found _ _ _ c.spot_at.ensures c.in-Slot.is in
    class_at_low _ _ _ r.kind
