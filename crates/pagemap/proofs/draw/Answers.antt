-- `pagemap::draw` meets its contract. Assumes nothing.
use mathlib.Core.Path.{◌∙◌, sym}
use native.Mathlib.Omega.{arith}
use Rattle.records.specs.Pool.{pool}
use Rattle.records.proofs.AdmitLaws.{admitted}
use Rattle.pagemap.proofs.DrawLaws.{draw_refused, draw_short, draw_whole}
use Rattle.pagemap.proofs.draw.Goals as goal

pub returns-then-a-ne0 : goal.returns-then-a-ne0
returns-then-a-ne0 c = record { drawn = draw_refused _ _ (pool _ _ _) _ c.admit-a.ensures c.if-a-ne0.true; within = omega arith }

pub room_for-requires : goal.room_for-requires
room_for-requires c = let s = (admitted _ _ (sym c.admit-a.ensures ∙ c.if-a-ne0.false)).shape in s.few

pub returns-then-out-room_for : goal.returns-then-out-room_for
returns-then-out-room_for c =
    let r = c.room_for.ensures in record {
      drawn = draw_short _ _ (pool _ _ _) _ c.admit-a.ensures c.if-a-ne0.false (omega (
        arith,
        r,
        c.if-out-room_for.true,
      ));
      within = omega arith;
    }

pub draw_sound-requires : goal.draw_sound-requires
draw_sound-requires c =
    let r = c.room_for.ensures in
    omega (arith, r, c.if-out-room_for.false)

pub returns : goal.returns
returns c =
    let r = c.room_for.ensures in record {
      drawn = draw_whole _ _ (pool _ _ _) _ c.admit-a.ensures
          c.if-a-ne0.false (omega (arith, r, c.if-out-room_for.false))
          c.draw_sound.ensures.drawn;
      within = c.draw_sound.ensures.within;
    }
