-- `reserve::make_room` meets its contract. Assumes nothing.
use mathlib.Core.Path.{sym, ◌∙◌}
use native.Mathlib.Omega.{arith}
use Rattle.records.proofs.AdmitLaws.{admitted}
use Rattle.blocks.proofs.KeepLaws.{admit_good}
use Rattle.reserve.proofs.ReadyLaws.{room_here, room_nowhere, room_swept, plan_here, plan_nowhere, plan_swept}
use Rattle.reserve.proofs.make_room.Goals as goal

pub returns-then-not-is_full : goal.returns-then-not-is_full
returns-then-not-is_full c =
    let sound = c.requires.sound in let planned = c.requires.plan in
    let h = admit_good _ _ sound in
    let f = sym c.is_full.ensures ∙ c.if-not-is_full.true in record { left = room_here _ _ h _ _ planned f; plan = plan_here _ _ h _ _ planned f }

pub plan_pages-y-requires : goal.plan_pages-y-requires
plan_pages-y-requires c =
    let sound = c.requires.sound in let planned = c.requires.plan in
    let s = (admitted _ _ sound).shape in let n = c.swept_bits.ensures.spare.long in record { long = omega arith; few = omega arith }

pub returns-then-is_full : goal.returns-then-is_full
returns-then-is_full c =
    let sound = c.requires.sound in let planned = c.requires.plan in
    let h = admit_good _ _ sound in
    let f = sym c.is_full.ensures ∙ c.if-not-is_full.false in
    let g = sym c.is_full-2.ensures ∙ c.if-is_full.true in record { left = room_nowhere _ _ h _ _ planned _ c.swept_bits.ensures.spare _ c.plan_pages-y.ensures f g; plan = plan_nowhere _ _ h _ _ planned _ c.swept_bits.ensures.spare _ c.plan_pages-y.ensures f g }

pub returns : goal.returns
returns c =
    let sound = c.requires.sound in let planned = c.requires.plan in
    let h = admit_good _ _ sound in
    let f = sym c.is_full.ensures ∙ c.if-not-is_full.false in
    let g = sym c.is_full-2.ensures ∙ c.if-is_full.false in record { left = c.give_back.ensures ∙ room_swept _ _ h _ _ planned _ c.swept_bits.ensures.spare _ c.plan_pages-y.ensures f g; plan = plan_swept _ _ h _ _ planned _ c.swept_bits.ensures.spare _ c.plan_pages-y.ensures f g }
