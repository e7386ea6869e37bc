-- `reserve::reserve_sound` meets its contract. Assumes nothing.
use Rattle.blocks.proofs.KeepLaws.{admit_good}
use Rattle.reserve.proofs.AnswerForms.{plan_good, plan_low, worked}
use Rattle.reserve.proofs.ReadyLaws.{ready_admit, ready_plan, ready_serve}
use Rattle.reserve.proofs.reserve_sound.Goals as goal

pub perform_plan-requires : goal.perform_plan-requires
perform_plan-requires c =
    let left = c.make_room-y.ensures.left in let planned = c.make_room-y.ensures.plan in
    let start = c in
    let h = admit_good _ _ start.requires in let ok = ready_admit _ _ h _ _ left in
    (ok, plan_good _ _ _ _ (ready_plan _ _ h _ _ left planned) ok)

pub answer_of-requires : goal.answer_of-requires
answer_of-requires c =
    let left = c.make_room-y.ensures.left in let planned = c.make_room-y.ensures.plan in
    let start = c in
    let h = admit_good _ _ start.requires in
    plan_low _ _ _ _ (ready_plan _ _ h _ _ left planned) (ready_admit _ _ h _ _ left)

pub returns : goal.returns
returns c =
    let left = c.make_room-y.ensures.left in let planned = c.make_room-y.ensures.plan in
    let start = c in
    let h = admit_good _ _ start.requires in
    ready_serve _ _ h _ _ left
    (worked _ _ _ _ (ready_plan _ _ h _ _ left planned) _ _ c.answer_of.ensures c.perform_plan.ensures)
