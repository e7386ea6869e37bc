-- `release::slot_spot` meets its contract. Assumes nothing.
use Rattle.classes.proofs.ClassLaws.{Cut, row_facts, cut_few}
use Rattle.release.proofs.SpotLaws.{slot_between, slot_behind, slot_taken, slot_free}
use mathlib.Core.Path.{◌∙◌, sym}
use native.Mathlib.Omega.{arith}
use Rattle.release.proofs.slot_spot.Goals as goal

pub nonzero_rem-off : goal.nonzero_rem-off
nonzero_rem-off c = let h = row_facts _ c.requires.class in omega arith

pub returns-then-off-bytes-ne0 : goal.returns-then-off-bytes-ne0
returns-then-off-bytes-ne0 c =
    let low = c.requires.low in let long = c.requires.long in let class = c.requires.class in let size = c.requires.size in let count = c.requires.count in
    slot_between _ _ _ _ (record { size_is = size; slots_is = count }) c.if-off-bytes-ne0.true

pub nonzero_div-s : goal.nonzero_div-s
nonzero_div-s c = let h = row_facts _ c.requires.class in omega arith

pub returns-then-count-s : goal.returns-then-count-s
returns-then-count-s c =
    let low = c.requires.low in let long = c.requires.long in let class = c.requires.class in let size = c.requires.size in let count = c.requires.count in
    slot_behind _ _ _ _ (record { size_is = size; slots_is = count }) c.if-off-bytes-ne0.false c.if-count-s.true

pub overflow_add-g : goal.overflow_add-g
overflow_add-g c =
    let low = c.requires.low in let long = c.requires.long in let class = c.requires.class in let size = c.requires.size in let count = c.requires.count in
    let k : Cut _ _ _ = record { size_is = size; slots_is = count } in let s = cut_few k in
    let l = c.if-count-s.false in omega arith

pub is_set-requires : goal.is_set-requires
is_set-requires c =
    let low = c.requires.low in let long = c.requires.long in let class = c.requires.class in let size = c.requires.size in let count = c.requires.count in
    let k : Cut _ _ _ = record { size_is = size; slots_is = count } in let s = cut_few k in
    let within = c.if-count-s.false in omega arith

pub returns-then-is_set : goal.returns-then-is_set
returns-then-is_set c =
    let low = c.requires.low in let long = c.requires.long in let class = c.requires.class in let size = c.requires.size in let count = c.requires.count in
    slot_taken _ _ _ _ (record { size_is = size; slots_is = count }) c.if-off-bytes-ne0.false
    c.if-count-s.false (sym c.is_set.ensures ∙ c.if-is_set.true)

pub returns-else-is_set : goal.returns-else-is_set
returns-else-is_set c =
    let low = c.requires.low in let long = c.requires.long in let class = c.requires.class in let size = c.requires.size in let count = c.requires.count in
    slot_free _ _ _ _ (record { size_is = size; slots_is = count }) c.if-off-bytes-ne0.false
    c.if-count-s.false (sym c.is_set.ensures ∙ c.if-is_set.false)
