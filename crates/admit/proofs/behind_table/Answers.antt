-- `admit::behind_table` meets its contract. Assumes nothing.
use Rattle.std.proofs.Common.{refl, ◌∙◌, arith, length-set}
use Rattle.std.proofs.lemmas.List.Edits.{fill_by_more}
use Rattle.records.specs.Kinds.{behind}
use Rattle.admit.proofs.Clear.{row_some, row_behind}
use Rattle.admit.proofs.behind_table.Goals as goal

pub overflow_sub-row : goal.overflow_sub-row
overflow_sub-row c = row_some _ _ _ c.class_rows-rows.ensures (omega arith) refl

pub loop-k-preserved : goal.loop-k-preserved
loop-k-preserved c =
    let v = c.loop-k in
    rw (c.from.ensures ∙ row_behind _ _ v.k c.class_rows-rows.ensures refl)
    (length-set v.behinds v.k (behind v.k) ∙ v.invariant.0, fill_by_more behind v.behinds v.k 0 (omega arith) v.invariant.1)
