-- `records::Records::home_at` meets its contract. Assumes nothing.
use mathlib.Core.Path.{sym, ◌∙◌}
use Rattle.records.proofs.RunLaws.{lies_out}
use Rattle.records.proofs.Records.home_at.Goals as goal

pub class_run-r-requires : goal.class_run-r-requires
class_run-r-requires c =
    record { inside = c.requires; class = sym c.in_class.ensures ∙ c.if-in_class.true }

pub returns : goal.returns
returns c = lies_out _ _ (sym c.in_class.ensures ∙ c.if-in_class.false) c.kind_at.ensures
