-- `reserve::is_full` meets its contract. Assumes nothing.
use mathlib.Core.Path.{sym}
use Rattle.reserve.proofs.AnswerForms.{full_as, others_roomy}
use Rattle.reserve.proofs.is_full.Goals as goal

pub returns-in-Refuse : goal.returns-in-Refuse
returns-in-Refuse c = full_as c.in-Refuse.is

pub returns-in_default : goal.returns-in_default
returns-in_default c = sym (others_roomy c.args.x c.in_default.not-Refuse)
