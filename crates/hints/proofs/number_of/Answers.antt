-- `hints::number_of` meets its contract. Assumes nothing.
use native.Mathlib.Nat.{div-le_self}
use native.Mathlib.Omega.{arith}
use Rattle.classes.proofs.ClassLaws.{row_facts}
use Rattle.hints.proofs.CutLaws.{started_none, started_mask, started_count, started_share, started_size}
use Rattle.hints.proofs.number_of.Goals as goal

pub returns-then-n-from : goal.returns-then-n-from
returns-then-n-from c = started_none _ _ _ c.requires.count c.requires.place (omega arith) (omega arith)

pub returns-then-j-lt-SIZE : goal.returns-then-j-lt-SIZE
returns-then-j-lt-SIZE c = started_mask _ _ _ c.requires.count c.requires.place (omega arith) _ c.min.ensures

pub returns-in-139 : goal.returns-in-139
returns-in-139 c = started_count _ _ _ c.requires.count (omega arith)

pub nonzero_div-result : goal.nonzero_div-result
nonzero_div-result c = let h = row_facts _ c.requires.class in omega arith

pub overflow_add-result : goal.overflow_add-result
overflow_add-result c = let l = div-le_self 4294967295 c.args.bytes in omega arith

pub returns-in-140 : goal.returns-in-140
returns-in-140 c = started_share _ _ _ c.requires.bytes (omega arith)

pub returns-in_default : goal.returns-in_default
returns-in_default c = started_size _ _ _ c.requires.bytes (omega arith) (omega arith) (omega arith)
