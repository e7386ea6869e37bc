-- Answers as plain structs. Assumes nothing.
use mathlib.Core.Path.{◌≡◌, sym, ap, ◌∙◌}
use Rattle.records.specs.Pool.{Pool}
use Rattle.records.specs.Calls.{Left, leaves}
use Rattle.reserve.specs.declared.Given.{Given}
use Rattle.reserve.specs.declared.Reserved.{Reserved}
use Rattle.lensember.specs.declared.FlatReserved.{FlatReserved}
use Rattle.lensember.specs.Flat.{flat_as, flat_reserved, reserved_of}

-- by the kind, as it was matched
pub flat_as_lem : (r : Reserved) {k : Given} → r.kind ≡ k → flat_as r.refusal r.place r.size k ≡ flat_reserved r
unfolding flat_reserved
flat_as_lem r e = ap (flat_as r.refusal r.place r.size) (sym e)

pub reserved_as : {r : Reserved} {p : Pool} {y : Left Reserved Pool} (x : FlatReserved) → x ≡ flat_reserved r → leaves r p ≡ y → leaves x p ≡ reserved_of y
unfolding reserved_of
reserved_as {r} {p} x e f = ap (λ (a : FlatReserved). leaves a p) e ∙ ap reserved_of f

-- of an answer that is this one
pub answer_as : {r s : Reserved} {p : Pool} {y : Left Reserved Pool} (x : FlatReserved) → x ≡ flat_reserved r → r ≡ s → leaves s p ≡ y
    → leaves x p ≡ reserved_of y
answer_as x e f g = reserved_as x (e ∙ ap flat_reserved f) g
