-- Answers as plain structs: the kind of a reserve's answer is a number, and what does not apply is 0. Assumes nothing.
use Rattle.std.specs.Prelude.{ℕ}
use Rattle.records.specs.Pool.{Pool}
use Rattle.records.specs.Calls.{Left, leaves}
use Rattle.reserve.specs.declared.Given.{Given}
use Rattle.reserve.specs.declared.Given.TheVariants.{Slot, Run, None}
use Rattle.reserve.specs.declared.Reserved.{Reserved}
use Rattle.lensember.specs.declared.FlatReserved.{FlatReserved}

abbrev pub flat_as : ℕ → ℕ → ℕ → Given → FlatReserved
flat_as r p z (Slot s) =
    record { refusal = r; place = p; size = z; kind = 1; class = s.class; first = s.first; number = s.number; pages = 0 }
flat_as r p z (Run n) = record { refusal = r; place = p; size = z; kind = 2; class = 0; first = 0; number = 0; pages = n }
flat_as r p z None = record { refusal = r; place = p; size = z; kind = 0; class = 0; first = 0; number = 0; pages = 0 }

unfoldable pub flat_reserved : Reserved → FlatReserved
flat_reserved r = flat_as r.refusal r.place r.size r.kind

-- what a reserve leaves, with its answer so
unfoldable pub reserved_of : Left Reserved Pool → Left FlatReserved Pool
reserved_of x = leaves (flat_reserved x.answer) x.left
