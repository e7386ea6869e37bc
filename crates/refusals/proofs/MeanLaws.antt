-- The order of checks. Assumes nothing.
use mathlib.Core.Path.{◌≡◌, refl}
use mathlib.Core.Bool.{false}
use mathlib.Core.List.{List, [], ◌∷◌, ◌++◌}
use Prim.Native.Nat.{ℕ}
use Rattle.refusals.specs.Refusals.{Check, first_of}
use Rattle.refusals.specs.Means.{Hold, FirstDecides}

all_hold : (l : List Check) → Hold l → first_of l ≡ 0
all_hold [] h = refl
all_hold (x ∷ l) h = rw h.0 (all_hold l h.1)

first_fails : (l : List Check) (r : ℕ) (later : List Check) → Hold l → first_of (l ++ ((false, r) ∷ later)) ≡ r
first_fails [] r later h = refl
first_fails (x ∷ l) r later h = rw h.0 (first_fails l r later h.1)

pub first_decides : FirstDecides
first_decides = record { served = all_hold; refused = first_fails }
