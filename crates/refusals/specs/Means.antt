-- What the order of checks means. Assumes nothing.
use Rattle.std.specs.Prelude.{◌≡◌, true, false, List, [], ◌∷◌, ◌++◌, ℕ}
use Rattle.refusals.specs.Refusals.{Check, first_of}

-- all of the checks hold
abbrev pub Hold : List Check → Type 0
Hold [] = Unit {0}
Hold (x ∷ l) = (x.0 ≡ true) × Hold l

pub record FirstDecides : Type 0 where
  -- where all hold there is no refusal
  pub served : (l : List Check) → Hold l → first_of l ≡ 0
  -- the first that does not hold gives its number, whatever those behind it would say
  pub refused : (l : List Check) (r : ℕ) (later : List Check) → Hold l → first_of (l ++ ((false, r) ∷ later)) ≡ r
