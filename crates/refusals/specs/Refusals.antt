-- The refusals by number, and their order. Assumes nothing.
use Rattle.std.specs.Prelude.{Bool, cond, List, [], ◌∷◌, ℕ, zero, suc}

-- ---- the numbers (src/lib.rt says when each is given)

abbrev pub shape : ℕ
shape = 1

abbrev pub damaged : ℕ
damaged = 2

abbrev pub too_big : ℕ
too_big = 3

abbrev pub no_room : ℕ
no_room = 4

abbrev pub no_block : ℕ
no_block = 5

abbrev pub free_slot : ℕ
free_slot = 6

abbrev pub short_room : ℕ
short_room = 7

abbrev pub cut_log : ℕ
cut_log = 8

abbrev pub bad_field : ℕ
bad_field = 9

abbrev pub bad_line : ℕ
bad_line = 13

-- ---- their order

-- what has to hold, and the number where it does not
abbrev pub Check : Type 0
Check = Bool × ℕ

-- of checks in their order, the number of the first that does not hold; 0 where all do
abbrev pub first_of : List Check → ℕ
first_of [] = 0
first_of (x ∷ l) = cond x.0 (first_of l) x.1

-- the work of a call, unless it is refused
abbrev pub unless : {A : Type 0} → ℕ → (ℕ → A) → A → A
unless zero refuse work = work
unless (suc n) refuse work = refuse (suc n)
