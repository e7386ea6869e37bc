-- Buffers in which one value stands at every m-th place and another at the others. Assumes nothing.
use Rattle.std.specs.Prelude.{cond, List, map, ℕ, ◌%◌, eqb}
use Rattle.std.specs.List.{range_with_len}

-- every m-th element, from the first on, is v, and all others are z
abbrev pub each : {A : Type 0} → ℕ → A → A → ℕ → A
each m v z i = cond (eqb (i % m) 0) v z

-- n elements by their places
abbrev pub row : {A : Type 0} → (ℕ → A) → ℕ → List A
row f n = map f (range_with_len 0 n)
