-- The slot bits of a page by its eight slot words, as the code reads them. Assumes nothing.
use Rattle.std.specs.Prelude.{Bool, List, ℕ, ◌+◌, ◌-◌, ◌*◌, ◌/◌, ◌^◌, eqb, get_or}
use Rattle.records.specs.Sound.{all}

-- slot word j of page g has no bit that names none of n slots
unfoldable pub word_clear : List ℕ → ℕ → ℕ → ℕ → Bool
word_clear ss g n j = eqb (get_or ss (8 * g + j) 0 / 2 ^ (n - 64 * j)) 0

unfoldable pub slots_clear : List ℕ → ℕ → ℕ → Bool
slots_clear ss g n = all 8 (word_clear ss g n)
