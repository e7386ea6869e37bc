-- A row of bits in 64-bit words: bit i of the row is bit i % 64 of word i / 64. Page bits and slot bits are both such rows.
-- Assumes nothing.
use Rattle.std.specs.Prelude.{◌≡◌, ℕ, zero, suc, ◌+◌, ◌-◌, ◌/◌, ◌%◌, ◌^◌, ◌<◌, ◌≤◌, Bool, true, false, cond, List, ◌==◌, bit_and, bit_or, slice_index, slice_set}

-- a bit's value
abbrev pub digit : Bool → ℕ
digit true = 1
digit false = 0

-- bit i of a word
unfoldable pub bit : ℕ → ℕ → ℕ
bit w i = w / 2 ^ i % 2

-- bit i of a row
unfoldable pub bit_at : List ℕ → ℕ → ℕ
bit_at ws i = bit (slice_index ws (i / 64)) (i % 64)

-- bit i of a row is 1
unfoldable pub is_set : List ℕ → ℕ → Bool
is_set ws i = bit_at ws i == 1

-- r is the place of the lowest bit v of a word of k bits, and k where there is none
pub record Lowest (k w v r : ℕ) : Type 0 where
  pub within : r ≤ k
  pub below : (i : ℕ) → i < r → bit w i ≡ 1 - v
  pub here : r < k → bit w r ≡ v

-- the first of the n places from i on whose bit is v, or the place behind them
unfoldable pub next_bit : ℕ → List ℕ → ℕ → ℕ → ℕ
next_bit v ws i zero = i
next_bit v ws i (suc n) = let later = next_bit v ws (i + 1) n in cond (bit_at ws i == v) i later

-- the word with bit o cleared, for the value 0, or set
abbrev pub word_put : ℕ → ℕ → ℕ → ℕ
word_put zero w o = bit_and w (2 ^ 64 - 1 - 2 ^ o)
word_put (suc v) w o = bit_or w (2 ^ o)

-- the row with bit i at the value v, 0 or 1
unfoldable pub put_bit : ℕ → List ℕ → ℕ → List ℕ
put_bit v ws i = slice_set ws (i / 64) (word_put v (slice_index ws (i / 64)) (i % 64))

-- the row with the n bits from i on at the value v
unfoldable pub put_bits : ℕ → List ℕ → ℕ → ℕ → List ℕ
put_bits v ws i zero = ws
put_bits v ws i (suc n) = put_bits v (put_bit v ws i) (i + 1) n

-- how many of the n bits from i on are 1
unfoldable pub count_bits : List ℕ → ℕ → ℕ → ℕ
count_bits ws i zero = 0
count_bits ws i (suc n) = bit_at ws i + count_bits ws (i + 1) n
