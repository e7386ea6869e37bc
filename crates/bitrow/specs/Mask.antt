-- Several bits of a word at once: a mask is a word whose 1 bits name the places.
-- Assumes nothing.
use Rattle.std.specs.Prelude.{ℕ, zero, suc, ◌-◌, ◌*◌, ◌^◌, bit_and, bit_or}

-- the mask of the n places from o on
abbrev pub mask_of : ℕ → ℕ → ℕ
mask_of o n = (2 ^ n - 1) * 2 ^ o

-- the word with the places of the mask b cleared, for the value 0, or set
abbrev pub with_mask : ℕ → ℕ → ℕ → ℕ
with_mask zero w b = bit_and w (2 ^ 64 - 1 - b)
with_mask (suc v) w b = bit_or w b
