-- Totals (RULES 6.5): live blocks, bytes given, free pages. Assumes nothing.
use Rattle.std.specs.Prelude.{List, [], ◌∷◌, ℕ, zero, suc, ◌+◌, ◌*◌, length}
use Rattle.records.specs.Kinds.{span_of}
use Rattle.refusals.specs.Refusals.{unless}
use Rattle.records.specs.declared.Kind.{Kind}
use Rattle.records.specs.declared.Kind.TheVariants.{Edge, Free, Damaged, Large, Class, Inner}
use Rattle.records.specs.Pool.{Pool, kind_at}
use Rattle.records.specs.Calls.{admit_of}
use Rattle.blocks.specs.Blocks.{Block, live}
use Rattle.totals.specs.declared.Amount.{Amount}
use Rattle.totals.specs.declared.Sums.{Sums}

-- the sum of the sizes that were given
unfoldable pub given : List Block → ℕ
given [] = 0
given (b ∷ l) = b.size + given l

-- a list of blocks in two numbers: how many they are, and the bytes given
unfoldable pub amount_of : List Block → Amount
amount_of l = record { blocks = length l; bytes = given l }

-- the sum of what f gives at n numbers from i on
unfoldable pub sum : (ℕ → ℕ) → ℕ → ℕ → ℕ
sum f i zero = 0
sum f i (suc n) = f i + sum f (suc i) n

-- 1 for a free page
abbrev pub free_of : Kind → ℕ
free_of Edge = 0
free_of Free = 1
free_of Damaged = 0
free_of (Large k) = 0
free_of (Class b) = 0
free_of (Inner w) = 0

-- the free pages of a pool of c chunks
unfoldable pub free_pages : ℕ → Pool → ℕ
free_pages c p = sum (λ g. free_of (kind_at p g)) 0 (512 * c)

-- its pages in runs: those of the run that starts at each page
unfoldable pub run_pages : ℕ → Pool → ℕ
run_pages c p = sum (λ g. span_of (kind_at p g)) 0 (512 * c)

abbrev pub totalled : ℕ → ℕ → ℕ → ℕ → Sums
totalled r n b f = record { refusal = r; blocks = n; bytes = b; free = f }

-- the totals of records that are sound
unfoldable pub summed : ℕ → Pool → Sums
summed c p = totalled 0 (length (live c p)) (given (live c p)) (free_pages c p)

-- the call
unfoldable pub totals_of : ℕ → Pool → Sums
totals_of c p = unless (admit_of c p) (λ r. totalled r 0 0 0) (summed c p)
