-- How the code finds the empty runs: the page bits without them, in a row of its own. Assumes nothing.
use Rattle.std.specs.Prelude.{◌≡◌, ◌⊎◌, Bool, false, cond, List, ℕ, zero, suc, ◌+◌, ◌*◌, ◌≤◌, ◌<◌, eqb, length, get_or}
use Rattle.bitrow.specs.Row.{digit, bit}
use Rattle.records.specs.declared.Kind.{Kind}
use Rattle.records.specs.declared.Kind.TheVariants.{Edge, Free, Damaged, Large, Class, Inner}
use Rattle.records.specs.Pool.{Pool, kind_at}
use Rattle.records.specs.Sound.{idle}
use Rattle.sweep.specs.Sweep.{swept}

-- whether a page lies in an empty run, by what it is: the run that it begins is empty, or it goes on with a class run that is
abbrev pub empty_by : Kind → Bool → Bool → Bool
empty_by Edge own before = false
empty_by Free own before = false
empty_by Damaged own before = false
empty_by (Large k) own before = false
empty_by (Class b) own before = own
empty_by (Inner w) own before = cond (eqb w 0) false before

-- the page before page g lies in an empty run; there is none before page 0
unfoldable pub empty_to : Pool → ℕ → Bool
empty_to p zero = false
empty_to p (suc g) = empty_by (kind_at p g) (idle p g) (empty_to p g)

-- of the 64 pages of page-bit word k, those in an empty run have a 1 in the mask; and `last` tells of the last one
pub record Marked (p : Pool) (k mask last : ℕ) : Type 0 where
  pub bits : (i : ℕ) → i < 64 → bit mask i ≡ digit (empty_to p (64 * k + suc i))
  pub end : last ≡ digit (empty_to p (64 * k + 64))

-- the first 8 c of 128 words are the page bits of the swept pool
pub record Spare (c : ℕ) (p : Pool) (l : List ℕ) : Type 0 where
  pub long : length l ≡ 128
  pub words : (k : ℕ) → k < 8 * c → get_or l k 0 ≡ get_or (swept c p).bits k 0

-- the first n of the 64 pages of page-bit word k have the word 0 now where their bit in w is 0; all other words are as they were
pub record WordsFreed (ws ws' : List ℕ) (k w n : ℕ) : Type 0 where
  pub long : length ws' ≡ length ws
  pub here : (i : ℕ) → i < n → get_or ws' (64 * k + i) 0 ≡ cond (eqb (bit w i) 1) (get_or ws (64 * k + i) 0) 0
  pub other : (j : ℕ) → (j < 64 * k) ⊎ (64 * k + n ≤ j) → get_or ws' j 0 ≡ get_or ws j 0
