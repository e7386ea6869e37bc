-- The lent records as one value, and what they say of each page and slot (RULES 3.1).
-- Pages are counted through the pool: page g is page g % 512 of chunk g / 512. Assumes nothing.
use Rattle.std.specs.Prelude.{Bool, List, ℕ, ◌+◌, ◌*◌, ◌%◌, eqb, get_or}
use Rattle.bitrow.specs.Row.{is_set}
use Rattle.records.specs.declared.Kind.{Kind}
use Rattle.records.specs.Kinds.{kind_of}

-- page bits, page words, slot bits
pub record Pool : Type 0 where
  pub bits : List ℕ
  pub words : List ℕ
  pub slots : List ℕ

abbrev pub pool : List ℕ → List ℕ → List ℕ → Pool
pool b w s = record { bits = b; words = w; slots = s }

-- page g is page 0 of its chunk
unfoldable pub is_edge : ℕ → Bool
is_edge g = eqb (g % 512) 0

-- what page g is
unfoldable pub kind_at : Pool → ℕ → Kind
kind_at p g = kind_of (is_edge g) (is_set p.bits g) (get_or p.words g 0)

-- slot s of the run that starts at page g is taken: its bit is bit s % 64 of slot word 8 * g + s / 64
unfoldable pub slot_at : Pool → ℕ → ℕ → Bool
slot_at p g s = is_set p.slots (512 * g + s)
