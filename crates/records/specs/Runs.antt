-- What sound records promise of their runs. Assumes nothing.
use Rattle.std.specs.Prelude.{◌≡◌, ◌≢◌, true, ℕ, ◌+◌, ◌-◌, ◌*◌, ◌/◌, ◌%◌, ◌≤◌, ◌<◌, get_or}
use Rattle.records.specs.declared.Kind.{Kind}
use Rattle.records.specs.declared.Kind.TheVariants.{Edge, Free, Damaged, Large, Class, Inner}
use Rattle.records.specs.Kinds.{inner_word, span_of}
use Rattle.records.specs.Pool.{Pool, kind_at}
use Rattle.records.specs.Sound.{sound}
use Rattle.records.specs.Calls.{fresh_pool}

-- page i is a page of the run that starts at page g
pub record InRun (p : Pool) (g i : ℕ) : Type 0 where
  pub low : g ≤ i
  pub high : i < g + span_of (kind_at p g)

-- what page f is tells what page g lies in: where it is the first page of a class run, page g is a page of that run; else it is page g itself,
-- and inside a run only where the run is large
abbrev pub LiesBy : Pool → ℕ → ℕ → Kind → Type 0
LiesBy p g f Edge = f ≡ g
LiesBy p g f Free = f ≡ g
LiesBy p g f Damaged = f ≡ g
LiesBy p g f (Large k) = f ≡ g
LiesBy p g f (Class b) = InRun p f g
LiesBy p g f (Inner w) = (f ≡ g) × (w ≡ 0)

pub record Lies (p : Pool) (g f : ℕ) (k : Kind) : Type 0 where
  pub is : k ≡ kind_at p f
  pub by : LiesBy p g f k

pub record Runs (c : ℕ) (p : Pool) : Type 0 where
  -- no page belongs to two runs
  pub apart : (f g i : ℕ) → f < 512 * c → g < 512 * c → InRun p f i → InRun p g i → f ≡ g
  -- a run stays in the chunk in which it starts
  pub inside : (g i : ℕ) → g < 512 * c → InRun p g i → i / 512 ≡ g / 512
  -- and touches no page 0
  pub off : (g i : ℕ) → g < 512 * c → InRun p g i → i % 512 ≢ 0
  -- the word of a class run's page at offset k says where the run starts: k pages before
  pub back : (g k b : ℕ) → g < 512 * c → b < 65536 → get_or p.words g 0 ≡ inner_word b k
      → (k ≤ g) × (kind_at p (g - k) ≡ Class b) × InRun p (g - k) g

-- The claim: sound records have such runs, and a fresh pool of any number of chunks is sound
pub record SoundRecords : Type 0 where
  pub runs : (c : ℕ) (p : Pool) → sound c p ≡ true → Runs c p
  pub fresh : (c : ℕ) → sound c (fresh_pool c) ≡ true
