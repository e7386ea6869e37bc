-- Sweep (RULES 5.5): an empty run, a class run with no taken slot, is given back as free pages. Assumes nothing.
use Rattle.std.specs.Prelude.{◌≡◌, cond, ℕ, zero, suc, ◌+◌, ◌*◌, ◌≤◌, ◌<◌}
use Rattle.refusals.specs.Refusals.{unless}
use Rattle.records.specs.declared.Kind.TheVariants.{Free}
use Rattle.records.specs.Kinds.{zeros, begins, behind}
use Rattle.records.specs.Pool.{Pool, kind_at}
use Rattle.records.specs.Sound.{idle}
use Rattle.records.specs.Calls.{admit_of, Left, leaves}
use Rattle.blocks.specs.Blocks.{IsEmpty}
use Rattle.blocks.specs.Stores.{put_run, Stays}
use Rattle.sweep.specs.declared.Swept.{Swept}

-- the pages of the empty run that starts at page g; 0 where none does
unfoldable pub empty_at : Pool → ℕ → ℕ
empty_at p g = begins (kind_at p g) 0 (λ k. 0) (λ b. cond (idle p g) (suc (behind b)) 0)

-- the pages of all empty runs that start at the n pages from g on
unfoldable pub empty_from : Pool → ℕ → ℕ → ℕ
empty_from p g zero = 0
empty_from p g (suc n) = empty_at p g + empty_from p (suc g) n

-- these runs are given back: their pages are free pages
unfoldable pub swept_from : Pool → ℕ → ℕ → Pool
swept_from p g zero = p
swept_from p g (suc n) = swept_from (put_run 0 p g (zeros (empty_at p g))) (suc g) n

-- the pool without its empty runs
unfoldable pub swept : ℕ → Pool → Pool
swept c p = swept_from p 0 (512 * c)

-- ---- the call

-- the answer: a refusal, or the pages gained
abbrev pub gained : ℕ → ℕ → Swept
gained r n = record { refusal = r; pages = n }

unfoldable pub sweep_of : ℕ → Pool → Left Swept Pool
sweep_of c p = unless (admit_of c p) (λ r. leaves (gained r 0) p) (leaves (gained 0 (empty_from p 0 (512 * c))) (swept c p))

-- ---- what these definitions mean

-- page i is a page of an empty run
pub record InEmpty (c : ℕ) (p : Pool) (i : ℕ) : Type 0 where
  pub first : ℕ
  pub class : ℕ
  pub is : IsEmpty c p first class
  pub low : first ≤ i
  pub high : i < first + suc (behind class)

-- the pool q is p with each empty run given back
pub record Sweeps (c : ℕ) (p q : Pool) : Type 0 where
  -- it is as good as p was, with the same live blocks
  pub stays : Stays c p q
  pub slots : q.slots ≡ p.slots
  -- the pages of empty runs are free, and all other pages are what they were
  pub freed : (i : ℕ) → InEmpty c p i → kind_at q i ≡ Free
  pub kept : (i : ℕ) → i < 512 * c → (InEmpty c p i → ⊥) → kind_at q i ≡ kind_at p i
  -- no empty run is left
  pub none : (g b : ℕ) → IsEmpty c q g b → ⊥
