-- What is left of the live blocks from a page and a slot on: what the search for the next block walks through. Assumes nothing.
use Rattle.std.specs.Prelude.{◌≡◌, Bool, List, [], ◌∷◌, ◌++◌, Option, Some, None, ℕ, zero, suc, ◌+◌, ◌-◌, ◌*◌, ◌/◌, ◌≤◌, ◌<◌}
use Rattle.records.specs.Kinds.{begins}
use Rattle.classes.specs.Classes.{slots}
use Rattle.records.specs.declared.Kind.{Kind}
use Rattle.records.specs.Pool.{Pool, kind_at, slot_at}
use Rattle.blocks.specs.Blocks.{Block, slot_block, run_block, flat, when, page_blocks, live}
use Rattle.next.specs.declared.Found.{Found}
use Rattle.next.specs.Next.{found, first_from}

-- the first block of a list
unfoldable pub head : List Block → Option Found
head [] = None
head (b ∷ l) = Some (found b.place b.size)

-- the live blocks that begin in the run that starts at page g, of a class run those from slot s on
abbrev pub blocks_from : ℕ → ℕ → Kind → (ℕ → Bool) → List Block
blocks_from g s k taken = begins k [] (λ n. run_block g n ∷ []) (λ b. flat (λ i. when (taken i) (slot_block g b i)) s (slots b - s))

-- the live blocks of n pages from page g on, of page g those from slot s on
unfoldable pub rest : Pool → ℕ → ℕ → ℕ → List Block
rest p g s zero = []
rest p g s (suc n) = blocks_from g s (kind_at p g) (slot_at p g) ++ flat (page_blocks p) (suc g) n

-- the block that is looked for is the first of those from page g and slot s on
pub record Ahead (c : ℕ) (p : Pool) (q g s : ℕ) : Type 0 where
  pub same : first_from q (live c p) ≡ head (rest p g s (512 * c - g))

-- s is the first slot at or above byte off of a run of slots of size z
pub record Least (z off s : ℕ) : Type 0 where
  pub below : (j : ℕ) → j < s → j * z < off
  pub above : (j : ℕ) → s ≤ j → off ≤ j * z

-- a page and slot to start at: in the chunk of the place q, or right behind it, and not page 0
pub record Started (c : ℕ) (p : Pool) (q g s : ℕ) : Type 0 where
  pub low : 512 * (q / 4096 / 512) < g
  pub high : g ≤ 512 * (q / 4096 / 512) + 512
  pub ahead : Ahead c p q g s
