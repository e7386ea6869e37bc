-- The parts of a census: the blocks of a run's slots, the next taken slot, and words stored in the room. Assumes nothing.
use Rattle.std.specs.Prelude.{◌≡◌, true, false, List, Option, Some, None, ℕ, ◌+◌, ◌*◌, ◌≤◌, ◌<◌}
use Rattle.bitrow.specs.Row.{is_set}
use Rattle.blocks.specs.Blocks.{Block, slot_block, flat, when}
use Rattle.text.specs.Text.{Appends}
use Rattle.census.specs.Census.{words_for}

-- the blocks of the n slots from slot s on, in the run of class b that starts at page g
unfoldable pub slot_blocks : List ℕ → ℕ → ℕ → ℕ → ℕ → List Block
slot_blocks bits g b s n = flat (λ i. when (is_set bits (512 * g + i)) (slot_block g b i)) s n

-- r is the first taken slot from slot s on, in the run that starts at page g and has n slots
pub record TakenAt (bits : List ℕ) (g s n r : ℕ) : Type 0 where
  pub low : s ≤ r
  pub high : r < n
  pub below : (i : ℕ) → s ≤ i → i < r → is_set bits (512 * g + i) ≡ false
  pub here : is_set bits (512 * g + r) ≡ true

-- what a search for it finds; where it finds none, no slot from slot s on is taken
abbrev pub NextTaken : List ℕ → ℕ → ℕ → ℕ → Option ℕ → Type 0
NextTaken bits g s n None = (i : ℕ) → s ≤ i → i < n → is_set bits (512 * g + i) ≡ false
NextTaken bits g s n (Some r) = TakenAt bits g s n r

-- the blocks l were written from word i of the room on; the next word is r
abbrev pub Wrote : List ℕ → List ℕ → ℕ → ℕ → List Block → Type 0
Wrote after before r i l = Appends before after i r (words_for l)
