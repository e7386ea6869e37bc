-- The check's state between pages as two numbers, and what it finds at one page and at 64. Assumes nothing.
use Rattle.std.specs.Prelude.{◌≡◌, ◌≢◌, Bool, false, cond, List, [], ◌∷◌, ℕ, zero, suc, ◌+◌, ◌*◌, ◌<◌, ◌≤◌, eqb, length, get_or}
use Rattle.std.proofs.Math.Option.{none, some}
use Rattle.admit.specs.Masks.{mask_table}
use Rattle.records.specs.Kinds.{kind_of, behind, slots_of}
use Rattle.records.specs.Pool.{Pool}
use Rattle.records.specs.Sound.{step, sound_from}
use Rattle.records.specs.Slots.{slots_clear}

-- the word of the page behind a page with the word d, inside one run
unfoldable pub next_word : ℕ → ℕ
next_word d = cond (eqb d 0) 0 (d + 65536)

-- the words of the n pages still to come in a run, of which the next is d
unfoldable pub coming : ℕ → ℕ → List ℕ
coming d zero = []
coming d (suc n) = d ∷ coming (next_word d) n

-- the pages of a run of each class behind its first
pub record Behinds (l : List ℕ) : Type 0 where
  pub at : (k : ℕ) → k < 30 → get_or l k 0 ≡ behind k

-- page-bit word i, its pages and their slots lie inside the buffers, and the tables are those of the classes
pub record Inside (i : ℕ) (p : Pool) (masks behinds : List ℕ) : Type 0 where
  pub low : i < 128
  pub bit : i < length p.bits
  pub word : 64 * i + 64 ≤ length p.words
  pub slot : 512 * i + 512 ≤ length p.slots
  pub table : masks ≡ mask_table
  pub behind : Behinds behinds

-- the two numbers are those of a run: its words are inner words, and no sum wraps
pub record Ready (left due : ℕ) : Type 0 where
  pub near : due + 65536 * left < 4294967296
  pub inner : due ≢ 0 → 0xC0000000 ≤ due

-- a page that is not page 0 of its chunk, with the word w and the bit t, does not go on
pub record Stuck (left due w : ℕ) (t : Bool) : Type 0 where
  pub stops : step (coming due left) (kind_of false t w) ≡ none

-- it goes on so; x is 0 when its slot bits are right
pub record Paged (ss : List ℕ) (g left due w : ℕ) (t : Bool) (left' due' x : ℕ) : Type 0 where
  pub moves : step (coming due left) (kind_of false t w) ≡ some (coming due' left')
  pub strays : eqb x 0 ≡ slots_clear ss g (slots_of (kind_of false t w))
  pub ready : Ready left' due'

-- the 64 pages of page-bit word i are wrong, whatever comes behind them
pub record Wrong (p : Pool) (i left due : ℕ) : Type 0 where
  pub says : (m : ℕ) → false ≡ sound_from p (coming due left) (64 * i) (64 + m)

-- they are right, and what comes behind them goes on so
pub record Checked (p : Pool) (i left due left' due' : ℕ) : Type 0 where
  pub says : (m : ℕ) → sound_from p (coming due' left') (64 * i + 64) m ≡ sound_from p (coming due left) (64 * i) (64 + m)
  pub ready : Ready left' due'
