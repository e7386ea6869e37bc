-- The live blocks of a pool, as one list by rising place: what next, census and totals read, and what the book is compared with.
-- Assumes nothing.
use Rattle.std.specs.Prelude.{◌≡◌, ℕ, zero, suc, ◌+◌, ◌*◌, ◌<◌, ◌≤◌, Bool, true, false, List, [], ◌∷◌, ◌++◌}
use Rattle.records.specs.Kinds.{begins}
use Rattle.classes.specs.Classes.{size, slots}
use Rattle.records.specs.declared.Kind.{Kind}
use Rattle.records.specs.declared.Kind.TheVariants.{Large, Class}
use Rattle.records.specs.Pool.{Pool, kind_at, slot_at}

-- a block: its place and the size that was given
pub record Block : Type 0 where
  pub place : ℕ
  pub size : ℕ

abbrev pub block : ℕ → ℕ → Block
block q z = record { place = q; size = z }

-- slot s of a run of class b that starts at page g
abbrev pub slot_block : ℕ → ℕ → ℕ → Block
slot_block g b s = block (4096 * g + s * size b) (size b)

-- a large run that starts at page g and has k pages behind its first
abbrev pub run_block : ℕ → ℕ → Block
run_block g k = block (4096 * g) (4096 * suc k)

-- ---- what lies where

-- slot s of the run of class b that starts at page g, taken or free
pub record IsSlot (c : ℕ) (p : Pool) (g b s : ℕ) (taken : Bool) : Type 0 where
  pub inside : g < 512 * c
  pub kind : kind_at p g ≡ Class b
  pub slot : s < slots b
  pub bit : slot_at p g s ≡ taken

-- the large run that starts at page g and has k pages behind its first
pub record IsLarge (c : ℕ) (p : Pool) (g k : ℕ) : Type 0 where
  pub inside : g < 512 * c
  pub kind : kind_at p g ≡ Large k

-- an empty run: a run of class b, starting at page g, with no taken slot
pub record IsEmpty (c : ℕ) (p : Pool) (g b : ℕ) : Type 0 where
  pub inside : g < 512 * c
  pub kind : kind_at p g ≡ Class b
  pub idle : (s : ℕ) → s < slots b → slot_at p g s ≡ false

-- a live block: a large run or a taken slot (RULES 3.6)
pub data IsLive (c : ℕ) (p : Pool) : Block → Type 0 where
  run : (g k : ℕ) → IsLarge c p g k → IsLive c p (run_block g k)
  slot : (g b s : ℕ) → IsSlot c p g b s true → IsLive c p (slot_block g b s)

-- ---- all live blocks, as one list

-- what f gives at n numbers from i on, one after the other
unfoldable pub flat : (ℕ → List Block) → ℕ → ℕ → List Block
flat f i zero = []
flat f i (suc n) = f i ++ flat f (suc i) n

abbrev pub when : Bool → Block → List Block
when true b = b ∷ []
when false b = []

-- the live blocks that begin in the run that starts at page g, by the page's kind and the taken slots
abbrev pub blocks_at : ℕ → Kind → (ℕ → Bool) → List Block
blocks_at g k taken = begins k [] (λ n. run_block g n ∷ []) (λ b. flat (λ s. when (taken s) (slot_block g b s)) 0 (slots b))

-- the same, of a pool
unfoldable pub page_blocks : Pool → ℕ → List Block
page_blocks p g = blocks_at g (kind_at p g) (slot_at p g)

-- the live blocks of a pool of c chunks
unfoldable pub live : ℕ → Pool → List Block
live c p = flat (page_blocks p) 0 (512 * c)

-- the second list is the first with the block b more
pub data Ins (b : Block) : List Block → List Block → Type 0 where
  here : {l : List Block} → Ins b l (b ∷ l)
  there : {x : Block} {l l' : List Block} → Ins b l l' → Ins b (x ∷ l) (x ∷ l')

-- the blocks rise from lo to hi, none is empty, and each ends at or before the next one's place
pub data Rising : ℕ → List Block → ℕ → Type 0 where
  stop : {lo hi : ℕ} → lo ≤ hi → Rising lo [] hi
  next : {b : Block} {l : List Block} {lo hi : ℕ} → lo ≤ b.place → 0 < b.size → Rising (b.place + b.size) l hi → Rising lo (b ∷ l) hi
