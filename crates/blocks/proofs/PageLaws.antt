-- The live blocks of one page, and of the pages from one on. Assumes nothing.
use Rattle.std.proofs.Common.{◌≡◌, ℕ, ◌+◌, ◌-◌, ◌*◌, ◌<◌, ◌≤◌, Bool, List, [], ◌++◌, sym, refl, ap, ◌∙◌, arith}
use Rattle.records.specs.declared.Kind.{Kind}
use Rattle.records.specs.declared.Kind.TheVariants.{Edge, Free, Damaged, Large, Class, Inner}
use Rattle.records.specs.Pool.{Pool, kind_at, slot_at}
use Rattle.records.proofs.KindLaws.{Bare}
use Rattle.blocks.specs.Blocks.{Block, flat, blocks_at, page_blocks, live}
use Rattle.blocks.proofs.FlatLaws.{flat_over, flat_step}

-- ---- by the page's kind

pub kind_blocks : (p : Pool) (g : ℕ) (k : Kind) → kind_at p g ≡ k → blocks_at g k (slot_at p g) ≡ page_blocks p g
unfolding page_blocks
kind_blocks p g k e = ap (λ (x : Kind). blocks_at g x (slot_at p g)) (sym e)

-- no block begins at the page
pub bare_none : (g : ℕ) (taken : ℕ → Bool) (k : Kind) → Bare k → blocks_at g k taken ≡ []
bare_none g taken Edge h = refl
bare_none g taken Free h = refl
bare_none g taken Damaged h = refl
bare_none g taken (Large k) h = absurd h
bare_none g taken (Class b) h = absurd h
bare_none g taken (Inner w) h = refl

pub bare_blocks : (p : Pool) (g : ℕ) (k : Kind) → k ≡ kind_at p g → Bare k → page_blocks p g ≡ []
bare_blocks p g k e h = sym (kind_blocks p g k (sym e)) ∙ bare_none g (slot_at p g) k h

-- ---- the pages one after the other

-- the live blocks from page g on
unfoldable pub live_from : ℕ → Pool → ℕ → List Block
live_from c p g = flat (page_blocks p) g (512 * c - g)

pub from_start : (c : ℕ) (p : Pool) → live c p ≡ live_from c p 0
unfolding live live_from
from_start c p = let e : 512 * c ≡ 512 * c - 0 = omega arith in ap (flat (page_blocks p) 0) e

pub from_step : (c : ℕ) (p : Pool) (g : ℕ) → g < 512 * c → live_from c p g ≡ page_blocks p g ++ live_from c p (g + 1)
unfolding live_from
from_step c p g l = flat_step (page_blocks p) g (512 * c - g) (512 * c - (g + 1)) (omega arith)

pub from_over : (c : ℕ) (p : Pool) (g : ℕ) → 512 * c ≤ g → live_from c p g ≡ []
unfolding live_from
from_over c p g l = flat_over (page_blocks p) g (512 * c - g) (omega arith)
