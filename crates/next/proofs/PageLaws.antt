-- The blocks of a page, below a place or at and above it. Assumes nothing.
use mathlib.Core.Path.{◌≡◌, refl, ap}
use mathlib.Core.Bool.{Bool}
use Prim.Native.Nat.{ℕ, suc, ◌+◌, ◌*◌, ◌≤◌, ◌<◌}
use native.Mathlib.Nat.{mul-le-mul_right}
use native.Mathlib.Omega.{arith}
use Rattle.classes.specs.Classes.{size, slots}
use Rattle.classes.proofs.ClassLaws.{any_row}
use Rattle.records.specs.declared.Kind.{Kind}
use Rattle.records.specs.declared.Kind.TheVariants.{Edge, Free, Damaged, Large, Class, Inner}
use Rattle.records.specs.Kinds.{behind}
use Rattle.records.specs.Pool.{Pool, kind_at, slot_at}
use Rattle.blocks.specs.Blocks.{slot_block, run_block, flat, when, blocks_at, page_blocks}
use Rattle.blocks.proofs.ApartLaws.{slots_fit}
use Rattle.next.specs.Walk.{blocks_from}
use Rattle.next.proofs.ListLaws.{Skips, skip_nil, skip_one, skip_when, skip_flat, Heads, head_nil, head_one, head_when, head_flat}

module _ (q g b : ℕ) (t : ℕ → Bool) where
  pub slots_below : (s n : ℕ) → ((j : ℕ) → s ≤ j → j < s + n → 4096 * g + j * size b < q) → Skips q (flat (λ i. when (t i) (slot_block g b i)) s n)
  slots_below s n h = skip_flat q (λ i. when (t i) (slot_block g b i)) s n (λ j x y. skip_when q (t j) (slot_block g b j) (h j x y))

  pub slots_above : (s n : ℕ) → ((j : ℕ) → s ≤ j → j < s + n → q ≤ 4096 * g + j * size b) → Heads q (flat (λ i. when (t i) (slot_block g b i)) s n)
  slots_above s n h = head_flat q (λ i. when (t i) (slot_block g b i)) s n (λ j x y. head_when q (t j) (slot_block g b j) (h j x y))

  class_below : 4096 * (g + suc (behind b)) ≤ q → Skips q (flat (λ i. when (t i) (slot_block g b i)) 0 (slots b))
  class_below h =
      slots_below 0 (slots b)
      (λ j x y. let l : j < slots b = omega arith in let m = mul-le-mul_right (size b) l in let f = slots_fit b in let z = (any_row b).size_some j l in omega arith)

module _ (q g : ℕ) (t : ℕ → Bool) where
  -- a page before the place: a class run there ends at or before it
  page_below : (k : Kind) → 4096 * g < q → ((b : ℕ) → k ≡ Class b → 4096 * (g + suc (behind b)) ≤ q) → Skips q (blocks_at g k t)
  page_below Edge h f = skip_nil q
  page_below Free h f = skip_nil q
  page_below Damaged h f = skip_nil q
  page_below (Large k) h f = skip_one q (run_block g k) h
  page_below (Class b) h f = class_below q g b t (f b refl)
  page_below (Inner w) h f = skip_nil q

  -- a page at or behind the place
  page_above : (k : Kind) → q ≤ 4096 * g → Heads q (blocks_at g k t)
  page_above Edge h = head_nil q
  page_above Free h = head_nil q
  page_above Damaged h = head_nil q
  page_above (Large k) h = head_one q (run_block g k) h
  page_above (Class b) h = slots_above q g b t 0 (slots b) (λ j x y. omega arith)
  page_above (Inner w) h = head_nil q

-- from slot 0 on is all
pub blocks_from_0 : (g : ℕ) (k : Kind) (t : ℕ → Bool) → blocks_from g 0 k t ≡ blocks_at g k t
blocks_from_0 g Edge t = refl
blocks_from_0 g Free t = refl
blocks_from_0 g Damaged t = refl
blocks_from_0 g (Large k) t = refl
blocks_from_0 g (Class b) t = ap (flat (λ i. when (t i) (slot_block g b i)) 0) (omega arith)
blocks_from_0 g (Inner w) t = refl

-- ---- of a pool

pub pool_below : (p : Pool) (q g : ℕ) → 4096 * g < q → ((b : ℕ) → kind_at p g ≡ Class b → 4096 * (g + suc (behind b)) ≤ q) → Skips q (page_blocks p g)
unfolding page_blocks
pool_below p q g h f = page_below q g (slot_at p g) (kind_at p g) h f

pub pool_above : (p : Pool) (q g : ℕ) → q ≤ 4096 * g → Heads q (page_blocks p g)
unfolding page_blocks
pool_above p q g h = page_above q g (slot_at p g) (kind_at p g) h
