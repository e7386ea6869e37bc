-- The live blocks are the large runs and the taken slots; those of a good pool lie apart, inside the pool and off page 0 of each chunk.
-- Assumes nothing.
use Rattle.std.proofs.Common.{◌≡◌, ℕ, zero, suc, ◌+◌, ◌*◌, ◌/◌, ◌%◌, ◌<◌, ◌≤◌, Bool, true, false, ◌≢◌, List, [], ◌∷◌, ◌++◌, length, sym, refl, ap, subst, ⊎_elim, le_trans, le_refl, mul-le-mul_right, arith}
use mathlib.Core.Bool.{false≢true}
use mathlib.Core.Option.{some, none-ne-some}
use mathlib.Core.List.Memᴰ
use mathlib.Core.List.{Memᴰ}
use native.Mathlib.Decide.{ℕ_discrete}
use Rattle.classes.specs.Classes.{size, slots}
use Rattle.classes.proofs.ClassLaws.{any_row}
use Rattle.records.specs.declared.Kind.{Kind}
use Rattle.records.specs.declared.Kind.TheVariants.{Edge, Free, Damaged, Large, Class, Inner}
use Rattle.records.specs.Kinds.{behind, span_of}
use Rattle.records.specs.Pool.{Pool, kind_at, slot_at}
use Rattle.records.specs.Sound.{step}
use Rattle.records.proofs.WalkLaws.{walk, walk_next, sound_walks, step_inner}
use Rattle.records.proofs.RunLaws.{begins_run, sound_runs}
use Rattle.blocks.specs.Blocks.{Block, slot_block, run_block, IsLive, run, slot, flat, when, blocks_at, live, page_blocks, Ins, here, there, Rising, stop, next}
use Rattle.blocks.specs.Stores.{Good}

-- ---- rising lists

-- the constructors as functions: their implicit arguments are known before the others are read, so that `omega` can prove these
rising_stop : {lo hi : ℕ} → lo ≤ hi → Rising lo [] hi
rising_stop h = stop h

rising_next : {b : Block} {l : List Block} {lo hi : ℕ} → lo ≤ b.place → 0 < b.size → Rising (b.place + b.size) l hi → Rising lo (b ∷ l) hi
rising_next h z r = next h z r

-- a list that rises does so between wider bounds
rising_widen : {l : List Block} {lo lo' hi hi' : ℕ} → lo' ≤ lo → hi ≤ hi' → Rising lo l hi → Rising lo' l hi'
rising_widen a b (stop k) = stop (le_trans a (le_trans k b))
rising_widen a b (next k z r) = next (le_trans a k) z (rising_widen (le_refl _) b r)

rising_append : {l r : List Block} {lo mid hi : ℕ} → Rising lo l mid → Rising mid r hi → Rising lo (l ++ r) hi
rising_append (stop h) k = rising_widen h (le_refl _) k
rising_append (next h z t) k = next h z (rising_append t k)

rising_end : {l : List Block} {lo hi : ℕ} → Rising lo l hi → lo ≤ hi
rising_end (stop h) = h
rising_end (next {b} h z r) = let e = rising_end r in omega arith

-- one of a list that rises is not empty, and ends at or before the upper bound
rising_one : {b : Block} {l l' : List Block} {lo hi : ℕ} → Rising lo l' hi → Ins b l l' → (0 < b.size) × (b.place + b.size ≤ hi)
rising_one (next h z r) here = (z, rising_end r)
rising_one (next h z r) (there {l = l} i) = rising_one {l = l} r i
rising_one {b = b} {l = l} (stop {lo = lo} {hi = hi} _) x6 = elim x6 [ ]

-- ---- the blocks of a page

-- the slots of a run fit into its pages
pub slots_fit : (b : ℕ) → slots b * size b ≤ 4096 * suc (behind b)
unfolding behind
slots_fit b = (any_row b).fit

one_slot : (v : Bool) (g b s : ℕ) → s < slots b → Rising (4096 * g + s * size b) (when v (slot_block g b s)) (4096 * g + suc s * size b)
one_slot true g b s l = rising_next (le_refl _) ((any_row b).size_some s l) (rising_stop (omega arith))
one_slot false g b s l = rising_stop (omega arith)

slots_rising : (t : ℕ → Bool) (g b s n : ℕ) → s + n ≤ slots b
    → Rising (4096 * g + s * size b) (flat (λ i. when (t i) (slot_block g b i)) s n) (4096 * g + (s + n) * size b)
unfolding flat
slots_rising t g b s zero l = rising_stop (omega arith)
slots_rising t g b s (suc n) l =
    rising_widen (le_refl _) (omega arith) (rising_append (one_slot (t s) g b s (omega arith)) (slots_rising t g b (suc s) n (omega arith)))

-- the words that are due are those of pages of a run that began before: no block begins there
page_rising : (t : ℕ → Bool) (g : ℕ) (st : List ℕ) (k : Kind) (due : List ℕ) → step st k ≡ some due
    → Rising (4096 * (g + length st)) (blocks_at g k t) (4096 * (suc g + length due))
page_rising t g [] Edge due e = rising_stop (omega arith)
page_rising t g [] Free due e = rising_stop (omega arith)
page_rising t g [] Damaged due e = absurd (none-ne-some due e)
page_rising t g [] (Large k) due e =
    let l = begins_run (Large k) due e (omega arith) in rising_next (omega arith) (omega arith) (rising_stop (omega arith))
page_rising t g [] (Class b) due e =
    let l = begins_run (Class b) due e (omega arith) in
    let f = slots_fit b in
    rising_widen (omega arith) (omega arith) (slots_rising t g b 0 (slots b) (omega arith))
page_rising t g [] (Inner w) due e = absurd (none-ne-some due e)
page_rising t g (w ∷ ws) k due e =
    let (p, q) = step_inner w ws k due e in
    let l : length due ≡ length ws = ap length q in
    subst (λ (j : Kind). Rising (4096 * (g + suc (length ws))) (blocks_at g j t) (4096 * (suc g + length due))) (sym p)
    (rising_stop (omega arith))

walk_rising : (K : ℕ → Kind) (t : ℕ → ℕ → Bool) (n : ℕ) (st : List ℕ) (g : ℕ) → walk K st g n ≡ true
    → Rising (4096 * (g + length st)) (flat (λ i. blocks_at i (K i) (t i)) g n) (4096 * (g + n))
unfolding walk flat
walk_rising K t zero [] g h = stop (le_refl _)
walk_rising K t zero (w ∷ ws) g h = absurd (false≢true h)
walk_rising K t (suc n) st g h =
    let s = walk_next K st g n h in
    rising_widen (le_refl _) (omega arith)
    (rising_append (page_rising (t g) g st (K g) s.due s.steps) (walk_rising K t n s.due (suc g) s.walks))

pub live_rising : (c : ℕ) (p : Pool) → Good c p → Rising 0 (live c p) (2097152 * c)
unfolding live page_blocks
live_rising c p h =
    rising_widen (omega arith) (omega arith) (walk_rising (kind_at p) (slot_at p) (512 * c) [] 0 (sound_walks c p h.whole).walks)

-- each of them lies inside the pool
pub live_inside : (c : ℕ) (p : Pool) → Good c p → {b : Block} {l : List Block} → Ins b l (live c p)
    → (0 < b.size) × (b.place + b.size ≤ 2097152 * c)
live_inside c p h i = rising_one (live_rising c p h) i

-- ---- the list holds the large runs and the taken slots

flat_from : {b : Block} (f : ℕ → List Block) (i n : ℕ) → Memᴰ b (flat f i n)
    → (j : ℕ) × (i ≤ j) × (j < i + n) × Memᴰ b (f j)
unfolding flat
flat_from f i zero m = absurd (Memᴰ.not-nil m)
flat_from {b} f i (suc n) m =
    ⊎_elim (λ x. (i, omega arith, omega arith, x))
    (λ (x : Memᴰ b (flat f (suc i) n)). let (j, a, l, y) = flat_from f (suc i) n x in (j, omega arith, omega arith, y)) (Memᴰ.append_cases (f i) m)

flat_to : {b : Block} (f : ℕ → List Block) (i n j : ℕ) → i ≤ j → j < i + n → Memᴰ b (f j) → Memᴰ b (flat f i n)
unfolding flat
flat_to f i zero j a l m = absurd (omega arith)
flat_to {b} f i (suc n) j a l m = go (ℕ_discrete i j) (flat_to f (suc i) n j)
  where
    go : Dec (i ≡ j) → (suc i ≤ j → j < suc i + n → Memᴰ b (f j) → Memᴰ b (flat f (suc i) n)) → Memᴰ b (f i ++ flat f (suc i) n)
    go (yes e) later = Memᴰ.append_left (flat f (suc i) n) (subst (λ (k : ℕ). Memᴰ b (f k)) (sym e) m)
    go (no e) later = Memᴰ.append_right (f i) (later (omega arith) (omega arith) m)

when_from : {b : Block} (v : Bool) (x : Block) → Memᴰ b (when v x) → (v ≡ true) × (b ≡ x)
when_from true x m = (refl, Memᴰ.eq_of_singleton m)
when_from false x m = absurd (Memᴰ.not-nil m)

module _ (c : ℕ) (p : Pool) where
  -- by what page g begins
  page_is : {b : Block} (g : ℕ) → g < 512 * c → (k : Kind) → kind_at p g ≡ k → Memᴰ b (blocks_at g k (slot_at p g)) → IsLive c p b
  page_is g l Edge e m = absurd (Memᴰ.not-nil m)
  page_is g l Free e m = absurd (Memᴰ.not-nil m)
  page_is g l Damaged e m = absurd (Memᴰ.not-nil m)
  page_is g l (Large k) e m = subst (IsLive c p) (sym (Memᴰ.eq_of_singleton m)) (run g k (record { inside = l; kind = e }))
  page_is g l (Class a) e m =
      let (s, x, n, y) = flat_from (λ s. when (slot_at p g s) (slot_block g a s)) 0 (slots a) m in
      let (taken, is) = when_from (slot_at p g s) (slot_block g a s) y in
      subst (IsLive c p) (sym is) (slot g a s (record { inside = l; kind = e; slot = omega arith; bit = taken }))
  page_is g l (Inner w) e m = absurd (Memᴰ.not-nil m)

  pub live_is : {b : Block} → Memᴰ b (live c p) → IsLive c p b
  unfolding live page_blocks
  live_is m =
      let (g, a, l, n) = flat_from (λ g. blocks_at g (kind_at p g) (slot_at p g)) 0 (512 * c) m in
      page_is g (omega arith) (kind_at p g) refl n

  pub is_live : {b : Block} → IsLive c p b → Memᴰ b (live c p)
  unfolding live page_blocks
  is_live (run g k r) =
      flat_to (λ g. blocks_at g (kind_at p g) (slot_at p g)) 0 (512 * c) g (omega arith) (omega (arith, r.inside))
      (subst (λ (x : Kind). Memᴰ (run_block g k) (blocks_at g x (slot_at p g))) (sym r.kind) (Memᴰ.head refl))
  is_live (slot g b s r) =
      flat_to (λ g. blocks_at g (kind_at p g) (slot_at p g)) 0 (512 * c) g (omega arith) (omega (arith, r.inside))
      (subst (λ (x : Kind). Memᴰ (slot_block g b s) (blocks_at g x (slot_at p g))) (sym r.kind)
      (flat_to (λ s. when (slot_at p g s) (slot_block g b s)) 0 (slots b) s (omega arith) (omega (arith, r.slot))
      (subst (λ (v : Bool). Memᴰ (slot_block g b s) (when v (slot_block g b s))) (sym r.bit) (Memᴰ.head refl))))

-- ---- off page 0

-- the block b lies in the n pages from page g on
record Within (b : Block) (g n : ℕ) : Type 0 where
  low : 4096 * g ≤ b.place
  high : b.place + b.size ≤ 4096 * (g + n)

slot_within : (g b s : ℕ) → s < slots b → Within (slot_block g b s) g (suc (behind b))
slot_within g b s l = let f = slots_fit b in let m = mul-le-mul_right (size b) l in record { low = omega arith; high = omega arith }

-- the blocks that begin in a run lie in its pages
run_within : {b : Block} (g : ℕ) (k : Kind) (t : ℕ → Bool) → Memᴰ b (blocks_at g k t) → Within b g (span_of k)
run_within g Edge t m = absurd (Memᴰ.not-nil m)
run_within g Free t m = absurd (Memᴰ.not-nil m)
run_within g Damaged t m = absurd (Memᴰ.not-nil m)
run_within g (Large k) t m =
    subst (λ (x : Block). Within x g (suc k)) (sym (Memᴰ.eq_of_singleton m)) (record { low = omega arith; high = omega arith })
run_within g (Class a) t m =
    let (s, x, l, y) = flat_from (λ s. when (t s) (slot_block g a s)) 0 (slots a) m in
    subst (λ (x : Block). Within x g (suc (behind a))) (sym (when_from (t s) (slot_block g a s) y).1) (slot_within g a s (omega arith))
run_within g (Inner w) t m = absurd (Memᴰ.not-nil m)

pub live_off : (c : ℕ) (p : Pool) → Good c p → (b : Block) → Memᴰ b (live c p)
    → (q : ℕ) → b.place ≤ q → q < b.place + b.size → q / 4096 % 512 ≢ 0
unfolding live page_blocks
live_off c p h b m q x y =
    let (g, a, l, n) = flat_from (λ g. blocks_at g (kind_at p g) (slot_at p g)) 0 (512 * c) m in
    let w = run_within g (kind_at p g) (slot_at p g) n in
    (sound_runs c p h.whole).off g (q / 4096) (omega arith) (record { low = omega arith; high = omega arith })
