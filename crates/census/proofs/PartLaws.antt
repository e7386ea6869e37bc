-- The blocks of a run's slots, of a page and of all pages, read upward. Assumes nothing.
use mathlib.Core.Path.{◌≡◌, refl, sym, ap, ◌∙◌}
use mathlib.Core.Logic.{◌≢◌}
use mathlib.Core.Bool.{Bool, false}
use mathlib.Core.List.{List, [], ◌∷◌, ◌++◌}
use Prim.Native.Nat.{ℕ, ◌+◌, ◌-◌, ◌*◌, ◌≤◌, ◌<◌}
use native.Mathlib.Numerals.{add-one}
use native.Mathlib.Omega.{arith}
use lib.ListN.{length}
use Rattle.std.specs.Prelude.{Option, Some, None}
use Rattle.bitrow.specs.Row.{bit_at, is_set, next_bit}
use Rattle.bitrow.proofs.Rows.{first_at}
use Rattle.bitrow.proofs.Marks.{one_set, zero_clear}
use Rattle.classes.specs.Classes.{slots}
use Rattle.classes.proofs.ClassLaws.{Cut}
use Rattle.records.specs.declared.Kind.TheVariants.{Large, Class}
use Rattle.records.specs.Pool.{Pool, kind_at, slot_at}
use Rattle.blocks.specs.Blocks.{block, Block, slot_block, when, page_blocks}
use Rattle.blocks.proofs.FlatLaws.{flat_over, flat_step, flat_drop}
use Rattle.blocks.proofs.PageLaws.{kind_blocks, live_from, from_step}
use Rattle.census.specs.Writes.{slot_blocks, TakenAt, NextTaken, Wrote}
use Rattle.census.proofs.WriteLaws.{Writing, writing_on, writing_room, wrote_as}

-- ---- the taken slots of a run

-- what the search over the row of slot bits finds: a taken slot, or none before the end
module _ (bits : List ℕ) (g s n r : ℕ) (h : s ≤ n) (e : r ≡ next_bit 1 bits (512 * g + s) (512 * g + n - (512 * g + s))) where
  pub next_high : 512 * g ≤ r
  next_high = let a = (first_at bits (512 * g + s) (512 * g + n) 1 r (omega arith) (omega arith) e).low in omega arith

  next_below : (i : ℕ) → s ≤ i → i < r - 512 * g → is_set bits (512 * g + i) ≡ false
  next_below i x y =
      let f = first_at bits (512 * g + s) (512 * g + n) 1 r (omega arith) (omega arith) e in
      zero_clear bits (512 * g + i) (f.below (512 * g + i) (omega arith) (omega arith))

  pub next_some : r - 512 * g < n → TakenAt bits g s n (r - 512 * g)
  next_some l =
      let f = first_at bits (512 * g + s) (512 * g + n) 1 r (omega arith) (omega arith) e in
      let a = f.low in
      let q : r ≡ 512 * g + (r - 512 * g) = omega arith in
      record {
        low = omega arith;
        high = l;
        below = next_below;
        here = one_set bits (512 * g + (r - 512 * g)) (ap (bit_at bits) (sym q) ∙ f.here (omega arith));
      }

  pub next_none : n ≤ r - 512 * g → (i : ℕ) → s ≤ i → i < n → is_set bits (512 * g + i) ≡ false
  next_none l i x y = next_below i x (omega arith)

module _ (bits : List ℕ) (g b : ℕ) where
  pub slots_skip : {s n : ℕ} (r : ℕ) → s ≤ r → r ≤ n → ((i : ℕ) → s ≤ i → i < r → is_set bits (512 * g + i) ≡ false)
      → slot_blocks bits g b s (n - s) ≡ slot_blocks bits g b r (n - r)
  unfolding slot_blocks
  slots_skip {s} {n} r a c f =
      flat_drop (λ i. when (is_set bits (512 * g + i)) (slot_block g b i)) s r (n - s) (n - r) (omega arith) (omega arith)
      (λ k x y. ap (λ (v : Bool). when v (slot_block g b k)) (f k x y))

  -- up to the next taken slot and behind it
  pub slots_at : {s n r : ℕ} → TakenAt bits g s n r
      → slot_blocks bits g b s (n - s) ≡ (slot_block g b r ∷ []) ++ slot_blocks bits g b (r + 1) (n - (r + 1))
  unfolding slot_blocks
  slots_at {s} {n} {r} t =
      let a = t.low in
      let l = t.high in
      slots_skip r (omega arith) (omega arith) t.below
      ∙ flat_step (λ i. when (is_set bits (512 * g + i)) (slot_block g b i)) r (n - r) (n - (r + 1)) (omega arith)
      ∙ ap (λ (v : Bool). when v (slot_block g b r) ++ slot_blocks bits g b (r + 1) (n - (r + 1))) t.here

  -- where none is left
  pub slots_over : {s n : ℕ} (r : Option ℕ) → ((x : ℕ) → r ≢ Some x) → s ≤ n → NextTaken bits g s n r → slot_blocks bits g b s (n - s) ≡ []
  unfolding slot_blocks
  slots_over {s} {n} None f h t =
      slots_skip n h (omega arith) t ∙ flat_over (λ i. when (is_set bits (512 * g + i)) (slot_block g b i)) n (n - n) (omega arith)
  slots_over (Some x) f h t = absurd (f x refl)

-- ---- the turns of the loop over the slots

module _ (bits : List ℕ) (g b : ℕ) {z n : ℕ} (k : Cut b z n) where
  pub slots_start : slot_blocks bits g b 0 (slots b) ≡ slot_blocks bits g b 0 (n - 0)
  slots_start = let e = k.slots_is in let f : slots b ≡ n - 0 = omega arith in ap (slot_blocks bits g b 0) f

  module _ {before : List ℕ} {i : ℕ} {whole : List Block} {room : List ℕ} {j s r : ℕ}
      (w : Writing before i whole room j (slot_blocks bits g b s (n - s))) (t : TakenAt bits g s n r) where
    pub slot_room : i + 2 * length whole ≤ length before → j + 2 ≤ length room
    slot_room h = writing_room (slot_block g b r ∷ []) (slot_blocks bits g b (r + 1) (n - (r + 1))) w (slots_at bits g b t) h

    pub slot_on : {after : List ℕ} {m : ℕ} → Wrote after room m j (block (4096 * g + r * z) z ∷ [])
        → Writing before i whole after m (slot_blocks bits g b (r + 1) (n - (r + 1)))
    slot_on v =
        let e : block (4096 * g + r * z) z ≡ slot_block g b r = ap (λ (x : ℕ). block (4096 * g + r * x) x) k.size_is in
        writing_on (slot_block g b r ∷ []) (slot_blocks bits g b (r + 1) (n - (r + 1))) w (wrote_as v (ap (λ (x : Block). x ∷ []) e))
        (slots_at bits g b t)

-- ---- the blocks of a page, in the arm of a match that tells its kind

module _ (p : Pool) (g : ℕ) where
  pub page_slots : (b : ℕ) → Class b ≡ kind_at p g → slot_blocks p.slots g b 0 (slots b) ≡ page_blocks p g
  unfolding slot_blocks slot_at
  page_slots b e = kind_blocks p g (Class b) (sym e)

  pub page_run : (n : ℕ) → Large n ≡ kind_at p g → block (4096 * g) (4096 * (n + 1)) ∷ [] ≡ page_blocks p g
  page_run n e = ap (λ (m : ℕ). block (4096 * g) (4096 * m) ∷ []) (add-one n) ∙ kind_blocks p g (Large n) (sym e)

-- ---- the blocks of all pages

module _ (c : ℕ) (p : Pool) {before : List ℕ} {i : ℕ} {whole : List Block} {room : List ℕ} {k g : ℕ}
    (w : Writing before i whole room k (live_from c p g)) (l : g < 512 * c) where
  pub page_room_lem : i + 2 * length whole ≤ length before → k + 2 * length (page_blocks p g) ≤ length room
  page_room_lem h = writing_room (page_blocks p g) (live_from c p (g + 1)) w (from_step c p g l) h

  pub page_on : {after : List ℕ} {r : ℕ} → Wrote after room r k (page_blocks p g) → Writing before i whole after r (live_from c p (g + 1))
  page_on v = writing_on (page_blocks p g) (live_from c p (g + 1)) w v (from_step c p g l)
