-- What starts at a page, and the slot of a place. Assumes nothing.
use mathlib.Core.Path.{◌≡◌, refl, sym, ap, ◌∙◌, subst}
use mathlib.Core.Bool.{Bool, true}
use mathlib.Core.List.{List, ◌++◌}
use Rattle.std.specs.Prelude.{Option, Some, None}
use Prim.Native.Nat.{ℕ, suc, ◌+◌, ◌-◌, ◌*◌, ◌/◌, ◌≤◌, ◌<◌}
use native.Mathlib.Numerals.{add-one}
use native.Mathlib.Omega.{arith}
use Rattle.bitrow.specs.Row.{bit_at, next_bit}
use Rattle.bitrow.proofs.Rows.{First, first_at}
use Rattle.bitrow.proofs.Marks.{one_set, zero_clear}
use Rattle.classes.specs.declared.Row.{Row}
use Rattle.classes.specs.Classes.{row_at, size, slots}
use Rattle.classes.proofs.ClassLaws.{Cut, size_read, cut_some}
use Rattle.records.specs.declared.Kind.{Kind}
use Rattle.records.specs.declared.Kind.TheVariants.{Edge, Free, Damaged, Large, Class, Inner}
use Rattle.records.specs.Pool.{Pool, kind_at, slot_at}
use Rattle.records.proofs.KindLaws.{Bare}
use Rattle.blocks.specs.Blocks.{Block, slot_block, flat, when}
use Rattle.blocks.proofs.FlatLaws.{flat_over, flat_step, flat_drop}
use Rattle.next.specs.declared.Found.{Found}
use Rattle.next.specs.Next.{found}
use Rattle.next.specs.Walk.{head, blocks_from, Least}
use Rattle.next.proofs.StartLaws.{least}

-- ---- a slot, by the row as it was read

pub slot_of : (b off : ℕ) {s z : ℕ} {r : Row} → r ≡ row_at b → z ≡ r.size → b < 30 → s ≡ (off + (z - 1)) / z → Least (size b) off s
slot_of b off {s} {z} e f l h = subst (λ (x : ℕ). Least x off s) (size_read b e f) (least z off s (cut_some e f l) h)

-- ---- the first block of a page, in the arm of a match that tells its kind

module _ (p : Pool) (g s : ℕ) where
  -- x is the first block of page g, of a class run one from slot s on
  abbrev pub FirstIn : Option Found → Type 0
  FirstIn x = x ≡ head (blocks_from g s (kind_at p g) (slot_at p g))

  by_kind : {k : Kind} {x : Option Found} → k ≡ kind_at p g → x ≡ head (blocks_from g s k (slot_at p g)) → FirstIn x
  by_kind e f = f ∙ ap (λ (j : Kind). head (blocks_from g s j (slot_at p g))) e

  pub bare_first : {k : Kind} → k ≡ kind_at p g → Bare k → FirstIn None
  unfolding head
  bare_first {k} e h = by_kind e (go k h)
    where
      go : (j : Kind) → Bare j → None ≡ head (blocks_from g s j (slot_at p g))
      go Edge b = refl
      go Free b = refl
      go Damaged b = refl
      go (Large n) b = absurd b
      go (Class n) b = absurd b
      go (Inner w) b = refl

  pub large_first : {k : ℕ} → Large k ≡ kind_at p g → FirstIn (Some (found (4096 * g) (4096 * (k + 1))))
  unfolding head
  large_first {k} e = by_kind e (ap (λ (n : ℕ). Some (found (4096 * g) (4096 * n))) (add-one k))

  module _ {b z n : ℕ} (e : Class b ≡ kind_at p g) (k : Cut b z n) where
    abbrev slot : ℕ → List Block
    slot i = when (slot_at p g i) (slot_block g b i)

    -- no slot is left
    pub over_first : n ≤ s → FirstIn None
    unfolding head
    over_first l = let u = k.slots_is in by_kind e (ap head (sym (flat_over slot s (slots b - s) (omega arith))))

    module _ (l : s < n) {x : ℕ} (w : x ≡ next_bit 1 p.slots (512 * g + s) (512 * g + n - (512 * g + s))) where
      passed : First p.slots (512 * g + s) (512 * g + n) 1 x
      passed = first_at p.slots (512 * g + s) (512 * g + n) 1 x (omega arith) (omega arith) w

      -- free slots are passed
      dropped : flat slot s (slots b - s) ≡ flat slot (x - 512 * g) (slots b - (x - 512 * g))
      unfolding slot_at
      dropped =
          let low = passed.low in let high = passed.high in let u = k.slots_is in
          flat_drop slot s (x - 512 * g) (slots b - s) (slots b - (x - 512 * g)) (omega arith) (omega arith)
          (λ j a d. ap (λ (t : Bool). when t (slot_block g b j)) (zero_clear p.slots (512 * g + j) (passed.below (512 * g + j) (omega arith) (omega arith))))

      pub slots_dropped : blocks_from g s (kind_at p g) (slot_at p g) ≡ blocks_from g (x - 512 * g) (kind_at p g) (slot_at p g)
      slots_dropped =
          ap (λ (j : Kind). blocks_from g s j (slot_at p g)) (sym e) ∙ dropped ∙ ap (λ (j : Kind). blocks_from g (x - 512 * g) j (slot_at p g)) e

      -- the next taken slot
      pub slot_first : x - 512 * g < n → FirstIn (Some (found (4096 * g + (x - 512 * g) * z) z))
      unfolding head slot_at
      slot_first m =
          let low = passed.low in let u = k.slots_is in
          let there : x ≡ 512 * g + (x - 512 * g) = omega arith in
          let taken : slot_at p g (x - 512 * g) ≡ true = one_set p.slots (512 * g + (x - 512 * g)) (ap (bit_at p.slots) (sym there) ∙ passed.here (omega arith)) in
          let more : slots b - (x - 512 * g) ≡ suc (slots b - (x - 512 * g + 1)) = omega arith in
          by_kind e
          (ap (λ (d : ℕ). Some (found (4096 * g + (x - 512 * g) * d) d)) k.size_is
          ∙ sym (ap head (dropped ∙ flat_step slot (x - 512 * g) (slots b - (x - 512 * g)) (slots b - (x - 512 * g + 1)) more)
          ∙ ap (λ (v : Bool). head (when v (slot_block g b (x - 512 * g)) ++ flat slot (x - 512 * g + 1) (slots b - (x - 512 * g + 1)))) taken))
