-- Demand 2: release, block size and next, rule by rule. Assumes nothing.
use mathlib.Core.Path.{◌≡◌, refl, sym, ap, ap₂, ◌∙◌, subst}
use mathlib.Core.Logic.{◌≢◌}
use mathlib.Core.Bool.{Bool, true, false, cond}
use Prim.Native.Nat.{ℕ, suc, ◌+◌, ◌/◌, ◌%◌, ◌≤◌, ◌<◌}
use native.Mathlib.Omega.{arith}
use borrow.Author.Tests.{ne_eqb}
use Rattle.refusals.specs.Refusals.{no_block, free_slot}
use Rattle.classes.specs.Classes.{size, Smallest}
use Rattle.classes.proofs.ClassLaws.{any_row}
use Rattle.records.specs.declared.Kind.TheVariants.{Free}
use Rattle.records.specs.Pool.{Pool, kind_at}
use Rattle.records.specs.Calls.{Left, leaves}
use Rattle.records.specs.Kinds.{zeros, span_of}
use Rattle.records.proofs.KindLaws.{length_zeros}
use Rattle.records.proofs.RunLaws.{sound_runs}
use Rattle.records.proofs.AdmitLaws.{shaped_lengths}
use Rattle.gaps.proofs.Answers.{Around, free_around}
use Rattle.blocks.specs.Blocks.{Block, block, slot_block, run_block, IsSlot, IsLarge, live}
use Rattle.blocks.specs.Stores.{put_run, put_slot, Good, Loses}
use Rattle.blocks.proofs.ApartLaws.{live_is}
use Rattle.blocks.proofs.StoreLaws.{run_bits, slot_kinds, slot_same}
use Rattle.blocks.proofs.KeepLaws.{run_whole, give_large, give_slot, free_large}
use Rattle.reserve.specs.declared.Reserved.{Reserved}
use Rattle.reserve.specs.Reserve.{reserve_of}
use Rattle.release.specs.declared.Spot.{Spot}
use Rattle.release.specs.declared.Spot.TheVariants.{Nowhere, Run, Slot}
use Rattle.release.specs.Release.{spot, released, release_of, sized, size_of}
use Rattle.release.proofs.GiveLaws as places
use Rattle.release.proofs.MeanLaws as spots
use Rattle.release.proofs.MeanLaws.{give_loses, release_give, release_by, size_by, one_size}
use Rattle.std.specs.Prelude.{Option, Some, None}
use Rattle.next.specs.declared.Found.{Found}
use Rattle.next.specs.declared.Next.{Next}
use Rattle.next.specs.Next.{first_from, answered, next_of}
use Rattle.next.proofs.MeanLaws.{live_lowest, none_below, below_none, next_by}
use Rattle.demands.specs.Demand2.{Takes, Reserves}
use Rattle.demands.specs.Demand2.{Nexts, next_block, block_nowhere}
use Rattle.demands.specs.Demand2.{Releases, run_there, slot_taken, slot_free, nothing}
use Rattle.demands.proofs.ReserveRules.{rule, gap_serves, slot_serves}

-- ---- release and block size

-- nothing starts where a block does
apart : {x y : Spot} → x ≡ Nowhere no_block → x ≡ y → released y ≢ no_block → ⊥
apart e f n = n (ap released (sym f ∙ e))

module _ (c : ℕ) (p : Pool) (h : Good c p) where
  module _ (q : ℕ) where
    pub large_at : (g k : ℕ) → IsLarge c p g k → (run_block g k).place ≡ q → spot c p q ≡ Run g k
    large_at g k r at = subst (λ (y : ℕ). spot c p y ≡ Run g k) at (spots.run_found c p h g k r)

    pub slot_at : (g b s : ℕ) (v : Bool) → IsSlot c p g b s v → (slot_block g b s).place ≡ q → spot c p q ≡ cond v (Slot g b s) (Nowhere free_slot)
    slot_at g b s v r at = subst (λ (y : ℕ). spot c p y ≡ cond v (Slot g b s) (Nowhere free_slot)) at (spots.slot_found c p h g b s v r)

    pub by_place : {x : Left ℕ Pool} → Releases c p q x → release_of c p q ≡ x
    by_place (run_there g k r at) = release_by c p h q (large_at g k r at)
    by_place (slot_taken g b s r at) = release_by c p h q (slot_at g b s true r at)
    by_place (slot_free g b s r at) = release_by c p h q (slot_at g b s false r at)
    by_place (nothing no-large no_such) = go (spot c p q) refl (places.there c p q)
      where
        go : (x : Spot) → spot c p q ≡ x → places.There c p q x → release_of c p q ≡ leaves no_block p
        go (Nowhere r) e places.none = release_by c p h q e
        go (Nowhere r) e (places.idle g b s i at) = absurd (no_such g b s false i at)
        go (Run g k) e (r, at) = absurd (no-large g k r at)
        go (Slot g b s) e (r, at) = absurd (no_such g b s true r at)

    pub place_rule : Releases c p q (release_of c p q)
    place_rule = go (spot c p q) refl (places.there c p q)
      where
        placed : {x : Left ℕ Pool} → release_of c p q ≡ x → Releases c p q x → Releases c p q (release_of c p q)
        placed e r = subst (Releases c p q) (sym e) r

        free_or_taken : (g b s : ℕ) (v : Bool) → spot c p q ≡ Nowhere no_block → spot c p q ≡ cond v (Slot g b s) (Nowhere free_slot) → ⊥
        free_or_taken g b s true e f = apart e f (omega arith)
        free_or_taken g b s false e f = apart e f (omega arith)

        go : (x : Spot) → spot c p q ≡ x → places.There c p q x → Releases c p q (release_of c p q)
        go (Nowhere r) e places.none =
            placed (release_by c p h q e)
            (nothing (λ g k x at. apart e (large_at g k x at) (omega arith)) (λ g b s v x at. free_or_taken g b s v e (slot_at g b s v x at)))
        go (Nowhere r) e (places.idle g b s x at) = placed (release_by c p h q e) (slot_free g b s x at)
        go (Run g k) e (x, at) = placed (release_by c p h q e) (run_there g k x at)
        go (Slot g b s) e (x, at) = placed (release_by c p h q e) (slot_taken g b s x at)

    pub block_lost : (release_of c p q).answer ≡ 0 → (b : Block) × (b.place ≡ q) × Loses c p (release_of c p q).left b
    block_lost e =
        let g = release_give c p h q in
        let (b, at, size, less) = give_loses c p h q (ap (λ (x : Left ℕ Pool). x.answer) (sym g) ∙ e) in
        (b, at, subst (λ (x : Left ℕ Pool). Loses c p x.left b) (sym g) less)

    pub unsized : (r : ℕ) → (release_of c p q).answer ≡ suc r → size_of c p q ≡ sized (suc r) 0
    unsized r e = go (spot c p q) refl (ap (λ (x : Left ℕ Pool). x.answer) (sym (release_by c p h q refl)) ∙ e)
      where
        go : (x : Spot) → spot c p q ≡ x → released x ≡ suc r → size_of c p q ≡ sized (suc r) 0
        go (Nowhere n) f k = size_by c p h q f ∙ ap (λ (m : ℕ). sized m 0) k
        go (Run g n) f k = absurd (omega arith)
        go (Slot g b s) f k = absurd (omega arith)

  -- a freed slot is free
  slot_freed : (g b s : ℕ) → IsSlot c p g b s true → IsSlot c (put_slot 0 p g s) g b s false
  slot_freed g b s x =
      let few = (any_row b).slots_most in let l = x.slot in
      record {
        inside = x.inside;
        kind = slot_kinds c 0 p g s g ∙ x.kind;
        slot = x.slot;
        bit = slot_same c 0 p g s (omega arith) (shaped_lengths c _ _ _ h.shape) x.inside (omega arith) ∙ ne_eqb 0 1 (omega arith);
      }

  pub serves_again : (g b s : ℕ) → IsSlot c p g b s true → (n : ℕ) → Smallest n b → (x : Left Reserved Pool)
      → x ≡ reserve_of c (release_of c p (slot_block g b s).place).left n → (x.answer.refusal ≡ 0) × (x.answer.place ≤ (slot_block g b s).place)
  serves_again g b s i n f x e =
      let freed : (release_of c p (slot_block g b s).place).left ≡ put_slot 0 p g s =
      ap (λ (y : Left ℕ Pool). y.left) (by_place _ (slot_taken g b s i refl)) in
      slot_serves c (put_slot 0 p g s) (give_slot c p h g b s i).good g b s (slot_freed g b s i) f
      (subst (Reserves c (put_slot 0 p g s) n) (sym (e ∙ ap (λ (y : Pool). reserve_of c y n) freed)) (rule c (put_slot 0 p g s) (give_slot c p h g b s i).good n))

  pub pages_freed : (g k : ℕ) → IsLarge c p g k → (i : ℕ) → g ≤ i → i < g + suc k → kind_at (release_of c p (run_block g k).place).left i ≡ Free
  pages_freed g k r i a b =
      ap (λ (y : Left ℕ Pool). kind_at y.left i) (by_place _ (run_there g k r refl)) ∙ (free_large c p h g k r).were i a b

  -- they are bits of one chunk, so a gap holds them
  gap_freed : (g k : ℕ) → IsLarge c p g k → Around (put_run 0 p g (zeros (suc k))).bits (g / 512) g (suc k)
  gap_freed g k r =
      let shape = shaped_lengths c _ _ _ h.shape in let long = length_zeros (suc k) in
      let span : span_of (kind_at p g) ≡ suc k = ap span_of r.kind in
      let runs = sound_runs c p h.whole in let ends = run_whole c p h g r.inside in
      let first : g % 512 ≢ 0 = runs.off g g r.inside (record { low = omega arith; high = omega arith }) in
      let last : (g + k) / 512 ≡ g / 512 = runs.inside g (g + k) r.inside (record { low = omega arith; high = omega arith }) in
      free_around _ (g / 512) g (suc k) (omega arith) (omega arith) (omega arith)
      (λ i a b. run_bits c 0 p g (zeros (suc k)) (omega arith) shape (omega arith) i a (omega arith))

  pub room_freed : (g k : ℕ) → IsLarge c p g k → (n m : ℕ) → Takes n m → m ≤ suc k
      → (reserve_of c (release_of c p (run_block g k).place).left n).answer.refusal ≡ 0
  room_freed g k r n m t l =
      let q : Pool = put_run 0 p g (zeros (suc k)) in
      let around = gap_freed g k r in let inside = r.inside in
      let low = around.low in let high = around.high in
      ap (λ (y : Left ℕ Pool). (reserve_of c y.left n).answer.refusal) (by_place _ (run_there g k r refl))
      ∙ gap_serves c q (give_large c p h g k r).good m t (g / 512) (omega arith) around.gap around.is (omega arith)

-- ---- next

module _ (c : ℕ) (p : Pool) (h : Good c p) (q : ℕ) where
  pub by_next : {x : Next} → Nexts c p q x → next_of c p q ≡ x
  by_next (next_block b m l low) = go (first_from q (live c p)) refl
    where
      go : (x : Option Found) → first_from q (live c p) ≡ x → next_of c p q ≡ answered 0 b.place b.size
      go (Some f) e =
          let (n, k, least) = live_lowest c p h q f e in
          let same : f.place ≡ b.place = omega (arith, least b m l, low (block f.place f.size) n k) in
          next_by c p h q e ∙ ap₂ (answered 0) same (one_size c p h (live_is c p n) (live_is c p m) same)
      go None e = absurd (omega (arith, none_below q (live c p) e b m))
  by_next (block_nowhere f) = next_by c p h q (below_none q (live c p) f)

  pub next_rule : Nexts c p q (next_of c p q)
  next_rule = go (first_from q (live c p)) refl
    where
      go : (x : Option Found) → first_from q (live c p) ≡ x → Nexts c p q (next_of c p q)
      go (Some f) e =
          let (n, k, least) = live_lowest c p h q f e in subst (Nexts c p q) (sym (next_by c p h q e)) (next_block (block f.place f.size) n k least)
      go None e = subst (Nexts c p q) (sym (next_by c p h q e)) (block_nowhere (none_below q (live c p) e))
