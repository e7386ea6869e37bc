-- What release and block size do to sound records. Assumes nothing.
use mathlib.Core.Path.{◌≡◌, refl, sym, ap, ap₂, ◌∙◌, subst}
use mathlib.Core.Bool.{Bool, true, cond}
use Prim.Native.Nat.{ℕ, zero, suc, ◌+◌, ◌-◌, ◌*◌, ◌/◌, ◌%◌, ◌≤◌, ◌<◌}
use native.Mathlib.Nat.{mul-le-mul_right, mul-mod_left, mul-div_left}
use native.Mathlib.Omega.{arith}
use lib.Dec.{ltb}
use Rattle.refusals.specs.Refusals.{unless, no_block, free_slot}
use Rattle.bitrow.specs.Row.{is_set}
use Rattle.classes.specs.Classes.{size, slots}
use Rattle.classes.proofs.ClassLaws.{any_row}
use Rattle.records.specs.declared.Kind.{Kind}
use Rattle.records.specs.declared.Kind.TheVariants.{Large, Class}
use Rattle.records.specs.Kinds.{behind, span_of}
use Rattle.records.specs.Pool.{Pool, kind_at, slot_at}
use Rattle.records.specs.Calls.{admit_of, Left, leaves}
use Rattle.records.specs.Runs.{InRun}
use Rattle.records.proofs.Flags.{cond_eq, cond_lt}
use Rattle.blocks.specs.Blocks.{Block, block, slot_block, run_block, IsSlot, IsLarge, IsLive, run, slot}
use Rattle.blocks.specs.Stores.{Good, Loses}
use Rattle.blocks.proofs.ApartLaws.{live_inside}
use Rattle.blocks.proofs.KeepLaws.{give_large, give_slot, run_whole, admit_good, good_admit}
use Rattle.release.specs.declared.Spot.{Spot}
use Rattle.release.specs.declared.Sized.{Sized}
use Rattle.release.specs.declared.Spot.TheVariants.{Nowhere, Run, Slot}
use Rattle.release.specs.Release.{slot_spot, spot_in, spot_from, spot, give_back, released, give, release_of, sized, size_at, size_of}
use Rattle.release.proofs.SpotLaws.{in_run}
use Rattle.release.proofs.GiveLaws.{none, idle, There, there, release_served, size_served}

-- ---- the block that goes

abbrev Gone : ℕ → Pool → ℕ → Spot → Type 0
Gone c p q x = (b : Block) × (b.place ≡ q) × (size_at x ≡ sized 0 b.size) × Loses c p (give_back p x) b

gone : (c : ℕ) (p : Pool) → Good c p → (q : ℕ) (x : Spot) → There c p q x → released x ≡ 0 → Gone c p q x
gone c p h q (Nowhere r) none e = absurd (omega arith)
gone c p h q (Nowhere r) (idle g b s x at) e = absurd (omega arith)
gone c p h q (Run g k) (x, at) e = (run_block g k, at, refl, give_large c p h g k x)
gone c p h q (Slot g b s) (x, at) e = (slot_block g b s, at, refl, give_slot c p h g b s x)

given : (x : Spot) → (size_at x).refusal ≡ 0 → released x ≡ 0
given (Nowhere r) e = e
given (Run g n) e = e
given (Slot g b s) e = e

-- of z bytes
pub block_at : (c : ℕ) (p : Pool) → Good c p → (q : ℕ) (x : Spot) → There c p q x → (z : ℕ) → size_at x ≡ sized 0 z → Loses c p (give_back p x) (block q z)
block_at c p h q x t z e =
    let (b, at, n, l) = gone c p h q x t (given x (ap (λ (s : Sized). s.refusal) e)) in
    let size : b.size ≡ z = ap (λ (s : Sized). s.size) (sym n ∙ e) in
    subst (Loses c p (give_back p x)) (ap₂ block at size) l

-- n bytes from the place q on: some, and all of them in a pool of c chunks
pub record InPool (c q n : ℕ) : Type 0 where
  pub some : 0 < n
  pub inside : q + n ≤ 2097152 * c

spot_inside : (c : ℕ) (p : Pool) → Good c p → (q : ℕ) (x : Spot) → There c p q x → (size_at x).refusal ≡ 0 → InPool c q (size_at x).size
spot_inside c p h q x t e =
    let (b, at, n, l) = gone c p h q x t (given x e) in
    let (z, i) = live_inside c p h l.less in
    let k : (size_at x).size ≡ b.size = ap (λ (s : Sized). s.size) n in
    record { some = omega arith; inside = omega arith }

-- so lies a block whose size is given
pub size_inside : (c : ℕ) (p : Pool) (q : ℕ) → (size_of c p q).refusal ≡ 0 → InPool c q (size_of c p q).size
unfolding size_of
size_inside c p q = go (admit_of c p) refl
  where
    go : (a : ℕ) → admit_of c p ≡ a → (unless a (λ r. sized r 0) (size_at (spot c p q))).refusal ≡ 0
        → InPool c q (unless a (λ r. sized r 0) (size_at (spot c p q))).size
    go zero ok e = spot_inside c p (admit_good c p ok) q (spot c p q) (there c p q) e
    go (suc a) ok e = absurd (omega arith)

-- a refusal changes nothing
kept : (p : Pool) (x : Spot) (r : ℕ) → released x ≡ suc r → leaves (released x) (give_back p x) ≡ leaves (suc r) p
kept p (Nowhere n) r e = ap (λ (k : ℕ). leaves k p) e
kept p (Run g n) r e = absurd (omega arith)
kept p (Slot g b s) r e = absurd (omega arith)

-- ---- what starts at a place is found

module _ (c : ℕ) (p : Pool) (h : Good c p) where
  -- the place q lies in the run that starts at page g
  found_in : (g q : ℕ) (k : Kind) → g < 512 * c → kind_at p g ≡ k → 4096 * g ≤ q → q < 4096 * (g + span_of k)
      → spot c p q ≡ spot_in p g (q - 4096 * g) k
  unfolding spot
  found_in g q k l e a b =
      let s : span_of (kind_at p g) ≡ span_of k = ap span_of e in
      let w = run_whole c p h g l in
      let r : InRun p g (q / 4096) = record { low = omega arith; high = omega arith } in
      cond_lt (q / 4096) (512 * c) _ _ (omega arith) ∙ ap (spot_from p q) (in_run c p h.whole g (q / 4096) l r)
      ∙ ap (spot_in p g (q - 4096 * g)) e

  -- each large run is found at its first byte
  pub run_found : (g k : ℕ) → IsLarge c p g k → spot c p (run_block g k).place ≡ Run g k
  run_found g k x =
      found_in g (4096 * g) (Large k) x.inside x.kind (omega arith) (omega arith)
      ∙ cond_eq (4096 * g - 4096 * g) 0 (Run g k) (Nowhere no_block) (omega arith)

  -- and each slot at its own, whatever page of its run that lies in
  pub slot_found : (g b s : ℕ) (v : Bool) → IsSlot c p g b s v → spot c p (slot_block g b s).place ≡ cond v (Slot g b s) (Nowhere free_slot)
  unfolding slot_spot slot_at behind
  slot_found g b s v x =
      let f = any_row b in let t = x.slot in
      let z = f.size_some s t in
      let m = mul-le-mul_right (size b) t in
      let fit = f.fit in
      let off : 4096 * g + s * size b - 4096 * g ≡ s * size b = omega arith in
      let rest : s * size b % size b ≡ 0 = mul-mod_left s (size b) in
      let number : s * size b / size b ≡ s = mul-div_left s z in
      found_in g (4096 * g + s * size b) (Class b) x.inside x.kind (omega arith) (omega arith) ∙ ap (slot_spot p.slots g b) off
      ∙ cond_eq (s * size b % size b) 0 _ _ rest
      ∙ ap (λ (n : ℕ). cond (ltb n (slots b)) (cond (is_set p.slots (512 * g + n)) (Slot g b n) (Nowhere free_slot)) (Nowhere no_block)) number
      ∙ cond_lt s (slots b) _ _ t ∙ ap (λ (u : Bool). cond u (Slot g b s) (Nowhere free_slot)) x.bit

-- ---- the work of a release

-- one that is served takes the block at its place, and no other, out of the live blocks; block size gives the size of that block
pub give_loses : (c : ℕ) (p : Pool) → Good c p → (q : ℕ) → (give c p q).answer ≡ 0
    → (b : Block) × (b.place ≡ q) × (size_at (spot c p q) ≡ sized 0 b.size) × Loses c p (give c p q).left b
unfolding give
give_loses c p h q e = gone c p h q (spot c p q) (there c p q) e

-- one that is refused changes nothing
pub give_kept : (c : ℕ) (p : Pool) (q r : ℕ) → (give c p q).answer ≡ suc r → give c p q ≡ leaves (suc r) p
unfolding give
give_kept c p q r e = kept p (spot c p q) r e

-- ---- the call on a good pool

pub release_give : (c : ℕ) (p : Pool) → Good c p → (q : ℕ) → release_of c p q ≡ give c p q
release_give c p h q = sym (release_served c p q 0 (sym (good_admit c p h)) refl refl)

-- by what starts at the place
pub release_by : (c : ℕ) (p : Pool) → Good c p → (q : ℕ) {x : Spot} → spot c p q ≡ x → release_of c p q ≡ leaves (released x) (give_back p x)
unfolding give
release_by c p h q e = release_give c p h q ∙ ap (λ (x : Spot). leaves (released x) (give_back p x)) e

-- block size too
pub size_by : (c : ℕ) (p : Pool) → Good c p → (q : ℕ) {x : Spot} → spot c p q ≡ x → size_of c p q ≡ size_at x
size_by c p h q e = sym (size_served c p q 0 (sym (good_admit c p h)) refl refl) ∙ ap size_at e

-- at the place of a live block
module _ (c : ℕ) (p : Pool) (h : Good c p) where
  pub live_served : {b : Block} → IsLive c p b → (release_of c p b.place).answer ≡ 0
  live_served (run g k r) = ap (λ (x : Left ℕ Pool). x.answer) (release_by c p h _ (run_found c p h g k r))
  live_served (slot g b s r) = ap (λ (x : Left ℕ Pool). x.answer) (release_by c p h _ (slot_found c p h g b s true r))

  pub live_sized : {b : Block} → IsLive c p b → size_of c p b.place ≡ sized 0 b.size
  live_sized (run g k r) = size_by c p h _ (run_found c p h g k r)
  live_sized (slot g b s r) = size_by c p h _ (slot_found c p h g b s true r)

  -- live blocks at one place have one size
  pub one_size : {x y : Block} → IsLive c p x → IsLive c p y → x.place ≡ y.place → x.size ≡ y.size
  one_size i j e = ap (λ (s : Sized). s.size) (sym (live_sized i) ∙ ap (size_of c p) e ∙ live_sized j)

pub release_good : (c : ℕ) (p : Pool) → Good c p → (q : ℕ) → Good c (release_of c p q).left
release_good c p h q = subst (λ (x : Left ℕ Pool). Good c x.left) (sym (release_give c p h q)) (go (give c p q).answer refl)
  where
    go : (r : ℕ) → (give c p q).answer ≡ r → Good c (give c p q).left
    go zero e = (give_loses c p h q e).3.good
    go (suc r) e = subst (λ (x : Left ℕ Pool). Good c x.left) (sym (give_kept c p q r e)) h
