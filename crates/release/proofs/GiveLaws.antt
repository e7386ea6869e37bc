-- What was found at a place is there, and how it is given back. Assumes nothing.
use mathlib.Core.Path.{◌≡◌, refl, sym, ap, ap₂, ◌∙◌, subst}
use mathlib.Core.Logic.{◌≢◌}
use mathlib.Core.Bool.{Bool, true, false, cond}
use mathlib.Core.List.{List, []}
use mathlib.Core.Option.{some-injective}
use Prim.Native.Nat.{ℕ, zero, suc, ◌+◌, ◌-◌, ◌*◌, ◌/◌, ◌%◌, ◌≤◌, ◌<◌}
use native.Mathlib.Nat.{le_refl, div-add-mod'}
use native.Mathlib.Omega.{arith}
use lib.ListN.{get_or}
use Rattle.std.specs.Prelude.{Option, Some}
use Rattle.refusals.specs.Refusals.{no_block, free_slot}
use Rattle.refusals.proofs.CallLaws.{refused, served}
use Rattle.bitrow.specs.Row.{is_set}
use Rattle.classes.specs.Classes.{size, slots}
use Rattle.records.specs.declared.Kind.{Kind}
use Rattle.records.specs.declared.Kind.TheVariants.{Edge, Free, Damaged, Large, Class, Inner}
use Rattle.records.specs.Kinds.{zeros, span_of}
use Rattle.records.specs.Pool.{Pool, kind_at, slot_at}
use Rattle.records.specs.Sound.{step, sound}
use Rattle.records.specs.Calls.{admit_of, Left, leaves}
use Rattle.records.proofs.Flags.{eq_cases, lt_cases}
use Rattle.records.proofs.KindLaws.{get_or_zeros}
use Rattle.records.proofs.WalkLaws.{sound_walks}
use Rattle.records.proofs.RunLaws.{Whole, walk_run, large_at_low}
use Rattle.classes.proofs.ClassLaws.{any_row}
use Rattle.records.proofs.WordLaws.{page_word}
use Rattle.blocks.specs.Blocks.{slot_block, run_block, IsSlot, IsLarge}
use Rattle.release.specs.declared.Spot.{Spot}
use Rattle.release.specs.declared.Sized.{Sized}
use Rattle.release.specs.declared.Spot.TheVariants.{Nowhere, Run, Slot}
use Rattle.release.specs.declared.Area.{Area}
use Rattle.release.specs.Areas.{Leads}
use Rattle.release.specs.Release.{is_inner, first_page, slot_spot, spot_in, spot, give_back, released, give, release_of, sized, size_at, size_of}

-- ---- what was found

-- no block starts at the place q: 6 where a free slot does
pub data Unfound (c : ℕ) (p : Pool) (q : ℕ) : ℕ → Type 0 where
  none : Unfound c p q no_block
  idle : (g b s : ℕ) → IsSlot c p g b s false → (slot_block g b s).place ≡ q → Unfound c p q free_slot

abbrev pub There : ℕ → Pool → ℕ → Spot → Type 0
There c p q (Nowhere r) = Unfound c p q r
There c p q (Run g k) = IsLarge c p g k × ((run_block g k).place ≡ q)
There c p q (Slot g b s) = IsSlot c p g b s true × ((slot_block g b s).place ≡ q)

module _ (c : ℕ) (p : Pool) (q g : ℕ) (l : g < 512 * c) (low : 4096 * g ≤ q) where
  slot_there : (b : ℕ) → kind_at p g ≡ Class b → There c p q (slot_spot p.slots g b (q - 4096 * g))
  unfolding slot_spot slot_at
  slot_there b e =
      eq_cases (There c p q) ((q - 4096 * g) % size b) 0
      (λ z. lt_cases (There c p q) ((q - 4096 * g) / size b) (slots b)
      (λ h. go (is_set p.slots (512 * g + (q - 4096 * g) / size b)) refl h
      (let r = div-add-mod' (q - 4096 * g) (size b) in omega arith))
      (λ h. none))
      (λ z. none)
    where
      go : (v : Bool) → is_set p.slots (512 * g + (q - 4096 * g) / size b) ≡ v → (q - 4096 * g) / size b < slots b
          → 4096 * g + (q - 4096 * g) / size b * size b ≡ q
          → There c p q (cond v (Slot g b ((q - 4096 * g) / size b)) (Nowhere free_slot))
      go true f h r = (record { inside = l; kind = e; slot = h; bit = f }, r)
      go false f h r = idle g b ((q - 4096 * g) / size b) (record { inside = l; kind = e; slot = h; bit = f }) r

  spot_there : (k : Kind) → kind_at p g ≡ k → There c p q (spot_in p g (q - 4096 * g) k)
  spot_there Edge e = none
  spot_there Free e = none
  spot_there Damaged e = none
  spot_there (Large k) e =
      eq_cases (There c p q) (q - 4096 * g) 0
      (λ z. (record { inside = l; kind = e }, omega arith)) (λ z. none)
  spot_there (Class b) e = slot_there b e
  spot_there (Inner w) e = none

first_le : (p : Pool) (g : ℕ) → first_page p g ≤ g
unfolding first_page
first_le p zero = omega arith
first_le p (suc g) = go (is_inner (kind_at p (suc g))) (first_le p g)
  where
    go : (v : Bool) → first_page p g ≤ g → cond v (first_page p g) (suc g) ≤ suc g
    go true h = omega arith
    go false h = le_refl (suc g)

pub there : (c : ℕ) (p : Pool) (q : ℕ) → There c p q (spot c p q)
unfolding spot
there c p q =
    lt_cases (There c p q) (q / 4096) (512 * c)
    (λ h. let f = first_le p (q / 4096) in
    spot_there c p q (first_page p (q / 4096)) (omega arith) (omega arith) (kind_at p (first_page p (q / 4096))) refl)
    (λ h. none)

-- ---- the pages of a large run

module _ (c : ℕ) (p : Pool) (s : sound c p ≡ true) {g k : ℕ} (r : IsLarge c p g k) where
  large_walk : Whole (kind_at p) (512 * c) g
  large_walk = walk_run (kind_at p) (512 * c) g (sound_walks c p s).walks r.inside (let e : span_of (kind_at p g) ≡ suc k = ap span_of r.kind in omega arith)

  pub large_ends : (g + suc k ≤ 512 * c) × (k < 511)
  large_ends =
      let e : span_of (kind_at p g) ≡ suc k = ap span_of r.kind in
      let b = large_walk.ends in let l = large_at_low p g k r.kind in (omega arith, omega arith)

  pub large_zeros : (i : ℕ) → g < i → i < g + suc k → get_or p.words i 0 ≡ 0
  large_zeros i x y =
      let e : span_of (kind_at p g) ≡ suc k = ap span_of r.kind in
      let z : zeros k ≡ large_walk.due = some-injective _ _ (ap (step []) (sym r.kind) ∙ large_walk.begins) in
      page_word p i (large_walk.rest i x (omega arith) ∙ ap (λ (l : List ℕ). Inner (get_or l (i - suc g) 0)) (sym z) ∙ ap Inner (get_or_zeros k (i - suc g)))

-- ---- the work of a release

-- what is given back, and what is answered
abbrev gave : Pool → Spot → Left ℕ Pool
gave p x = leaves (released x) (give_back p x)

module _ (p : Pool) {x : Spot} where
  -- a refusal
  pub gave_nothing : (r : ℕ) → x ≡ Nowhere r → leaves r p ≡ gave p x
  gave_nothing r e = ap (gave p) (sym e)

  -- what was stored is what is given back
  pub gave_stored : {y : Spot} {q : Pool} → x ≡ y → q ≡ give_back p y → released y ≡ 0 → leaves 0 q ≡ gave p x
  gave_stored {y} e f z = ap₂ (λ (r : ℕ) (u : Pool). leaves r u) (sym z) f ∙ ap (gave p) (sym e)

-- at a place
pub gave_at : (c : ℕ) (p : Pool) (q : ℕ) {x : Spot} → x ≡ spot c p q → gave p x ≡ give c p q
unfolding give
gave_at c p q e = ap (gave p) e

-- what the code found
pub found : (c : ℕ) (p : Pool) (q : ℕ) {x y : Spot} → x ≡ spot c p q → x ≡ y → There c p q y
found c p q e f = subst (There c p q) (sym e ∙ f) (there c p q)

-- a slot is one of at most 512
pub few_slots : {c : ℕ} {p : Pool} {g b s : ℕ} → IsSlot c p g b s true → s < 512
few_slots {b = b} r = let a = (any_row b).slots_most in let h = r.slot in omega arith

-- ---- what the place lies in, as it was matched

module _ (c : ℕ) (p : Pool) (q : ℕ) {x : Option Area} {y : Area} (e : x ≡ Some y) where
  leads_as : {z : Area} → y ≡ z → Leads c p q x → Leads c p q (Some z)
  leads_as f h = subst (Leads c p q) (e ∙ ap Some f) h

  pub leads_large : {g k : ℕ} → y ≡ Area.Large g k → Leads c p q x → Run g k ≡ spot c p q
  leads_large f h = leads_as f h

  pub leads_class : {g b : ℕ} → y ≡ Area.Class g b → Leads c p q x
      → (g < 512 * c) × (b < 30) × (4096 * g ≤ q) × (slot_spot p.slots g b (q - 4096 * g) ≡ spot c p q)
  leads_class f h = leads_as f h

-- ---- behind the check

module _ (c : ℕ) (p : Pool) (q n : ℕ) (e : n ≡ admit_of c p) where
  pub release_served : n ≡ 0 → {x : Left ℕ Pool} → x ≡ give c p q → x ≡ release_of c p q
  unfolding release_of
  release_served z f = f ∙ served (admit_of c p) n (λ r. leaves r p) (give c p q) e z

  pub size_refused : n ≢ 0 → sized n 0 ≡ size_of c p q
  unfolding size_of
  size_refused z = refused (admit_of c p) n (λ r. sized r 0) (size_at (spot c p q)) e z

  pub size_served : n ≡ 0 → {x : Sized} → x ≡ size_at (spot c p q) → x ≡ size_of c p q
  unfolding size_of
  size_served z f = f ∙ served (admit_of c p) n (λ r. sized r 0) (size_at (spot c p q)) e z
