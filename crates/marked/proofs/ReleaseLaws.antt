-- A release by marks is the release. Assumes nothing.
use mathlib.Core.Path.{◌≡◌, refl, sym, ap, ◌∙◌, subst, subst⁻¹}
use mathlib.Core.Logic.{by_cases}
use mathlib.Core.Bool.{false, false≢true}
use mathlib.Core.List.{List}
use Prim.Native.Nat.{ℕ, suc, ◌-◌, ◌*◌, ◌/◌, ◌%◌, ◌≤◌, ◌<◌}
use native.Mathlib.Decide.{ℕ_discrete}
use native.Mathlib.Omega.{arith}
use Rattle.classes.specs.Classes.{pages}
use Rattle.classes.proofs.ClassLaws.{row_facts}
use Rattle.records.specs.declared.Kind.{Kind}
use Rattle.records.specs.declared.Kind.TheVariants.{Edge, Free, Damaged, Large, Class, Inner}
use Rattle.records.specs.Kinds.{behind, span_of, in_class}
use Rattle.records.specs.Pool.{Pool, kind_at}
use Rattle.records.specs.Runs.{Lies}
use Rattle.records.specs.Calls.{admit_of, Left, leaves}
use Rattle.records.proofs.RunLaws.{class_at_low, lies_out}
use Rattle.blocks.proofs.KeepLaws.{admit_good}
use Rattle.release.specs.declared.Spot.{Spot}
use Rattle.release.specs.declared.Spot.TheVariants.{Nowhere, Run, Slot}
use Rattle.release.specs.Release.{spot, give_back, give}
use Rattle.release.proofs.SpotLaws.{spot_outside, lies_class, lies_first, lies_behind, lies_bare}
use Rattle.release.proofs.GiveLaws.{There, there, gave_nothing, gave_at}
use Rattle.hints.specs.Hints.{Marks, giving}
use Rattle.marked.proofs.MarkLaws.{same_marks, freed_same}

pub give_outside : (c : ℕ) (p : Pool) (q : ℕ) → 512 * c ≤ q / 4096 → leaves 5 p ≡ give c p q
give_outside c p q l = gave_nothing p 5 refl ∙ gave_at c p q (spot_outside c p q l)

module _ (c : ℕ) (p : Pool) (ok : admit_of c p ≡ 0) (q : ℕ) (l : q / 4096 < 512 * c) where
  -- ---- a page outside all class runs

  -- no slot starts there
  abbrev NoSlot : Spot → Type 0
  NoSlot (Nowhere r) = Unit {0}
  NoSlot (Run g k) = Unit {0}
  NoSlot (Slot g b s) = ⊥

  out_spot : in_class (kind_at p (q / 4096)) ≡ false → NoSlot (spot c p q)
  out_spot t = go (kind_at p (q / 4096)) (lies_out p (q / 4096) t refl) t
    where
      nowhere : Nowhere 5 ≡ spot c p q → NoSlot (spot c p q)
      nowhere e = subst NoSlot e tt

      go : (k : Kind) → Lies p (q / 4096) (q / 4096) k → in_class k ≡ false → NoSlot (spot c p q)
      go Edge r u = nowhere (lies_bare c p ok q l (q / 4096) Edge tt r)
      go Free r u = nowhere (lies_bare c p ok q l (q / 4096) Free tt r)
      go Damaged r u = nowhere (lies_bare c p ok q l (q / 4096) Damaged tt r)
      go (Large n) r u =
          by_cases (ℕ_discrete (q % 4096) 0) (λ z. subst NoSlot (lies_first c p ok q l (q / 4096) n r z) tt)
          (λ z. nowhere (lies_behind c p ok q l (q / 4096) n r z))
      go (Class b) r u = absurd (false≢true (sym u))
      go (Inner w) r u = nowhere (lies_bare c p ok q l (q / 4096) (Inner w) tt r)

  pub out_marks : {r : ℕ} {u : Pool} {rows opens : List ℕ} → in_class (kind_at p (q / 4096)) ≡ false → Marks (512 * c) p rows opens
      → leaves r u ≡ give c p q → Marks (512 * c) u rows opens
  unfolding give
  out_marks {u = u} {rows} {opens} t h e =
      subst⁻¹ (λ (x : Left ℕ Pool). Marks (512 * c) x.left rows opens) e (go (spot c p q) (there c p q) (out_spot t))
    where
      go : (x : Spot) → There c p q x → NoSlot x → Marks (512 * c) (give_back p x) rows opens
      go (Nowhere r) a n = h
      go (Run g k) (a, _) n = same_marks h (freed_same c p (admit_good c p ok) g k a)
      go (Slot g b s) a n = absurd n

  -- ---- a page of a class run

  module _ {g b : ℕ} (r : Lies p (q / 4096) g (Class b)) where
    pub run_low : 4096 * g ≤ q
    run_low = (lies_class c p ok q l g b r).2

    pub run_there : (kind_at p g ≡ Class b) × ((g < 512 * c) × (q - 4096 * g < 4096 * pages b))
    unfolding behind
    run_there =
        let z : span_of (kind_at p g) ≡ suc (behind b) = ap span_of (sym r.is) in
        let some = (row_facts b (class_at_low p g b (sym r.is))).pages_least in let i = r.by.high in
        (sym r.is, ((lies_class c p ok q l g b r).0, omega arith))

    pub gave_run : {x : Left ℕ Pool} → x ≡ giving p g b (q - 4096 * g) → x ≡ give c p q
    unfolding giving
    gave_run e = e ∙ gave_at c p q (lies_class c p ok q l g b r).3
