-- Marks are kept: by stores that touch no class run as they are, by a plan with a look at its run. Assumes nothing.
use mathlib.Core.Path.{◌≡◌, refl, sym, ap, ap₂, ◌∙◌, subst}
use mathlib.Core.Logic.{◌≢◌, inl, inr, by_cases}
use mathlib.Core.Bool.{Bool, true, false, ◌&&◌}
use mathlib.Core.List.{List}
use Prim.Native.Nat.{ℕ, suc, ◌+◌, ◌-◌, ◌*◌, ◌≤◌, ◌<◌}
use native.Mathlib.Decide.{ℕ_discrete, dec_lt}
use native.Mathlib.Omega.{arith}
use lib.Dec.{ltb}
use lib.ListN.{get_or}
use borrow.Author.Tests.{eq-eqb, ne_eqb}
use Rattle.classes.specs.Classes.{slots}
use Rattle.records.specs.declared.Kind.{Kind}
use Rattle.records.specs.declared.Kind.TheVariants.{Class}
use Rattle.records.specs.Kinds.{zeros, behind, words_of, is_run_of}
use Rattle.records.specs.Pool.{Pool, kind_at}
use Rattle.records.proofs.WordLaws.{run_of}
use Rattle.blocks.specs.Blocks.{IsLarge}
use Rattle.blocks.specs.Stores.{put_run, Good}
use Rattle.blocks.proofs.FlipLaws.{RunFlip, run_alike, alike_good}
use Rattle.blocks.proofs.KeepLaws.{take_large, free_large, take_class}
use Rattle.reserve.specs.declared.Plan.TheVariants.{NewClass, NewLarge}
use Rattle.reserve.specs.Reserve.{lowest_free, has_slot, perform}
use Rattle.reserve.specs.Plans.{PlanOk}
use Rattle.hints.specs.Hints.{Opens, Marks, SameBut}
use Rattle.hints.proofs.SlotLaws.{to_same, slot_same_but}
use Rattle.marked.specs.Marked.{SameRuns}

-- ---- stores that touch no class run

class_run : (d : ℕ) {k : Kind} → k ≡ Class d → is_run_of d k ≡ true
class_run d e = ap (is_run_of d) e ∙ eq-eqb d d refl

same_has : {p q : Pool} → SameRuns p q → (d i : ℕ) → has_slot p d i ≡ has_slot q d i
unfolding has_slot
same_has s d i = ap₂ (λ (t : Bool) (l : List ℕ). t && ltb (lowest_free l d i) (slots d)) (s.runs d i) s.slots

pub same_self : {p : Pool} → SameRuns p p
same_self = record { runs = λ d i. refl; slots = refl }

pub same_next : {p q r : Pool} → SameRuns p q → SameRuns q r → SameRuns p r
same_next x y = record { runs = λ d i. x.runs d i ∙ y.runs d i; slots = x.slots ∙ y.slots }

pub same_marks : {n : ℕ} {p q : Pool} {rows opens : List ℕ} → Marks n p rows opens → SameRuns p q → Marks n q rows opens
same_marks {n} {p} {q} {rows} {opens} h s =
    record {
      cuts = h.cuts;
      wide = h.wide;
      row =
          λ b l. record {
            marks = λ g m. (h.row b l).marks g m ∙ to_same n p q b g (λ _. same_has s b g);
            tops = (h.row b l).tops;
          };
      byte =
          λ b g l e. subst (λ (x : List ℕ). Opens x b g (get_or opens g 0)) s.slots
          (h.byte b g l (run_of b (kind_at p g) (s.runs b g ∙ class_run b e)));
    }

-- a run that is no class run comes, or goes
module _ {c : ℕ} {p q : Pool} {g n : ℕ} {head : Kind} {ws : List ℕ} (f : RunFlip c p q g n head ws) where
  flip_at : (d : ℕ) → is_run_of d head ≡ false → (i : ℕ) → is_run_of d (kind_at p i) ≡ is_run_of d (kind_at q i)
  flip_at d h i =
      by_cases (dec_lt i g) (λ x. ap (is_run_of d) (f.others i (inl x)))
      (λ x. by_cases (dec_lt i (g + suc n)) (λ y. inside i (omega arith) y) (λ y. ap (is_run_of d) (f.others i (inr (omega arith)))))
    where
      inside : (j : ℕ) → g ≤ j → j < g + suc n → is_run_of d (kind_at p j) ≡ is_run_of d (kind_at q j)
      inside j x y =
          ap (is_run_of d) (f.were j x y)
          ∙ sym (by_cases (ℕ_discrete j g) (λ e. ap (is_run_of d) (ap (kind_at q) e ∙ f.first) ∙ h)
          (λ e. let r : j ≡ suc g + (j - suc g) = omega arith in ap (is_run_of d) (ap (kind_at q) r ∙ f.rest (j - suc g) (omega arith))))

module _ (c : ℕ) (p : Pool) (h : Good c p) where
  pub large_same : (g k : ℕ) → PlanOk c p (NewLarge g k) → SameRuns p (perform p (NewLarge g k))
  unfolding put_run
  large_same g k f =
      let t = f.few in
      let e = take_large c p h g k (omega arith) f.inside f.clear in
      record { runs = λ d i. flip_at e d refl i; slots = refl }

  pub freed_same : (g k : ℕ) → IsLarge c p g k → SameRuns p (put_run 0 p g (zeros (suc k)))
  unfolding put_run
  freed_same g k r = let e = free_large c p h g k r in record { runs = λ d i. sym (flip_at e d refl i); slots = refl }

  -- ---- a plan

  same_trans : {q r : Pool} {b g : ℕ} → SameBut (512 * c) p (512 * c) q b g → SameBut (512 * c) q (512 * c) r b g → SameBut (512 * c) p (512 * c) r b g
  same_trans x y =
      record {
        here = y.here;
        inside = y.inside;
        has = λ d i l n. x.has d i l n ∙ y.has d i l n;
        kind = λ d i l n e. x.kind d i l n (y.kind d i l n e).1;
        words = λ i k l m n. x.words i k l m n ∙ y.words i k l m n;
      }

  -- a new run of a class: its pages, then its first slot
  pub class_but : (g b : ℕ) → PlanOk c p (NewClass g b) → SameBut (512 * c) p (512 * c) (perform p (NewClass g b)) b g
  unfolding put_run has_slot behind
  class_but g b (bl, k) =
      let i = k.inside in let n = k.some in
      let f = take_class c p h g b bl (omega arith) (λ j x y. k.clear j x (omega arith)) in
      let q : Pool = put_run 1 p g (words_of (Class b)) in
      let other : (d j : ℕ) → (b ≡ d → j ≢ g) → is_run_of d (kind_at p j) ≡ is_run_of d (kind_at q j) =
      λ d j y. by_cases (ℕ_discrete b d)
      (λ e. elsewhere f d j (y e)) (λ e. flip_at f d (ne_eqb b d e) j) in
      let run : SameBut (512 * c) p (512 * c) q b g =
      record {
        here = f.first;
        inside = omega arith;
        has = λ d j l y. to_same (512 * c) p q d j (λ _. ap (λ (t : Bool). t && ltb (lowest_free p.slots d j) (slots d)) (other d j y));
        kind = λ d j l y e. (l, run_of d (kind_at p j) (elsewhere f d j y ∙ class_run d e));
        words = λ j m l x y. refl;
      } in
      same_trans run (slot_same_but c 1 q (alike_good (run_alike f) h) g b 0 (omega arith) (omega arith) (omega arith) f.first)
    where
      elsewhere : {q : Pool} {n : ℕ} {ws : List ℕ} → RunFlip c p q g n (Class b) ws → (d j : ℕ) → j ≢ g → is_run_of d (kind_at p j) ≡ is_run_of d (kind_at q j)
      elsewhere {q} {n} f d j y =
          by_cases (dec_lt j g) (λ x. ap (is_run_of d) (f.others j (inl x)))
          (λ x. by_cases (dec_lt j (g + suc n))
          (λ z. let r : j ≡ suc g + (j - suc g) = omega arith in
          ap (is_run_of d) (f.were j (omega arith) z) ∙ sym (ap (is_run_of d) (ap (kind_at q) r ∙ f.rest (j - suc g) (omega arith))))
          (λ z. ap (is_run_of d) (f.others j (inr (omega arith)))))
