-- What a reserve finds: free slots and free pages. Assumes nothing.
use mathlib.Core.Path.{◌≡◌, refl, sym, ap, ap₂, ◌∙◌, subst}
use mathlib.Core.Logic.{by_cases}
use mathlib.Core.Bool.{Bool, true, false, cond, ◌&&◌}
use mathlib.Core.List.{List}
use Prim.Native.Nat.{ℕ, zero, suc, ◌+◌, ◌-◌, ◌*◌, ◌≤◌, ◌<◌}
use native.Mathlib.Decide.{ℕ_discrete}
use native.Mathlib.Omega.{arith}
use lib.Dec.{ltb}
use borrow.Author.Tests.{ltb-true}
use Rattle.refusals.specs.Refusals.{no_room, too_big}
use Rattle.bitrow.specs.Row.{is_set, next_bit}
use Rattle.bitrow.proofs.Rows.{First, next_first}
use Rattle.bitrow.proofs.Marks.{zero_clear}
use Rattle.classes.specs.Classes.{slots, pages, class_for}
use Rattle.classes.proofs.ClassLaws.{row_facts, class_smallest}
use Rattle.records.specs.Kinds.{is_run_of}
use Rattle.records.specs.Pool.{Pool, kind_at, slot_at}
use Rattle.records.specs.Sound.{sound}
use Rattle.records.proofs.Flags.{and_left, and_right, cond_lt, cond_nlt, cond_le, cond_nle, lt_cases, le_cases}
use Rattle.records.proofs.WordLaws.{page_free, run_of}
use Rattle.std.specs.Prelude.{Option, Some, None}
use Rattle.gaps.specs.Gaps.{find_pages}
use Rattle.gaps.proofs.Answers.{found_free}
use Rattle.blocks.specs.Blocks.{IsSlot}
use Rattle.reserve.specs.declared.Plan.{Plan}
use Rattle.reserve.specs.declared.Plan.TheVariants.{Refuse, TakeSlot, NewClass, NewLarge}
use Rattle.reserve.specs.Reserve.{lowest_free, has_slot, slot_page, if_found, plan_class, slot_or_run, plan_slot, plan_run, pages_for, plan_large, plan}
use Rattle.reserve.specs.Plans.{PagesFree, PlanOk, plan_pages}

-- ---- the lowest free slot of a run

pub free_first : (bits : List ℕ) (b g : ℕ) → First bits (512 * g) (512 * g + slots b) 0 (512 * g + lowest_free bits b g)
unfolding lowest_free
free_first bits b g =
    let e : 512 * g + slots b - 512 * g ≡ slots b = omega arith in
    let f : First bits (512 * g) (512 * g + slots b) 0 (next_bit 0 bits (512 * g) (slots b)) =
    subst (λ (n : ℕ). First bits (512 * g) (512 * g + slots b) 0 (next_bit 0 bits (512 * g) n)) e
    (next_first bits (512 * g) (512 * g + slots b) 0 (omega arith) (omega arith)) in
    let l = f.low in
    let r : next_bit 0 bits (512 * g) (slots b) ≡ 512 * g + (next_bit 0 bits (512 * g) (slots b) - 512 * g) = omega arith in
    subst (First bits (512 * g) (512 * g + slots b) 0) r f

-- ---- a run of the class that has one

module _ (p : Pool) (b g : ℕ) {t : Bool} (e : t ≡ is_run_of b (kind_at p g)) where
  pub has_not : t ≡ false → false ≡ has_slot p b g
  unfolding has_slot
  has_not h = ap (λ (v : Bool). v && ltb (lowest_free p.slots b g) (slots b)) (sym h ∙ e)

  pub has_by_slot : t ≡ true → {n s : ℕ} → n ≡ slots b → s ≡ lowest_free p.slots b g → ltb s n ≡ has_slot p b g
  unfolding has_slot
  has_by_slot h x y = ap₂ ltb y x ∙ ap (λ (v : Bool). v && ltb (lowest_free p.slots b g) (slots b)) (sym h ∙ e)

-- ---- the first page with a free slot

-- the pages before g have none
pub record Passed (p : Pool) (b n g : ℕ) : Type 0 where
  pub says : slot_page p b g (n - g) ≡ slot_page p b 0 n

pub passed_none : (p : Pool) (b n : ℕ) → Passed p b n 0
passed_none p b n = let r : n - 0 ≡ n = omega arith in record { says = ap (slot_page p b 0) r }

page_step : (p : Pool) (b g n : ℕ) (v : Bool) → has_slot p b g ≡ v → slot_page p b g (suc n) ≡ cond v g (slot_page p b (suc g) n)
unfolding slot_page
page_step p b g n v e = ap (λ (t : Bool). cond t g (slot_page p b (suc g) n)) e

module _ {p : Pool} {b n g : ℕ} (h : Passed p b n g) where
  pub passed_on : g < n → {t : Bool} → t ≡ has_slot p b g → t ≡ false → Passed p b n (g + 1)
  passed_on l e f =
      let r : n - g ≡ suc (n - (g + 1)) = omega arith in let q : g + 1 ≡ suc g = omega arith in
      record {
        says = ap (λ (x : ℕ). slot_page p b x (n - (g + 1))) q ∙ sym (page_step p b g (n - (g + 1)) false (sym e ∙ f))
            ∙ ap (slot_page p b g) (sym r) ∙ h.says;
      }

  pub passed_at : g < n → {t : Bool} → t ≡ has_slot p b g → t ≡ true → g ≡ slot_page p b 0 n
  passed_at l e f =
      let r : n - g ≡ suc (n - (g + 1)) = omega arith in
      sym (page_step p b g (n - (g + 1)) true (sym e ∙ f)) ∙ ap (slot_page p b g) (sym r) ∙ h.says

  pub passed_all : g ≡ n → n ≡ slot_page p b 0 n
  unfolding slot_page
  passed_all e = let r : 0 ≡ n - g = omega arith in sym e ∙ ap (slot_page p b g) r ∙ h.says

-- what the search answers
pub record Searched (p : Pool) (b g n r : ℕ) : Type 0 where
  pub low : g ≤ r
  pub high : r ≤ g + n
  pub here : r < g + n → has_slot p b r ≡ true
  pub before : (i : ℕ) → g ≤ i → i < r → has_slot p b i ≡ false

pub searched : (p : Pool) (b n g : ℕ) → Searched p b g n (slot_page p b g n)
unfolding slot_page
searched p b zero g = record { low = omega arith; high = omega arith; here = λ h. absurd (omega arith); before = λ i x y. absurd (omega arith) }
searched p b (suc n) g = go (has_slot p b g) refl (searched p b n (suc g))
  where
    go : (v : Bool) → has_slot p b g ≡ v → Searched p b (suc g) n (slot_page p b (suc g) n) → Searched p b g (suc n) (cond v g (slot_page p b (suc g) n))
    go true e s = record { low = omega arith; high = omega arith; here = λ h. e; before = λ i x y. absurd (omega arith) }
    go false e s =
        let a = s.low in let d = s.high in
        record {
          low = omega arith;
          high = omega arith;
          here = λ h. s.here (omega arith);
          before = λ i x y. by_cases (ℕ_discrete i g) (λ q. ap (has_slot p b) q ∙ e) (λ q. s.before i (omega arith) (omega arith));
        }

pub has_free : (c : ℕ) (p : Pool) (b g : ℕ) → g < 512 * c → has_slot p b g ≡ true → IsSlot c p g b (lowest_free p.slots b g) false
unfolding has_slot slot_at is_set
has_free c p b g l e =
    let k = run_of b (kind_at p g) (and_left (is_run_of b (kind_at p g)) (ltb (lowest_free p.slots b g) (slots b)) e) in
    let h = ltb-true (lowest_free p.slots b g) (slots b) (and_right (is_run_of b (kind_at p g)) (ltb (lowest_free p.slots b g) (slots b)) e) in
    record {
      inside = l;
      kind = k;
      slot = h;
      bit = zero_clear p.slots (512 * g + lowest_free p.slots b g) ((free_first p.slots b g).here (omega arith));
    }

-- ---- free pages

module _ (c : ℕ) (p : Pool) (s : sound c p ≡ true) where
  gap_free : (n g : ℕ) → 1 ≤ n → find_pages c p.bits n ≡ Some g → PagesFree c p g n
  gap_free n g a e =
      let f = found_free c p.bits n g e in
      let x = f.exists in let y = f.inside in let z = f.off in
      record {
        some = a;
        few = omega arith;
        inside = omega arith;
        clear = λ i u v. page_free c p s i (omega arith) (zero_clear p.bits i (f.free i u v));
      }

  run_ok : (n : ℕ) → 1 ≤ n → PlanOk c p (plan_run c p.bits n)
  unfolding plan_run
  run_ok n a = go (find_pages c p.bits n) refl
    where
      go : (x : Option ℕ) → find_pages c p.bits n ≡ x → PlanOk c p (if_found x (λ g. NewLarge g (n - 1)))
      go (Some g) e = let r : n ≡ suc (n - 1) = omega arith in subst (PagesFree c p g) r (gap_free n g a e)
      go None e = omega arith

  pub class_ok : (b : ℕ) → b < 30 → PlanOk c p (plan_class c p.bits b)
  unfolding plan_class
  class_ok b l = go (find_pages c p.bits (pages b)) refl
    where
      go : (x : Option ℕ) → find_pages c p.bits (pages b) ≡ x → PlanOk c p (if_found x (λ g. NewClass g b))
      go (Some g) e = (l, gap_free (pages b) g (row_facts b l).pages_least e)
      go None e = omega arith

  pub slot_ok : (b : ℕ) → b < 30 → PlanOk c p (plan_slot c p b)
  unfolding plan_slot slot_or_run
  slot_ok b l =
      let s' = searched p b (512 * c) 0 in
      lt_cases (PlanOk c p) (slot_page p b 0 (512 * c)) (512 * c)
      (λ h. has_free c p b (slot_page p b 0 (512 * c)) h (s'.here (omega arith)))
      (λ h. class_ok b l)

  large_ok : (n : ℕ) → 1 ≤ n → PlanOk c p (plan_large c p.bits n)
  unfolding plan_large
  large_ok n l = le_cases (PlanOk c p) n 2093056 (λ k. run_ok (pages_for n) (omega arith)) (λ k. omega arith)

pub plan_ok : (c : ℕ) (p : Pool) → sound c p ≡ true → (n : ℕ) → PlanOk c p (plan c p n)
unfolding plan
plan_ok c p s n =
    le_cases (PlanOk c p) n 3072 (λ h. slot_ok c p s (class_for n) (class_smallest n h).class)
    (λ h. large_ok c p s n (omega arith))

-- ---- the code's own forms

pub free_is : (bits : List ℕ) (b g n r : ℕ) → n ≡ slots b → r ≡ next_bit 0 bits (512 * g) (512 * g + n - 512 * g)
    → (512 * g ≤ r) × (r - 512 * g ≡ lowest_free bits b g)
unfolding lowest_free
free_is bits b g n r e f =
    let q : 512 * g + n - 512 * g ≡ slots b = omega arith in
    let h : r ≡ next_bit 0 bits (512 * g) (slots b) = f ∙ ap (next_bit 0 bits (512 * g)) q in
    let l = (next_first bits (512 * g) (512 * g + n) 0 (omega arith) (omega arith)).low in
    let k : 512 * g ≤ r = subst (λ (x : ℕ). 512 * g ≤ x) (sym f) l in
    (k, ap (λ (x : ℕ). x - 512 * g) h)

module _ (c : ℕ) (p : Pool) (b : ℕ) where
  pub plan_in : (g s : ℕ) → g ≡ slot_page p b 0 (512 * c) → g < 512 * c → s ≡ lowest_free p.slots b g → TakeSlot g b s ≡ plan_slot c p b
  unfolding plan_slot slot_or_run
  plan_in g s e l f = ap (TakeSlot g b) f ∙ sym (ap (slot_or_run c p b) (sym e) ∙ cond_lt g (512 * c) _ _ l)

  pub plan_new : (g : ℕ) (x : Plan) → g ≡ slot_page p b 0 (512 * c) → 512 * c ≤ g → x ≡ plan_class c p.bits b → x ≡ plan_slot c p b
  unfolding plan_slot slot_or_run
  plan_new g x e l f = f ∙ sym (ap (slot_or_run c p b) (sym e) ∙ cond_nlt g (512 * c) _ _ l)

module _ (c : ℕ) (bits : List ℕ) (b n : ℕ) (x : Option ℕ) (m : n ≡ pages b) (h : x ≡ find_pages c bits n) where
  pub class_at : (g : ℕ) → x ≡ Some g → NewClass g b ≡ plan_class c bits b
  unfolding plan_class
  class_at g k = ap (λ (y : Option ℕ). if_found y (λ i. NewClass i b)) (sym k ∙ h ∙ ap (find_pages c bits) m)

  pub class_none : x ≡ None → Refuse no_room ≡ plan_class c bits b
  unfolding plan_class
  class_none k = ap (λ (y : Option ℕ). if_found y (λ i. NewClass i b)) (sym k ∙ h ∙ ap (find_pages c bits) m)

module _ (c : ℕ) (bits : List ℕ) (n : ℕ) (x : Option ℕ) (h : x ≡ find_pages c bits n) where
  pub run_at : (g : ℕ) → x ≡ Some g → NewLarge g (n - 1) ≡ plan_run c bits n
  unfolding plan_run
  run_at g k = ap (λ (y : Option ℕ). if_found y (λ i. NewLarge i (n - 1))) (sym k ∙ h)

  pub run_none : x ≡ None → Refuse no_room ≡ plan_run c bits n
  unfolding plan_run
  run_none k = ap (λ (y : Option ℕ). if_found y (λ i. NewLarge i (n - 1))) (sym k ∙ h)

module _ (c : ℕ) (p : Pool) (n : ℕ) where
  pub plan_small : (b : ℕ) (x : Plan) → n ≤ 3072 → b ≡ class_for n → x ≡ plan_slot c p b → x ≡ plan c p n
  unfolding plan
  plan_small b x l e f = f ∙ ap (plan_slot c p) e ∙ sym (cond_le n 3072 _ _ l)

  pub plan_large_lem : (x : Plan) → 3072 < n → x ≡ plan_large c p.bits n → x ≡ plan c p n
  unfolding plan
  plan_large_lem x l f = f ∙ sym (cond_nle n 3072 _ _ l)

module _ (c : ℕ) (bits : List ℕ) (n : ℕ) where
  pub large_run : (m : ℕ) (x : Plan) → n ≤ 2093056 → m ≡ pages_for n → x ≡ plan_run c bits m → x ≡ plan_large c bits n
  unfolding plan_large
  large_run m x h e f = f ∙ ap (plan_run c bits) e ∙ sym (cond_le n 2093056 _ _ h)

  pub large_huge : 2093056 < n → Refuse too_big ≡ plan_large c bits n
  unfolding plan_large
  large_huge h = sym (cond_nle n 2093056 _ _ h)

module _ (c : ℕ) (bits : List ℕ) (n : ℕ) where
  pub pages_small : (b : ℕ) (x : Plan) → n ≤ 3072 → b ≡ class_for n → x ≡ plan_class c bits b → x ≡ plan_pages c bits n
  unfolding plan_pages
  pages_small b x l e f = f ∙ ap (plan_class c bits) e ∙ sym (cond_le n 3072 _ _ l)

  pub pages_large : (x : Plan) → 3072 < n → x ≡ plan_large c bits n → x ≡ plan_pages c bits n
  unfolding plan_pages
  pages_large x l f = f ∙ sym (cond_nle n 3072 _ _ l)

pub class_few : {b n : ℕ} → b < 30 → n ≡ slots b → n ≤ 512
class_few {b} l e = let h = row_facts b l in omega arith

pub class_pages : {b n : ℕ} → b < 30 → n ≡ pages b → 1 ≤ n
class_pages {b} l e = let h = row_facts b l in omega arith

pub class_low : {n b : ℕ} → n ≤ 3072 → b ≡ class_for n → b < 30
class_low {n} l e = let h = (class_smallest n l).class in omega arith
