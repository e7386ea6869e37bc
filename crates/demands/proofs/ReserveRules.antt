-- Demand 2: a reserve, rule by rule. Assumes nothing.
use mathlib.Core.Path.{◌≡◌, refl, sym, ap, ◌∙◌, subst}
use mathlib.Core.Logic.{◌≢◌, ◌⊎◌, inl, inr, ⊎_elim, by_cases}
use mathlib.Core.Bool.{Bool, true, false, cond}
use mathlib.Core.List.{List}
use Prim.Native.Nat.{ℕ, suc, ◌+◌, ◌-◌, ◌*◌, ◌≤◌, ◌<◌}
use native.Mathlib.Decide.{dec_lt}
use native.Mathlib.Omega.{arith}
use borrow.Author.Tests.{ne_eqb}
use Rattle.refusals.specs.Refusals.{no_room, too_big}
use Rattle.bitrow.specs.Row.{is_set}
use Rattle.classes.specs.Classes.{size, pages, class_for, Smallest}
use Rattle.classes.proofs.ClassLaws.{row_facts, class_smallest, smallest_once}
use Rattle.records.specs.declared.Kind.TheVariants.{Free}
use Rattle.records.specs.Pool.{Pool, kind_at, slot_at}
use Rattle.records.specs.Calls.{Left, leaves}
use Rattle.gaps.specs.declared.Gap.{Gap}
use Rattle.std.specs.Prelude.{Option, Some, None}
use Rattle.gaps.specs.Gaps.{find_pages, IsGap}
use Rattle.gaps.proofs.Answers.{found_place, place_found, nothing_none, none_nothing, free_around}
use Rattle.blocks.specs.Blocks.{slot_block, IsSlot}
use Rattle.blocks.specs.Stores.{Good}
use Rattle.sweep.specs.declared.Swept.{Swept}
use Rattle.sweep.specs.Sweep.{swept, sweep_of}
use Rattle.sweep.specs.Found.{empty_to}
use Rattle.sweep.proofs.SweepLaws.{sweeps, sweep_by}
use Rattle.sweep.proofs.FoundLaws.{swept_bit, swept_class}
use Rattle.reserve.specs.declared.Plan.{Plan}
use Rattle.reserve.specs.declared.Reserved.{Reserved}
use Rattle.reserve.specs.Reserve.{pages_for, plan_slot, plan_large, plan, is_full, perform, refused, answer, reserve_of}
use Rattle.reserve.specs.Plans.{PlanOk}
use Rattle.reserve.specs.declared.Plan.TheVariants.{Refuse, TakeSlot, NewClass, NewLarge}
use Rattle.reserve.proofs.PlanLaws as plans
use Rattle.reserve.proofs.MeanLaws.{first_run, first_free, first_before, first_none, first_lowest, lowest_planned, perform_kinds}
use Rattle.reserve.proofs.ReadyLaws.{room_here, ready_after, ready_full, reserve_by}
use Rattle.demands.specs.Demand2.{NoSlot, NoGap, Fewest, Takes, class_pages, large_pages}
use Rattle.demands.specs.Demand2.{NoRoom, no_slot, no_run, Places, lowest_slot, new_run, large_run, Reserves, at_once, sweep_first, finds_no_room, size_too_big}

-- the fewest pages are those that the request is rounded up to
pub fewest_once : (n k : ℕ) → 3072 < n → Fewest n k → k ≡ pages_for n
fewest_once n k l f = let a = f.holds in let b = f.fewer (k - 1) (omega arith) in omega arith

pub fewest_made : (n : ℕ) → 3072 < n → (k : ℕ) → suc k ≡ pages_for n → Fewest n (suc k)
fewest_made n l k e = record { holds = omega arith; fewer = λ j h. omega arith }

-- ---- a plan for n bytes on given records

-- the plan x, which takes something, and what it comes to
record Planned (c : ℕ) (p : Pool) (n : ℕ) (x : Plan) (y : Left Reserved Pool) : Type 0 where
  is : plan c p n ≡ x
  roomy : is_full x ≡ false
  comes : leaves (answer x) (perform p x) ≡ y

module _ (c : ℕ) (p : Pool) (n : ℕ) where
  small : {x : Plan} (b : ℕ) → n ≤ 3072 → Smallest n b → x ≡ plan_slot c p b → plan c p n ≡ x
  small {x} b l f e = sym (plans.plan_small c p n b x l (smallest_once n b (class_for n) f (class_smallest n l)) e)

  large : {x : Plan} → 3072 < n → x ≡ plan_large c p.bits n → plan c p n ≡ x
  large {x} l e = sym (plans.plan_large_lem c p n x l e)

  -- a new run of class b, or none, where lack slot is free
  module _ (b : ℕ) (none : NoSlot c p b) where
    new : (g : ℕ) → find_pages c p.bits (pages b) ≡ Some g → NewClass g b ≡ plan_slot c p b
    new g e = plans.plan_new c p b (first_run c p b) _ refl (first_none c p b none) (plans.class_at c p.bits b (pages b) _ refl refl g e)

    none_new : find_pages c p.bits (pages b) ≡ None → Refuse no_room ≡ plan_slot c p b
    none_new e = plans.plan_new c p b (first_run c p b) _ refl (first_none c p b none) (plans.class_none c p.bits b (pages b) _ refl refl e)

  -- a large run of k pages, or none
  module _ (k : ℕ) (some : 1 ≤ k) (most : n ≤ 2093056) (many : k ≡ pages_for n) where
    new_large : (g : ℕ) → find_pages c p.bits k ≡ Some g → NewLarge g (k - 1) ≡ plan_large c p.bits n
    new_large g e = plans.large_run c p.bits n k _ most many (plans.run_at c p.bits k _ refl g e)

    none_large : find_pages c p.bits k ≡ None → Refuse no_room ≡ plan_large c p.bits n
    none_large e = plans.large_run c p.bits n k _ most many (plans.run_none c p.bits k _ refl e)

  fewest_some : (k : ℕ) → 3072 < n → Fewest n k → 1 ≤ k
  fewest_some k l f = let a = f.holds in omega arith

  -- lack room: the plan is to refuse 4
  no_plan : NoRoom c p p.bits n → plan c p n ≡ Refuse no_room
  no_plan (no_slot b l f none gap) = small b l f (none_new b none (none_nothing c p.bits (pages b) gap))
  no_plan (no_run k l m f gap) =
      large l (none_large k (fewest_some k l f) m (fewest_once n k l f) (none_nothing c p.bits k gap))

  big_plan : 2093056 < n → plan c p n ≡ Refuse too_big
  big_plan m = large (omega arith) (plans.large_huge c p.bits n m)

  less : (k : ℕ) → suc k - 1 ≡ k
  less k = omega arith

  module _ (h : Good c p) where
    -- what a rule says is what is planned
    places_plan : {y : Left Reserved Pool} → Places c p n y → (x : Plan) × Planned c p n x y
    places_plan (lowest_slot b g s l f low) =
        (TakeSlot g b s, record { is = small b l f (sym (lowest_planned c p b h g s low.is low.lowest)); roomy = refl; comes = refl })
    places_plan (new_run b g l f none place) =
        (NewClass g b, record { is = small b l f (new b none g (place_found c p.bits (pages b) g place)); roomy = refl; comes = refl })
    places_plan (large_run k g l m f place) = (
      NewLarge g k,
      record {
        is =
            large l (new_large (suc k) (omega arith) m (fewest_once n (suc k) l f) g (place_found c p.bits (suc k) g place))
            ∙ ap (NewLarge g) (less k);
        roomy = refl;
        comes = refl;
      },
    )

    -- and each size that is not too big has a rule, or lack room
    slot_rule : n ≤ 3072 → ((y : Left Reserved Pool) × Places c p n y) ⊎ NoRoom c p p.bits n
    slot_rule l =
        by_cases (dec_lt (first_run c p b) (512 * c))
        (λ i. inl (_, lowest_slot b _ _ l least (record { is = first_free c p b i; lowest = first_lowest c p b h i })))
        (λ i. go (λ g s x. let a = first_before c p b g s x in let d = x.inside in omega arith) (find_pages c p.bits (pages b)) refl)
      where
        b : ℕ
        b = class_for n

        least : Smallest n b
        least = class_smallest n l

        go : NoSlot c p b → (f : Option ℕ) → find_pages c p.bits (pages b) ≡ f → ((y : Left Reserved Pool) × Places c p n y) ⊎ NoRoom c p p.bits n
        go none (Some g) e = inl (_, new_run b g l least none (found_place c p.bits (pages b) g e))
        go none None e = inr (no_slot b l least none (nothing_none c p.bits (pages b) e))

    run_rule : 3072 < n → n ≤ 2093056 → ((y : Left Reserved Pool) × Places c p n y) ⊎ NoRoom c p p.bits n
    run_rule l m = go (find_pages c p.bits (suc k)) refl
      where
        k : ℕ
        k = pages_for n - 1

        many : suc k ≡ pages_for n
        many = omega arith

        go : (f : Option ℕ) → find_pages c p.bits (suc k) ≡ f → ((y : Left Reserved Pool) × Places c p n y) ⊎ NoRoom c p p.bits n
        go (Some g) e = inl (_, large_run k g l m (fewest_made n l k many) (found_place c p.bits (suc k) g e))
        go None e = inr (no_run (suc k) l m (fewest_made n l k many) (nothing_none c p.bits (suc k) e))

    placed : n ≤ 2093056 → ((y : Left Reserved Pool) × Places c p n y) ⊎ NoRoom c p p.bits n
    placed m = by_cases (dec_lt 3072 n) (λ l. run_rule l m) (λ l. slot_rule (omega arith))

-- ---- on the pool, and then on the swept one

module _ (c : ℕ) (p : Pool) (h : Good c p) where
  -- a gap of the pool lies in one of the swept pool
  gap_left : (k : ℕ) → NoGap c (swept c p).bits k → NoGap c p.bits k
  gap_left k none i l z is =
      let some = is.some in let low = is.low in let high = is.high in
      let around =
      free_around (swept c p).bits i z.at z.len some low high
      (λ j a b. swept_bit c p h j (omega arith) ∙ clear (empty_to p (suc j)) (is.free j a b)) in
      let a = around.low in let b = around.high in let d = none i l around.gap around.is in omega arith
    where
      clear : (v : Bool) {x : ℕ} → x ≡ 0 → cond v 0 x ≡ 0
      clear true e = refl
      clear false e = e

  -- and a free slot of the swept pool is one of the pool
  slot_left : (b : ℕ) → NoSlot c p b → NoSlot c (swept c p) b
  unfolding slot_at
  slot_left b none g s x =
      none g s
      (record {
        inside = x.inside;
        kind = swept_class c p h g b x.inside x.kind;
        slot = x.slot;
        bit = ap (λ (l : List ℕ). is_set l (512 * g + s)) (sym (sweeps c p h).slots) ∙ x.bit;
      })

  -- so where there is lack room even then, there is none before
  no_before : (n : ℕ) → NoRoom c p (swept c p).bits n → NoRoom c p p.bits n
  no_before n (no_slot b l f none gap) = no_slot b l f none (gap_left (pages b) gap)
  no_before n (no_run k l m f gap) = no_run k l m f (gap_left k gap)

  no_after : (n : ℕ) → NoRoom c p (swept c p).bits n → NoRoom c (swept c p) (swept c p).bits n
  no_after n (no_slot b l f none gap) = no_slot b l f (slot_left b none) gap
  no_after n (no_run k l m f gap) = no_run k l m f gap

  -- and the other way
  no_both : (n : ℕ) → NoRoom c p p.bits n → NoRoom c (swept c p) (swept c p).bits n → NoRoom c p (swept c p).bits n
  no_both n (no_slot b l f none gap) (no_slot a k e other hole) =
      no_slot b l f none (subst (λ (d : ℕ). NoGap c (swept c p).bits (pages d)) (smallest_once n a b e f) hole)
  no_both n (no_slot b l f none gap) (no_run k m u v hole) = absurd (omega arith)
  no_both n (no_run k l m f gap) (no_slot a j e other hole) = absurd (omega arith)
  no_both n (no_run k l m f gap) (no_run j u v w hole) =
      no_run k l m f (subst (NoGap c (swept c p).bits) (fewest_once n j u w ∙ sym (fewest_once n k l f)) hole)

  module _ (n : ℕ) where
    -- what a rule says is what is answered and left, with the swept pool by its name
    by_at_once : {x : Left Reserved Pool} → Places c p n x → reserve_of c p n ≡ x
    by_at_once r =
        let (x, y) = places_plan c p n h r in
        reserve_by c p h n (sym (room_here c p h n x (sym y.is) y.roomy)) y.is ∙ y.comes

    by_sweep : {x : Left Reserved Pool} → NoRoom c p p.bits n → Places c (swept c p) n x → reserve_of c p n ≡ x
    by_sweep lack r =
        let (x, y) = places_plan c (swept c p) n (sweeps c p h).stays.good r in
        reserve_by c p h n (ready_after c p n (no_plan c p n lack) y.is y.roomy) y.is ∙ y.comes

    by_no_room : NoRoom c p (swept c p).bits n → reserve_of c p n ≡ leaves (refused no_room) p
    by_no_room lack =
        reserve_by c p h n (ready_full c p n (no_plan c (swept c p) n (no_after n lack))) (no_plan c p n (no_before n lack))

    by_too_big : 2093056 < n → reserve_of c p n ≡ leaves (refused too_big) p
    by_too_big m =
        reserve_by c p h n (sym (room_here c p h n (Refuse too_big) (sym (big_plan c p n m)) (ne_eqb too_big no_room (omega arith)))) (big_plan c p n m)

    left_is : (sweep_of c p).left ≡ swept c p
    left_is = ap (λ (x : Left Swept Pool). x.left) (sweep_by c p h)

    pub by_rule : {x : Left Reserved Pool} → Reserves c p n x → reserve_of c p n ≡ x
    by_rule (at_once r) = by_at_once r
    by_rule (sweep_first {x} lack r) = by_sweep lack (subst (λ (q : Pool). Places c q n x) left_is r)
    by_rule (finds_no_room lack) = by_no_room (subst (λ (q : Pool). NoRoom c p q.bits n) left_is lack)
    by_rule (size_too_big m) = by_too_big m

    -- and there is a rule for each size
    ruled : {x : Left Reserved Pool} → Reserves c p n x → Reserves c p n (reserve_of c p n)
    ruled r = subst (Reserves c p n) (sym (by_rule r)) r

    pub rule : Reserves c p n (reserve_of c p n)
    rule =
        by_cases (dec_lt 2093056 n) (λ m. ruled (size_too_big m))
        (λ m. ⊎_elim (λ r. ruled (at_once r.1))
        (λ lack. ⊎_elim (λ r. ruled (sweep_first lack (subst (λ (q : Pool). Places c q n r.0) (sym left_is) r.1)))
        (λ none. ruled (finds_no_room (subst (λ (q : Pool). NoRoom c p q.bits n) (sym left_is) (no_both n lack none))))
        (placed c (swept c p) n (sweeps c p h).stays.good (omega arith))) (placed c p n h (omega arith)))

-- what is served holds the request
place_holds : {c : ℕ} {p : Pool} {n : ℕ} {x : Left Reserved Pool} → Places c p n x → n ≤ x.answer.size
place_holds (lowest_slot b g s l f low) = f.holds
place_holds (new_run b g l f none place) = f.holds
place_holds (large_run k g l m f place) = f.holds

pub size_holds : {c : ℕ} {p : Pool} {n : ℕ} {x : Left Reserved Pool} → Reserves c p n x → x.answer.refusal ≡ 0 → n ≤ x.answer.size
size_holds (at_once r) e = place_holds r
size_holds (sweep_first lack r) e = place_holds r
size_holds (finds_no_room lack) e = absurd (omega arith)
size_holds (size_too_big m) e = absurd (omega arith)

pub place_served : {c : ℕ} {p : Pool} {n : ℕ} {x : Left Reserved Pool} → Places c p n x → x.answer.refusal ≡ 0
place_served (lowest_slot b g s l f low) = refl
place_served (new_run b g l f none place) = refl
place_served (large_run k g l m f place) = refl

-- where a gap holds the pages that it takes, the request is served
gap_room : {c : ℕ} {p : Pool} {bits : List ℕ} {n : ℕ} (m : ℕ) → Takes n m → (i : ℕ) → i < c → (z : Gap) → IsGap bits i z → m ≤ z.len
    → NoRoom c p bits n → ⊥
gap_room m (class_pages a d e) i l z is h (no_slot b k f none gap) =
    let same = ap pages (smallest_once _ a b e f) in omega (arith, gap i l z is)
gap_room m (large_pages a d e f) i l z is h (no_slot b k u none gap) = omega arith
gap_room m (class_pages a d e) i l z is h (no_run k f u v gap) = omega arith
gap_room m (large_pages a d e f) i l z is h (no_run k j u v gap) =
    let same = fewest_once _ a d f in let other = fewest_once _ k d v in omega (arith, gap i l z is)

takes_most : {n m : ℕ} → Takes n m → n ≤ 2093056
takes_most (class_pages b l f) = omega arith
takes_most (large_pages k l m f) = m

pub gap_serves : (c : ℕ) (p : Pool) → Good c p → {n : ℕ} (m : ℕ) → Takes n m → (i : ℕ) → i < c → (z : Gap) → IsGap p.bits i z → m ≤ z.len
    → (reserve_of c p n).answer.refusal ≡ 0
gap_serves c p h {n} m t i l z is k = go (rule c p h n)
  where
    go : {x : Left Reserved Pool} → Reserves c p n x → x.answer.refusal ≡ 0
    go (at_once r) = place_served r
    go (sweep_first lack r) = place_served r
    go (finds_no_room lack) =
        absurd (gap_room m t i l z is k (no_before c p h n (subst (λ (q : Pool). NoRoom c p q.bits n) (left_is c p h n) lack)))
    go (size_too_big j) = absurd (omega (arith, takes_most t))

-- where a slot of the class is free, the request is served there or lower
pub slot_serves : (c : ℕ) (p : Pool) → Good c p → {n : ℕ} (g b s : ℕ) → IsSlot c p g b s false → Smallest n b → {x : Left Reserved Pool} → Reserves c p n x
    → (x.answer.refusal ≡ 0) × (x.answer.place ≤ (slot_block g b s).place)
slot_serves c p h {n} g b s i f r =
    go r (row_facts b f.class).size_most f.holds
  where
    same : (a : ℕ) → Smallest n a → IsSlot c p g a s false
    same a d = subst (λ (k : ℕ). IsSlot c p g k s false) (smallest_once n b a f d) i

    taken : {bits : List ℕ} → n ≤ 3072 → NoRoom c p bits n → ⊥
    taken l (no_slot a k d none gap) = none g s (same a d)
    taken l (no_run k j m d gap) = omega arith

    place : {y : Left Reserved Pool} → n ≤ 3072 → Places c p n y → (y.answer.refusal ≡ 0) × (y.answer.place ≤ (slot_block g b s).place)
    place k (lowest_slot a u v l d low) =
        (refl, subst (λ (j : ℕ). (slot_block u a v).place ≤ (slot_block g j s).place) (smallest_once n a b d f) (low.lowest g s (same a d)))
    place k (new_run a u l d none at) = absurd (none g s (same a d))
    place k (large_run j u l t d at) = absurd (omega arith)

    go : {y : Left Reserved Pool} → Reserves c p n y → size b ≤ 3072 → n ≤ size b
        → (y.answer.refusal ≡ 0) × (y.answer.place ≤ (slot_block g b s).place)
    go (at_once q) m k = place (omega arith) q
    go (sweep_first lack q) m k = absurd (taken (omega arith) lack)
    go (finds_no_room lack) m k = absurd (taken (omega arith) lack)
    go (size_too_big t) m k = absurd (omega arith)

-- where there is room at once, each taken page stays what it is
pub page_stays : (c : ℕ) (p : Pool) → Good c p → (n : ℕ) → (NoRoom c p p.bits n → ⊥) → (i : ℕ) → kind_at p i ≢ Free
    → kind_at (reserve_of c p n).left i ≡ kind_at p i
page_stays c p h n room i taken = go (rule c p h n) refl
  where
    go : {x : Left Reserved Pool} → Reserves c p n x → reserve_of c p n ≡ x → kind_at x.left i ≡ kind_at p i
    go (at_once r) e =
        let (x, y) = places_plan c p n h r in
        ap (λ (z : Left Reserved Pool). kind_at z.left i) (sym y.comes)
        ∙ perform_kinds c p h x (subst (PlanOk c p) y.is (plans.plan_ok c p h.whole n)) i taken
    go (sweep_first lack r) e = absurd (room lack)
    go (finds_no_room lack) e = refl
    go (size_too_big m) e = refl
