-- Where a reserve finds no room: the plan without the empty runs, and the pool in which it is performed. Assumes nothing.
use mathlib.Core.Path.{◌≡◌, refl, sym, ap, ◌∙◌, subst}
use mathlib.Core.Logic.{◌⊎◌, inl, inr, ⊎_elim, by_cases}
use mathlib.Core.Bool.{Bool, true, false, cond, false≢true}
use mathlib.Core.List.{List}
use Prim.Native.Nat.{ℕ, zero, suc, ◌+◌, ◌-◌, ◌*◌, ◌≤◌, ◌<◌}
use native.Mathlib.Decide.{dec_le}
use native.Mathlib.Omega.{arith}
use borrow.Author.Tests.{eqb-true, eq-eqb, ne_eqb}
use Rattle.refusals.specs.Refusals.{no_room, too_big}
use Rattle.bitrow.specs.Row.{bit_at, is_set}
use Rattle.classes.specs.Classes.{pages, class_for}
use Rattle.records.specs.Pool.{Pool, slot_at}
use Rattle.records.specs.Calls.{admit_of, Left, leaves}
use Rattle.records.proofs.Flags.{cond_le, cond_nle, lt_cases, le_cases}
use Rattle.std.specs.Prelude.{Option, Some, None}
use Rattle.gaps.specs.Gaps.{find_pages}
use Rattle.gaps.proofs.Answers.{find_same}
use Rattle.blocks.specs.Blocks.{Block, block, live, Ins}
use Rattle.blocks.specs.Stores.{Good, Gains, Stays}
use Rattle.blocks.proofs.KeepLaws.{good_admit}
use Rattle.sweep.specs.Sweep.{swept}
use Rattle.sweep.specs.Found.{Spare}
use Rattle.sweep.proofs.SweepLaws.{sweeps}
use Rattle.sweep.proofs.FoundLaws.{swept_class}
use Rattle.sweep.proofs.SpareLaws.{spare_bit}
use Rattle.reserve.specs.declared.Plan.{Plan}
use Rattle.reserve.specs.declared.Plan.TheVariants.{Refuse, TakeSlot, NewClass, NewLarge}
use Rattle.reserve.specs.declared.Reserved.{Reserved}
use Rattle.reserve.specs.Reserve.{lowest_free, has_slot, slot_page, if_found, plan_class, slot_or_run, plan_slot, plan_run, pages_for, plan_large, plan, is_full, ready, perform, answer, attempt, serve, reserve_of}
use Rattle.reserve.specs.Plans.{plan_pages}
use Rattle.reserve.proofs.PlanLaws.{searched, has_free, plan_in, plan_new, plan_small, plan_large_lem, large_huge}
use Rattle.reserve.proofs.AnswerForms.{reserve_served}
use Rattle.reserve.proofs.MeanLaws.{attempt_gains, attempt_kept, found_run}

-- ---- new pages, by rows with the same bits

module _ (c : ℕ) (l l' : List ℕ) (h : (i : ℕ) → i < 512 * c → bit_at l i ≡ bit_at l' i) where
  class_same : (b : ℕ) → plan_class c l b ≡ plan_class c l' b
  unfolding plan_class
  class_same b = ap (λ (x : Option ℕ). if_found x (λ g. NewClass g b)) (find_same l l' c (pages b) h)

  large_same : (n : ℕ) → plan_large c l n ≡ plan_large c l' n
  unfolding plan_large plan_run
  large_same n = rw (find_same l l' c (pages_for n) h) refl

  pages_same : (n : ℕ) → plan_pages c l n ≡ plan_pages c l' n
  unfolding plan_pages
  pages_same n = rw (class_same (class_for n), large_same n) refl

-- ---- a pool without room has no free slot of the class, and has none when it is swept

module _ (c : ℕ) (p : Pool) (h : Good c p) where
  -- a run with a free slot that a sweep leaves was there before
  pub has_left : (b g : ℕ) → g < 512 * c → has_slot (swept c p) b g ≡ true → has_slot p b g ≡ true
  unfolding slot_at
  has_left b g l e =
      let s = has_free c (swept c p) b g l e in
      found_run p b g (lowest_free (swept c p).slots b g) (swept_class c p h g b l s.kind) s.slot
      (ap (λ (x : List ℕ). is_set x (512 * g + lowest_free (swept c p).slots b g)) (sym (sweeps c p h).slots) ∙ s.bit)

  none_left : (b : ℕ) → 512 * c ≤ slot_page p b 0 (512 * c) → 512 * c ≤ slot_page (swept c p) b 0 (512 * c)
  none_left b n =
      by_cases (dec_le (512 * c) (slot_page (swept c p) b 0 (512 * c))) (λ a. a)
      (λ a. absurd (false≢true (sym ((searched p b (512 * c) 0).before (slot_page (swept c p) b 0 (512 * c)) (omega arith) (omega arith))
      ∙ has_left b (slot_page (swept c p) b 0 (512 * c)) (omega arith) ((searched (swept c p) b (512 * c) 0).here (omega arith)))))

  full_none : (b : ℕ) → is_full (plan_slot c p b) ≡ true → 512 * c ≤ slot_page p b 0 (512 * c)
  full_none b e =
      by_cases (dec_le (512 * c) (slot_page p b 0 (512 * c))) (λ a. a)
      (λ a. absurd (false≢true (ap is_full (plan_in c p b _ _ refl (omega arith) refl) ∙ e)))

  -- so the second search is for pages
  swept_plan : (n : ℕ) → is_full (plan c p n) ≡ true → plan_pages c (swept c p).bits n ≡ plan c (swept c p) n
  unfolding plan_pages
  swept_plan n e = by_cases (dec_le n 3072) small large
    where
      small : n ≤ 3072 → plan_pages c (swept c p).bits n ≡ plan c (swept c p) n
      small l =
          cond_le n 3072 _ _ l
          ∙ plan_small c (swept c p) n (class_for n) _ l refl
          (plan_new c (swept c p) (class_for n) (slot_page (swept c p) (class_for n) 0 (512 * c)) _ refl
          (none_left (class_for n) (full_none (class_for n) (ap is_full (plan_small c p n (class_for n) _ l refl refl) ∙ e))) refl)

      large : ¬ (n ≤ 3072) → plan_pages c (swept c p).bits n ≡ plan c (swept c p) n
      large l = cond_nle n 3072 _ _ (omega arith) ∙ plan_large_lem c (swept c p) n _ (omega arith) refl

-- there is one plan that refuses 4
full_is : (x : Plan) → is_full x ≡ true → x ≡ Refuse no_room
full_is (Refuse r) e = ap Refuse (eqb-true r no_room e)
full_is (TakeSlot g b s) e = absurd (false≢true e)
full_is (NewClass g b) e = absurd (false≢true e)
full_is (NewLarge g k) e = absurd (false≢true e)

full_once : (x y : Plan) → is_full x ≡ true → is_full y ≡ true → x ≡ y
full_once x y e f = full_is x e ∙ sym (full_is y f)

-- ---- the pool in which n bytes are placed

-- as the code finds it: x is the plan for the pool, y the plan on the bits of the row l
module _ (c : ℕ) (p : Pool) (h : Good c p) (n : ℕ) (x : Plan) (e : x ≡ plan c p n) where
  pub room_here : is_full x ≡ false → p ≡ ready c p n
  unfolding ready
  room_here f = sym (ap (λ (v : Bool). cond v (cond (is_full (plan c (swept c p) n)) p (swept c p)) p) (ap is_full (sym e) ∙ f))

  pub plan_here : is_full x ≡ false → x ≡ plan c (ready c p n) n
  plan_here f = e ∙ ap (λ (q : Pool). plan c q n) (room_here f)

  module _ (l : List ℕ) (s : Spare c p l) (y : Plan) (f : y ≡ plan_pages c l n) (full : is_full x ≡ true) where
    pub second_plan : y ≡ plan c (swept c p) n
    second_plan = f ∙ pages_same c l (swept c p).bits (spare_bit s) n ∙ swept_plan c p h n (ap is_full (sym e) ∙ full)

    ready_by : {v : Bool} → is_full y ≡ v → ready c p n ≡ cond v p (swept c p)
    unfolding ready
    ready_by g =
        ap (λ (v : Bool). cond v (cond (is_full (plan c (swept c p) n)) p (swept c p)) p) (ap is_full (sym e) ∙ full)
        ∙ ap (λ (v : Bool). cond v p (swept c p)) (ap is_full (sym second_plan) ∙ g)

    pub room_nowhere : is_full y ≡ true → p ≡ ready c p n
    room_nowhere g = sym (ready_by g)

    pub room_swept : is_full y ≡ false → swept c p ≡ ready c p n
    room_swept g = sym (ready_by g)

    -- where that has no room either, the plan is the same: to refuse 4
    pub plan_nowhere : is_full y ≡ true → y ≡ plan c (ready c p n) n
    plan_nowhere g = full_once y x g full ∙ e ∙ ap (λ (q : Pool). plan c q n) (room_nowhere g)

    pub plan_swept : is_full y ≡ false → y ≡ plan c (ready c p n) n
    plan_swept g = second_plan ∙ ap (λ (q : Pool). plan c q n) (room_swept g)

-- by the two plans
pub ready_after : (c : ℕ) (p : Pool) (n : ℕ) {x : Plan} → plan c p n ≡ Refuse no_room → plan c (swept c p) n ≡ x → is_full x ≡ false → ready c p n ≡ swept c p
unfolding ready
ready_after c p n e f g =
    ap (λ (y : Plan). cond (is_full y) (cond (is_full (plan c (swept c p) n)) p (swept c p)) p) e
    ∙ ap (λ (v : Bool). cond v (cond (is_full (plan c (swept c p) n)) p (swept c p)) p) (eq-eqb no_room no_room refl)
    ∙ ap (λ (v : Bool). cond v p (swept c p)) (ap is_full f ∙ g)

pub ready_full : (c : ℕ) (p : Pool) (n : ℕ) → plan c (swept c p) n ≡ Refuse no_room → ready c p n ≡ p
unfolding ready
ready_full c p n f =
    ap (λ (y : Plan). cond (is_full (plan c p n)) (cond (is_full y) p (swept c p)) p) f
    ∙ ap (λ (v : Bool). cond (is_full (plan c p n)) (cond v p (swept c p)) p) (eq-eqb no_room no_room refl) ∙ go (is_full (plan c p n))
  where
    go : (v : Bool) → cond v p p ≡ p
    go true = refl
    go false = refl

-- it is as good as the pool, and has the same live blocks
pub ready_stays : (c : ℕ) (p : Pool) → Good c p → (n : ℕ) → Stays c p (ready c p n)
unfolding ready
ready_stays c p h n = go (is_full (plan c p n)) (is_full (plan c (swept c p) n))
  where
    go : (v w : Bool) → Stays c p (cond v (cond w p (swept c p)) p)
    go true true = record { good = h; same = refl }
    go true false = (sweeps c p h).stays
    go false w = record { good = h; same = refl }

-- ---- a try there is refused only where the pool has no room, swept or not, or the request is too big

module _ (c n r : ℕ) where
  abbrev Short : Plan → Type 0
  Short x = (answer x).refusal ≡ suc r → (is_full x ≡ true) ⊎ (2093056 < n)

  found_short : (x : Option ℕ) (f : ℕ → Plan) → ((g : ℕ) → (answer (f g)).refusal ≡ 0) → Short (if_found x f)
  found_short (Some g) f z e = absurd (omega (arith, z g))
  found_short None f z e = inl (eq-eqb no_room no_room refl)

  plan_short : (p : Pool) → Short (plan c p n)
  unfolding plan plan_slot slot_or_run plan_class plan_large plan_run
  plan_short p =
      le_cases Short n 3072
      (λ l. lt_cases Short (slot_page p (class_for n) 0 (512 * c)) (512 * c) (λ a e. absurd (omega arith))
      (λ a. found_short (find_pages c p.bits (pages (class_for n))) (λ g. NewClass g (class_for n)) (λ g. refl)))
      (λ l. le_cases Short n 2093056
      (λ m. found_short (find_pages c p.bits (pages_for n)) (λ g. NewLarge g (pages_for n - 1)) (λ g. refl))
      (λ m e. inr m))

big_plan : (c : ℕ) (p : Pool) (n : ℕ) → 2093056 < n → is_full (plan c p n) ≡ false
big_plan c p n l =
    ap is_full (sym (plan_large_lem c p n (Refuse too_big) (omega arith) (large_huge c p.bits n l))) ∙ ne_eqb too_big no_room (omega arith)

module _ (c : ℕ) (p : Pool) (n : ℕ) where
  -- then the pool is the one that was lent
  ready_kept : (r : ℕ) → (attempt c (ready c p n) n).answer.refusal ≡ suc r → ready c p n ≡ p
  unfolding ready attempt
  ready_kept r e = go (is_full (plan c p n)) (is_full (plan c (swept c p) n)) refl refl e
    where
      go : (v w : Bool) → is_full (plan c p n) ≡ v → is_full (plan c (swept c p) n) ≡ w
          → (answer (plan c (cond v (cond w p (swept c p)) p) n)).refusal ≡ suc r → cond v (cond w p (swept c p)) p ≡ p
      go true true a b e = refl
      go true false a b e =
          absurd (⊎_elim (λ f. false≢true (sym b ∙ f)) (λ l. false≢true (sym (big_plan c p n l) ∙ a)) (plan_short c n r (swept c p) e))
      go false w a b e = refl

  pub serve_kept : (r : ℕ) → (serve c p n).answer.refusal ≡ suc r → serve c p n ≡ leaves (answer (Refuse (suc r))) p
  unfolding serve
  serve_kept r e = attempt_kept c (ready c p n) n r e ∙ ap (leaves (answer (Refuse (suc r)))) (ready_kept r e)

-- one that is served puts the block that it names, and no other, into the live blocks
pub serve_gains : (c : ℕ) (p : Pool) → Good c p → (n : ℕ) → (serve c p n).answer.refusal ≡ 0
    → Gains c p (serve c p n).left (block (serve c p n).answer.place (serve c p n).answer.size)
unfolding serve
serve_gains c p h n e =
    let s = ready_stays c p h n in
    let g = attempt_gains c (ready c p n) s.good n e in
    let x = attempt c (ready c p n) n in
    record {
      good = g.good;
      more = subst (λ (l : List Block). Ins (block x.answer.place x.answer.size) l (live c x.left)) s.same g.more;
    }

-- ---- the call on a good pool

pub reserve_serve : (c : ℕ) (p : Pool) → Good c p → (n : ℕ) → reserve_of c p n ≡ serve c p n
reserve_serve c p h n = sym (reserve_served c p n 0 (sym (good_admit c p h)) refl refl)

-- by the pool in which the bytes are placed, and the plan there
pub reserve_by : (c : ℕ) (p : Pool) → Good c p → (n : ℕ) {q : Pool} {x : Plan} → ready c p n ≡ q → plan c q n ≡ x
    → reserve_of c p n ≡ leaves (answer x) (perform q x)
unfolding serve attempt
reserve_by c p h n {q} f e =
    reserve_serve c p h n ∙ ap (λ (r : Pool). leaves (answer (plan c r n)) (perform r (plan c r n))) f
    ∙ ap (λ (x : Plan). leaves (answer x) (perform q x)) e

-- what is served is put into the live blocks
pub reserve_gains : (c : ℕ) (p : Pool) → Good c p → (n : ℕ) → (reserve_of c p n).answer.refusal ≡ 0
    → Gains c p (reserve_of c p n).left (block (reserve_of c p n).answer.place (reserve_of c p n).answer.size)
reserve_gains c p h n e =
    let s = reserve_serve c p h n in
    subst (λ (x : Left Reserved Pool). Gains c p x.left (block x.answer.place x.answer.size)) (sym s)
    (serve_gains c p h n (ap (λ (x : Left Reserved Pool). x.answer.refusal) (sym s) ∙ e))

pub reserve_good : (c : ℕ) (p : Pool) → Good c p → (n : ℕ) → Good c (reserve_of c p n).left
reserve_good c p h n =
    subst (λ (x : Left Reserved Pool). Good c x.left) (sym (reserve_serve c p h n)) (go (serve c p n).answer.refusal refl)
  where
    go : (r : ℕ) → (serve c p n).answer.refusal ≡ r → Good c (serve c p n).left
    go zero e = (serve_gains c p h n e).good
    go (suc r) e = subst (λ (x : Left Reserved Pool). Good c x.left) (sym (serve_kept c p n r e)) h

-- as the code makes it: q is the pool that was made ready, and x the plan for it
module _ (c : ℕ) (p : Pool) (h : Good c p) (n : ℕ) (q : Pool) (r : q ≡ ready c p n) where
  pub ready_admit : admit_of c q ≡ 0
  ready_admit = ap (admit_of c) r ∙ good_admit c (ready c p n) (ready_stays c p h n).good

  pub ready_plan : {x : Plan} → x ≡ plan c (ready c p n) n → x ≡ plan c q n
  ready_plan e = e ∙ ap (λ (u : Pool). plan c u n) (sym r)

  pub ready_serve : {y : Left Reserved Pool} → y ≡ attempt c q n → y ≡ serve c p n
  unfolding serve
  ready_serve e = e ∙ ap (λ (u : Pool). attempt c u n) r
