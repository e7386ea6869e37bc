-- A reserve by marks is the reserve, told by a number. Assumes nothing.
use mathlib.Core.Path.{◌≡◌, refl, sym, ap, ap₂, ◌∙◌, subst, subst⁻¹}
use mathlib.Core.Logic.{◌≢◌}
use mathlib.Core.Bool.{Bool, true, false, cond, false≢true}
use mathlib.Core.List.{List}
use Prim.Native.Nat.{ℕ, ◌-◌, ◌*◌, ◌≤◌, ◌<◌}
use native.Mathlib.Omega.{arith}
use lib.ListN.{length}
use borrow.Author.Tests.{eqb-true}
use Rattle.std.specs.Prelude.{Option, Some, None}
use Rattle.refusals.specs.Refusals.{no_room}
use Rattle.classes.specs.Classes.{pages, class_for}
use Rattle.classes.proofs.ClassLaws.{any_row}
use Rattle.records.specs.declared.Kind.TheVariants.{Large, Class}
use Rattle.records.specs.Kinds.{behind, words_of}
use Rattle.records.specs.Pool.{Pool, kind_at}
use Rattle.records.specs.Calls.{admit_of, Left, leaves}
use Rattle.records.proofs.Flags.{lt_cases}
use Rattle.records.proofs.AdmitLaws.{admitted}
use Rattle.records.proofs.RunLaws.{Mid, mid_off}
use Rattle.std.specs.Prelude.{Option, Some, None}
use Rattle.gaps.specs.Gaps.{find_pages}
use Rattle.blocks.specs.Stores.{put_run, LargeRoom, Good}
use Rattle.blocks.proofs.StoreLaws.{free_off}
use Rattle.blocks.proofs.KeepLaws.{admit_good, good_admit, put_slot_lem, put_class, put_large}
use Rattle.reserve.specs.declared.Plan.{Plan}
use Rattle.reserve.specs.declared.Plan.TheVariants.{Refuse, TakeSlot, NewClass, NewLarge}
use Rattle.reserve.specs.Reserve.{lowest_free, slot_page, plan_class, plan_run, pages_for, plan, is_full, ready, perform}
use Rattle.reserve.specs.Plans.{PlanOk, PlanLow}
use Rattle.reserve.proofs.PlanLaws.{class_ok, plan_in, plan_new, class_at, class_none, run_at, run_none, plan_small, plan_large_lem, large_run, large_huge}
use Rattle.reserve.proofs.StoreForms.{large_room, ok_as}
use Rattle.reserve.proofs.AnswerForms.{plan_good, plan_low}
use Rattle.reserve.proofs.ReadyLaws.{room_here, ready_admit, ready_plan}
use Rattle.sweep.specs.Sweep.{swept}
use Rattle.hints.specs.Hints.{Cuts, Marks, SameBut, Noted, taking}
use Rattle.marked.specs.Marked.{code_of, carried, coded, SameRuns}
use Rattle.marked.proofs.MarkLaws.{same_self, large_same, class_but}

-- ---- a plan is carried out

-- sound records stay sound
performed_sound : (c : ℕ) (p : Pool) → admit_of c p ≡ 0 → (x : Plan) → PlanOk c p x → {q : Pool} → q ≡ perform p x → admit_of c q ≡ 0
unfolding behind
performed_sound c p ok x k e = ap (admit_of c) e ∙ good_admit c (perform p x) (go x k)
  where
    h : Good c p
    h = admit_good c p ok

    go : (y : Plan) → PlanOk c p y → Good c (perform p y)
    go (Refuse r) k = h
    go (TakeSlot g b s) k = (put_slot_lem c p h g b s k).good
    go (NewClass g b) (l, k) =
        let i = k.inside in let n = k.some in (put_class c p h g b l (omega arith) (λ j x y. k.clear j x (omega arith))).good
    go (NewLarge g n) k = let t = k.few in (put_large c p h g n (omega arith) k.inside k.clear).good

-- nothing is given at page 0
abbrev pub Placed : Plan → Type 0
Placed (Refuse r) = Unit {0}
Placed (TakeSlot g b s) = (1 ≤ g) × (s < 512)
Placed (NewClass g b) = 1 ≤ g
Placed (NewLarge g k) = 1 ≤ g

pub placed : (c : ℕ) (p : Pool) (x : Plan) → PlanOk c p x → Placed x
placed c p (Refuse r) k = tt
placed c p (TakeSlot g b s) k =
    let o = mid_off p g (subst⁻¹ Mid k.kind tt) in let t = k.slot in let m = (any_row b).slots_most in (omega arith, omega arith)
placed c p (NewClass g b) (l, k) = let m = k.some in let o = free_off p g (k.clear g (omega arith) (omega arith)) in omega arith
placed c p (NewLarge g n) k = let o = free_off p g (k.clear g (omega arith) (omega arith)) in omega arith

-- so what is told as a refusal is one
code_refuses : (x : Plan) → Placed x → code_of x ≡ 4 → x ≡ Refuse no_room
code_refuses (Refuse r) k e = ap Refuse e
code_refuses (TakeSlot g b s) (k, _) e = absurd (omega arith)
code_refuses (NewClass g b) k e = absurd (omega arith)
code_refuses (NewLarge g n) k e = absurd (omega arith)

-- ---- more bytes than a slot holds

module _ (c : ℕ) (p : Pool) (ok : admit_of c p ≡ 0) (n : ℕ) (l : 3072 < n) where
  -- what is told by w and leaves q
  abbrev Ran : ℕ → Pool → Type 0
  Ran w q = (leaves w q ≡ carried p (plan c p n)) × SameRuns p q

  refused : (r : ℕ) → Refuse r ≡ plan c p n → Ran r p
  refused r e = (ap (carried p) e, same_self)

  pub run_huge : 2093056 < n → Ran 3 p
  run_huge m = refused 3 (plan_large_lem c p n _ l (large_huge c p.bits n m))

  module _ (m : ℕ) (few : n ≤ 2093056) (e : m ≡ pages_for n) {x : Option ℕ} (f : x ≡ find_pages c p.bits m) where
    planned : {y : Plan} → y ≡ plan_run c p.bits m → y ≡ plan c p n
    planned {y} g = plan_large_lem c p n y l (large_run c p.bits n m y few e g)

    pub run_nowhere : x ≡ None → Ran 4 p
    run_nowhere z = refused 4 (planned (run_none c p.bits m x f z))

    module _ (g : ℕ) (z : x ≡ Some g) where
      run_ok : PlanOk c p (NewLarge g (m - 1))
      run_ok = plan_good c p n _ (planned (run_at c p.bits m x f g z)) ok

      pub run_room : LargeRoom g (m - 1) p.bits p.words
      run_room = large_room (admitted c p ok).shape run_ok

      pub run_put : {w : ℕ} {q : Pool} → w ≡ 512 * g → q ≡ put_run 1 p g (words_of (Large (m - 1))) → Ran w q
      run_put a b = (
        ap₂ (λ (i : ℕ) (u : Pool). leaves i u) a b ∙ ap (carried p) (planned (run_at c p.bits m x f g z)),
        subst⁻¹ (SameRuns p) b (large_same c p (admit_good c p ok) g (m - 1) run_ok),
      )

-- ---- a new run of a class

module _ (c : ℕ) (p : Pool) (ok : admit_of c p ≡ 0) (b n : ℕ) (l : b < 30) (m : n ≡ pages b) {x : Option ℕ} (f : x ≡ find_pages c p.bits n) where
  pub class_nowhere : x ≡ None → leaves 4 p ≡ carried p (plan_class c p.bits b)
  class_nowhere z = ap (carried p) (class_none c p.bits b n x m f z)

  module _ (g : ℕ) (z : x ≡ Some g) where
    planned_class : NewClass g b ≡ plan_class c p.bits b
    planned_class = class_at c p.bits b n x m f g z

    pub class_room : PlanOk c p (NewClass g b)
    class_room = ok_as c p (sym planned_class) (class_ok c p (admitted c p ok).whole b l)

    pub class_page : g < 8192
    class_page = let s = (admitted c p ok).shape in let i = class_room.1.inside in let k = class_room.1.some in omega arith

    module _ {q : Pool} (e : q ≡ perform p (NewClass g b)) {rows opens : List ℕ} (h : Marks (512 * c) p rows opens) where
      but : SameBut (512 * c) p (512 * c) q b g
      but = subst⁻¹ (λ (r : Pool). SameBut (512 * c) p (512 * c) r b g) e (class_but c p (admit_good c p ok) g b class_room)

      -- the run is there to be looked at
      pub class_note : (admit_of c q ≡ 0) × ((Cuts rows × (length opens ≡ 8192)) × ((kind_at q g ≡ Class b) × (g < 512 * c)))
      class_note = (performed_sound c p ok (NewClass g b) class_room e, ((h.cuts, h.wide), (but.here, but.inside)))

      pub class_noted : {w : ℕ} {rows' opens' : List ℕ} → w ≡ 512 * g → Noted q b g rows opens rows' opens'
          → (leaves w q ≡ carried p (plan_class c p.bits b)) × Marks (512 * c) q rows' opens'
      class_noted a k = (ap₂ (λ (i : ℕ) (r : Pool). leaves i r) a e ∙ ap (carried p) planned_class, k (512 * c) p (512 * c) h but)

-- ---- a slot

module _ (c : ℕ) (p : Pool) (n b : ℕ) (l : n ≤ 3072) (e : b ≡ class_for n) where
  -- taken, or none is free
  abbrev TakenAs : Option ℕ → Pool → Type 0
  TakenAs (Some t) q = leaves t q ≡ carried p (plan c p n)
  TakenAs None q = (q ≡ p) × (plan_class c p.bits b ≡ plan c p n)

  abbrev Taken : Left (Option ℕ) Pool → Type 0
  Taken x = TakenAs x.answer x.left

  taken : Taken (taking c p b)
  unfolding taking
  taken =
      let g : ℕ = slot_page p b 0 (512 * c) in
      lt_cases Taken g (512 * c)
      (λ m.
      ap (carried p) (plan_small c p n b _ l e (plan_in c p b g (lowest_free p.slots b g) refl m refl)))
      (λ m. (refl, plan_small c p n b _ l e (plan_new c p b g _ refl m refl)))

  taken_as : {o x : Option ℕ} {q : Pool} → leaves o q ≡ taking c p b → o ≡ x → TakenAs x q
  taken_as {q = q} g z = subst (λ (y : Option ℕ). TakenAs y q) z (subst⁻¹ Taken g taken)

  pub slot_taken : {o : Option ℕ} {t : ℕ} {q : Pool} → leaves o q ≡ taking c p b → o ≡ Some t → leaves t q ≡ carried p (plan c p n)
  slot_taken g z = taken_as g z

  module _ {o : Option ℕ} {q : Pool} (g : leaves o q ≡ taking c p b) (z : o ≡ None) where
    pub none_taken : q ≡ p
    none_taken = (taken_as g z).0

    pub class_taken : {y : Left ℕ Pool} → y ≡ carried q (plan_class c q.bits b) → y ≡ carried p (plan c p n)
    class_taken f =
        f ∙ ap (λ (u : Pool). carried u (plan_class c u.bits b)) none_taken
        ∙ ap (carried p) (taken_as g z).1

-- ---- behind a sweep where that is needed

full_code : (x : Plan) → is_full x ≡ true → code_of x ≡ 4
full_code (Refuse r) e = eqb-true r no_room e
full_code (TakeSlot g b s) e = absurd (false≢true e)
full_code (NewClass g b) e = absurd (false≢true e)
full_code (NewLarge g k) e = absurd (false≢true e)

full_kept : (p : Pool) (x : Plan) → is_full x ≡ true → perform p x ≡ p
full_kept p (Refuse r) e = refl
full_kept p (TakeSlot g b s) e = absurd (false≢true e)
full_kept p (NewClass g b) e = absurd (false≢true e)
full_kept p (NewLarge g k) e = absurd (false≢true e)

module _ (c : ℕ) (p : Pool) (ok : admit_of c p ≡ 0) (n : ℕ) where
  -- where there is room at once
  pub coded_now : {w : ℕ} {q : Pool} → leaves w q ≡ carried p (plan c p n) → w ≢ 4 → leaves w q ≡ coded c p n
  unfolding coded
  coded_now {w} {q} g z = go (is_full (plan c p n)) refl
    where
      go : (v : Bool) → is_full (plan c p n) ≡ v → leaves w q ≡ carried (ready c p n) (plan c (ready c p n) n)
      go true t = absurd (z (ap (λ (x : Left ℕ Pool). x.answer) g ∙ full_code (plan c p n) t))
      go false t = g ∙ ap (λ (u : Pool). carried u (plan c u n)) (room_here c p (admit_good c p ok) n (plan c p n) refl t)

  -- where there is none nothing has changed
  module _ {w : ℕ} {q : Pool} (g : leaves w q ≡ carried p (plan c p n)) (z : w ≡ 4) where
    full : plan c p n ≡ Refuse no_room
    full = code_refuses (plan c p n) (placed c p (plan c p n) (plan_good c p n _ refl ok)) (ap (λ (x : Left ℕ Pool). x.answer) (sym g) ∙ z)

    same : q ≡ p
    same = ap (λ (x : Left ℕ Pool). x.left) g ∙ ap (perform p) full

    pub full_now : (admit_of c q ≡ 0) × (plan c q n ≡ Refuse no_room)
    full_now = (ap (admit_of c) same ∙ ok, ap (λ (u : Pool). plan c u n) same ∙ full)

    pub coded_later : {y : Left ℕ Pool} → y ≡ coded c q n → y ≡ coded c p n
    coded_later f = f ∙ ap (λ (u : Pool). coded c u n) same

  -- on the pool that was made ready
  module _ {q : Pool} (r : q ≡ ready c p n) {x : Plan} (e : x ≡ plan c (ready c p n) n) where
    pub ready_ok : (admit_of c q ≡ 0) × PlanOk c q x
    ready_ok =
        let h = admit_good c p ok in let a = ready_admit c p h n q r in (a, plan_good c q n x (ready_plan c p h n q r e) a)

    pub ready_low : PlanLow x
    ready_low = plan_low c q n x (ready_plan c p (admit_good c p ok) n q r e) ready_ok.0

    pub ready_sound : {u : Pool} → u ≡ perform q x → admit_of c u ≡ 0
    ready_sound f = performed_sound c q ready_ok.0 x ready_ok.1 f

    pub coded_ready : {u : Pool} {w : ℕ} → u ≡ perform q x → w ≡ code_of x → leaves w u ≡ coded c p n
    unfolding coded
    coded_ready f g = ap₂ (λ (i : ℕ) (y : Pool). leaves i y) g f ∙ ap₂ carried r e

  -- where there is no room it is as it was
  full_stays : is_full (plan c (ready c p n) n) ≡ true → ready c p n ≡ p
  unfolding ready
  full_stays = go (is_full (plan c p n)) (is_full (plan c (swept c p) n)) refl refl
    where
      go : (v w : Bool) → is_full (plan c p n) ≡ v → is_full (plan c (swept c p) n) ≡ w
          → is_full (plan c (cond v (cond w p (swept c p)) p) n) ≡ true → cond v (cond w p (swept c p)) p ≡ p
      go false w a b t = refl
      go true true a b t = refl
      go true false a b t = absurd (false≢true (sym b ∙ t))

  pub coded_full : {q : Pool} {x : Plan} {rows opens : List ℕ} → Marks (512 * c) p rows opens → q ≡ ready c p n → x ≡ plan c (ready c p n) n
      → is_full x ≡ true → (leaves 4 q ≡ coded c p n) × Marks (512 * c) q rows opens
  unfolding coded
  coded_full {q} {x} {rows} {opens} m r e f =
      let stay = full_stays (ap is_full (sym e) ∙ f) in (
        ap₂ (λ (i : ℕ) (u : Pool). leaves i u) (sym (full_code x f) ∙ ap code_of e)
            (r ∙ sym (full_kept (ready c p n) x f) ∙ ap (perform (ready c p n)) e),
        subst⁻¹ (λ (u : Pool). Marks (512 * c) u rows opens) (r ∙ stay) m,
      )
