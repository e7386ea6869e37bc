-- What a reserve does to sound records, and which slot or pages it finds. Assumes nothing.
use mathlib.Core.Path.{◌≡◌, refl, sym, ap, ap₂, ◌∙◌, subst}
use mathlib.Core.Logic.{◌≢◌, inl, inr, by_cases}
use mathlib.Core.Bool.{Bool, true, false, false≢true}
use mathlib.Core.List.{List}
use Prim.Native.Nat.{ℕ, suc, ◌+◌, ◌-◌, ◌*◌, ◌/◌, ◌≤◌, ◌<◌}
use native.Mathlib.Decide.{ℕ_discrete, dec_lt}
use native.Mathlib.Nat.{mul-le-mul_right, mul-div_left}
use native.Mathlib.Omega.{arith}
use lib.Dec.{ltb}
use lib.ListN.{length}
use borrow.Author.Tests.{eq-eqb, lt-ltb}
use Rattle.bitrow.specs.Row.{bit_at, is_set}
use Rattle.classes.specs.Classes.{size, slots, pages}
use Rattle.classes.proofs.ClassLaws.{any_row, row_facts}
use Rattle.records.specs.declared.Kind.TheVariants.{Free, Large, Class}
use Rattle.records.specs.Kinds.{behind, words_of, is_run_of, span_of}
use Rattle.records.specs.Pool.{Pool, kind_at, slot_at}
use Rattle.records.specs.Calls.{leaves}
use Rattle.records.specs.Runs.{InRun}
use Rattle.records.proofs.Flags.{and_made}
use Rattle.records.proofs.KindLaws.{length_zeros}
use Rattle.records.proofs.RunLaws.{sound_runs}
use Rattle.records.proofs.AdmitLaws.{shaped_lengths}
use Rattle.blocks.specs.Blocks.{block, slot_block, IsSlot}
use Rattle.blocks.specs.Stores.{put_run, Good, Gains}
use Rattle.blocks.proofs.ApartLaws.{slots_fit}
use Rattle.blocks.proofs.StoreLaws.{run_out, slot_kinds}
use Rattle.blocks.proofs.StoreForms.{class_long}
use Rattle.blocks.proofs.KeepLaws.{put_large, put_slot_lem, put_class}
use Rattle.reserve.specs.declared.Plan.{Plan}
use Rattle.reserve.specs.declared.Plan.TheVariants.{Refuse, TakeSlot, NewClass, NewLarge}
use Rattle.reserve.specs.Reserve.{lowest_free, has_slot, slot_page, plan_slot, plan, perform, answer, attempt}
use Rattle.reserve.specs.Plans.{PagesFree, PlanOk}
use Rattle.reserve.proofs.PlanLaws.{free_first, searched, has_free, plan_ok, plan_in}

-- ---- what is put in

gains : (c : ℕ) (p : Pool) → Good c p → (x : Plan) → PlanOk c p x → (answer x).refusal ≡ 0
    → Gains c p (perform p x) (block (answer x).place (answer x).size)
unfolding behind
gains c p h (Refuse r) k e = absurd (omega arith)
gains c p h (TakeSlot g b s) k e = put_slot_lem c p h g b s k
gains c p h (NewClass g b) (l, k) e =
    let r = (row_facts b l).pages_least in
    let i = k.inside in
    put_class c p h g b l (omega arith) (λ j x y. k.clear j x (omega arith))
gains c p h (NewLarge g m) k e =
    let f = k.few in put_large c p h g m (omega arith) k.inside k.clear

kept : (p : Pool) (x : Plan) (r : ℕ) → (answer x).refusal ≡ suc r → leaves (answer x) (perform p x) ≡ leaves (answer (Refuse (suc r))) p
kept p (Refuse n) r e = ap (λ (k : ℕ). leaves (answer (Refuse k)) p) e
kept p (TakeSlot g b s) r e = absurd (omega arith)
kept p (NewClass g b) r e = absurd (omega arith)
kept p (NewLarge g n) r e = absurd (omega arith)

-- a try that is served puts the block that it names, and no other, into the live blocks
pub attempt_gains : (c : ℕ) (p : Pool) → Good c p → (n : ℕ) → (attempt c p n).answer.refusal ≡ 0
    → Gains c p (attempt c p n).left (block (attempt c p n).answer.place (attempt c p n).answer.size)
unfolding attempt
attempt_gains c p h n e = gains c p h (plan c p n) (plan_ok c p h.whole n) e

-- one that is refused gives and changes nothing
pub attempt_kept : (c : ℕ) (p : Pool) (n r : ℕ) → (attempt c p n).answer.refusal ≡ suc r → attempt c p n ≡ leaves (answer (Refuse (suc r))) p
unfolding attempt
attempt_kept c p n r e = kept p (plan c p n) r e

-- where free pages get a run, the taken ones stay what they are
run_kept : (c : ℕ) (p : Pool) → Good c p → (g : ℕ) (ws : List ℕ) (n : ℕ) → length ws ≡ n → PagesFree c p g n → (i : ℕ) → kind_at p i ≢ Free
    → kind_at (put_run 1 p g ws) i ≡ kind_at p i
run_kept c p h g ws n e k i t =
    let shape = shaped_lengths c _ _ _ h.shape in let z = k.inside in
    by_cases (dec_lt i g) (λ a. run_out c 1 p g ws (omega arith) shape (omega arith) i (inl a))
    (λ a. by_cases (dec_lt i (g + n)) (λ b. absurd (t (k.clear i (omega arith) b)))
    (λ b. run_out c 1 p g ws (omega arith) shape (omega arith) i (inr (omega arith))))

-- a page that is taken stays what it is
pub perform_kinds : (c : ℕ) (p : Pool) → Good c p → (x : Plan) → PlanOk c p x → (i : ℕ) → kind_at p i ≢ Free → kind_at (perform p x) i ≡ kind_at p i
perform_kinds c p h (Refuse r) k i t = refl
perform_kinds c p h (TakeSlot g b s) k i t = slot_kinds c 1 p g s i
perform_kinds c p h (NewClass g b) (l, k) i t =
    slot_kinds c 1 (put_run 1 p g (words_of (Class b))) g 0 i ∙ run_kept c p h g (words_of (Class b)) (pages b) (class_long b l) k i t
perform_kinds c p h (NewLarge g m) k i t = run_kept c p h g (words_of (Large m)) (suc m) (ap suc (length_zeros m)) k i t

-- ---- the lowest free slot

free_bit : (p : Pool) (g s : ℕ) → slot_at p g s ≡ false → bit_at p.slots (512 * g + s) ≢ 1
unfolding slot_at is_set
free_bit p g s e f = false≢true (sym e ∙ eq-eqb (bit_at p.slots (512 * g + s)) 1 f)

-- a free slot is not below the lowest one
free_above : (p : Pool) (b g s : ℕ) → s < slots b → slot_at p g s ≡ false → lowest_free p.slots b g ≤ s
free_above p b g s l e =
    by_cases (dec_lt s (lowest_free p.slots b g)) (λ h. absurd (free_bit p g s e ((free_first p.slots b g).below (512 * g + s) (omega arith) (omega arith))))
    (λ h. omega arith)

-- so a run that has one is found
pub found_run : (p : Pool) (b g s : ℕ) → kind_at p g ≡ Class b → s < slots b → slot_at p g s ≡ false → has_slot p b g ≡ true
unfolding has_slot
found_run p b g s k l e =
    let a = free_above p b g s l e in
    and_made (is_run_of b (kind_at p g)) (ltb (lowest_free p.slots b g) (slots b)) (ap (is_run_of b) k ∙ eq-eqb b b refl)
    (lt-ltb (lowest_free p.slots b g) (slots b) (omega arith))

-- the first page at which a run of class b with a free slot starts
abbrev pub first_run : ℕ → Pool → ℕ → ℕ
first_run c p b = slot_page p b 0 (512 * c)

module _ (c : ℕ) (p : Pool) (b : ℕ) where
  -- where there is one, its lowest free slot is free
  pub first_free : first_run c p b < 512 * c → IsSlot c p (first_run c p b) b (lowest_free p.slots b (first_run c p b)) false
  first_free l = has_free c p b (first_run c p b) l ((searched p b (512 * c) 0).here (omega arith))

  -- no free slot lies in a run before it
  pub first_before : (f t : ℕ) → IsSlot c p f b t false → first_run c p b ≤ f
  first_before f t x =
      by_cases (dec_lt f (first_run c p b))
      (λ q. absurd (false≢true (sym ((searched p b (512 * c) 0).before f (omega arith) q) ∙ found_run p b f t x.kind x.slot x.bit)))
      (λ q. omega arith)

  -- where no slot is free there is no such run
  pub first_none : ((g s : ℕ) → IsSlot c p g b s false → ⊥) → 512 * c ≤ first_run c p b
  first_none n = by_cases (dec_lt (first_run c p b) (512 * c)) (λ l. absurd (n _ _ (first_free l))) (λ l. omega arith)

  module _ (h : Good c p) where
    -- the page of a slot's place is one of its run
    slot_page_lem : (g s : ℕ) (v : Bool) → IsSlot c p g b s v → InRun p g ((slot_block g b s).place / 4096)
    unfolding behind
    slot_page_lem g s v x =
        let span : span_of (kind_at p g) ≡ suc (pages b - 1) = ap span_of x.kind in
        let fit = (any_row b).fit in let some = (any_row b).size_some s x.slot in
        let m = mul-le-mul_right {m = suc s} {n = slots b} (size b) x.slot in
        record { low = omega arith; high = omega arith }

    -- slots of a class that have one place are one
    slot_once : (g s f t : ℕ) (v w : Bool) → IsSlot c p g b s v → IsSlot c p f b t w → (slot_block g b s).place ≡ (slot_block f b t).place
        → (g ≡ f) × (s ≡ t)
    slot_once g s f t v w x y e =
        let same : g ≡ f =
        (sound_runs c p h.whole).apart g f ((slot_block f b t).place / 4096) x.inside y.inside
        (subst (λ (q : ℕ). InRun p g (q / 4096)) e (slot_page_lem g s v x)) (slot_page_lem f t w y) in
        let z = (any_row b).size_some s x.slot in
        let m : s * size b ≡ t * size b = omega arith in
        (same, sym (mul-div_left s z) ∙ ap (λ (i : ℕ). i / size b) m ∙ mul-div_left t z)

    -- no free slot has a lower place than the one that is planned
    pub first_lowest : first_run c p b < 512 * c → (f t : ℕ) → IsSlot c p f b t false
        → (slot_block (first_run c p b) b (lowest_free p.slots b (first_run c p b))).place ≤ (slot_block f b t).place
    first_lowest l f t x =
        by_cases (ℕ_discrete f (first_run c p b)) (λ e. same e (free_above p b f t x.slot x.bit))
        (λ e. apart e (first_before f t x) (first_free l).slot)
      where
        -- in the same run
        same : f ≡ first_run c p b → lowest_free p.slots b f ≤ t
            → 4096 * first_run c p b + lowest_free p.slots b (first_run c p b) * size b ≤ 4096 * f + t * size b
        same e a =
            let r : lowest_free p.slots b f ≡ lowest_free p.slots b (first_run c p b) = ap (lowest_free p.slots b) e in
            let m = mul-le-mul_right {m = lowest_free p.slots b (first_run c p b)} {n = t} (size b) (omega arith) in omega arith

        -- in a run behind it
        apart : f ≢ first_run c p b → first_run c p b ≤ f → lowest_free p.slots b (first_run c p b) < slots b
            → 4096 * first_run c p b + lowest_free p.slots b (first_run c p b) * size b ≤ 4096 * f + t * size b
        apart e low n =
            let span : span_of (kind_at p (first_run c p b)) ≡ suc (behind b) = ap span_of (first_free l).kind in
            let spanf : span_of (kind_at p f) ≡ suc (behind b) = ap span_of x.kind in
            let fit = slots_fit b in
            let m = mul-le-mul_right {m = lowest_free p.slots b (first_run c p b)} {n = slots b} (size b) (omega arith) in
            let behind_run : first_run c p b + suc (behind b) ≤ f =
            by_cases (dec_lt f (first_run c p b + suc (behind b)))
            (λ u. absurd (e (sym ((sound_runs c p h.whole).apart (first_run c p b) f f l x.inside (record { low = omega arith; high = omega arith })
            (record { low = omega arith; high = omega arith }))))) (λ u. omega arith) in
            omega arith

    -- so the free slot with the lowest place is planned
    pub lowest_planned : (g s : ℕ) → IsSlot c p g b s false
        → ((f t : ℕ) → IsSlot c p f b t false → (slot_block g b s).place ≤ (slot_block f b t).place) → plan_slot c p b ≡ TakeSlot g b s
    lowest_planned g s x low =
        let l : first_run c p b < 512 * c = omega (arith, first_before g s x, x.inside) in
        let (e, f) =
        slot_once (first_run c p b) (lowest_free p.slots b (first_run c p b)) g s false false (first_free l) x
        (omega (arith, first_lowest l g s x, low _ _ (first_free l))) in
        sym (plan_in c p b _ _ refl l refl) ∙ ap₂ (λ (i j : ℕ). TakeSlot i b j) e f
