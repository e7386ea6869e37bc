-- The answer of a reserve, and the call behind the check, as the code makes them. Assumes nothing.
use mathlib.Core.Path.{◌≡◌, refl, sym, ap, ap₂, ◌∙◌, subst}
use mathlib.Core.Bool.{false}
use mathlib.Core.Logic.{◌≢◌}
use Prim.Native.Nat.{ℕ, suc, ◌+◌, ◌*◌, ◌%◌, ◌≤◌, ◌<◌}
use native.Mathlib.Nat.{mul-le-mul}
use native.Mathlib.Omega.{arith}
use lib.Dec.{eqb}
use Rattle.refusals.specs.Refusals.{no_room}
use Rattle.refusals.proofs.CallLaws.{served}
use Rattle.classes.specs.Classes.{size}
use Rattle.classes.proofs.ClassLaws.{row_facts}
use Rattle.records.specs.Pool.{Pool}
use Rattle.records.specs.Calls.{admit_of, Left, leaves}
use Rattle.records.proofs.RunLaws.{class_at_low}
use Rattle.records.proofs.AdmitLaws.{admitted}
use Rattle.reserve.specs.declared.Plan.{Plan}
use Rattle.reserve.specs.declared.Plan.TheVariants.{Refuse, TakeSlot, NewClass, NewLarge}
use Rattle.reserve.specs.declared.Given.TheVariants.{Slot, Run}
use Rattle.reserve.specs.declared.Reserved.{Reserved}
use Rattle.reserve.specs.Reserve.{plan, is_full, perform, slot_given, answer, attempt, serve, reserve_of}
use Rattle.reserve.specs.Reserve as reserve
use Rattle.reserve.specs.Plans.{PlanOk, PlanLow}
use Rattle.reserve.proofs.PlanLaws.{plan_ok}
use Rattle.reserve.proofs.StoreForms.{slot_few}

-- ---- a slot

pub slot_room : {b s z : ℕ} → b < 30 → s < 512 → z ≡ size b → s * z ≤ 1569792
slot_room {b} {s} {z} l h f =
    let r = row_facts b l in let k = r.size_most in
    let m = mul-le-mul {n₁ = s} {m₁ = z} {n₂ = 511} {m₂ = 3072} (omega arith) (omega arith) in omega arith

pub slot_is : (g b s : ℕ) {z : ℕ} → z ≡ size b
    → record { refusal = 0; place = 4096 * g + s * z; size = z; kind = Slot (record { class = b; first = g % 512; number = s }) } ≡ slot_given g b s
slot_is g b s e = cc

pub large_is : (g k : ℕ) {m : ℕ} → m ≡ k + 1 → record { refusal = 0; place = 4096 * g; size = 4096 * m; kind = Run m } ≡ answer (NewLarge g k)
large_is g k {m} f = let h : m ≡ suc k = omega arith in cc

-- ---- the plan, as it was matched

pub answer_as : {x y : Plan} {r : Reserved} → x ≡ y → r ≡ answer y → r ≡ answer x
answer_as e f = f ∙ ap answer (sym e)

pub low_as : {x y : Plan} → x ≡ y → PlanLow x → PlanLow y
low_as e h = subst PlanLow e h

pub full_as : {x : Plan} {r : ℕ} → x ≡ Refuse r → eqb r no_room ≡ is_full x
full_as e = sym (ap is_full e)

-- a plan that refuses nothing
pub others_roomy : (x : Plan) → ((r : ℕ) → x ≢ Refuse r) → is_full x ≡ false
others_roomy (Refuse r) o = absurd (o r refl)
others_roomy (TakeSlot g b s) o = refl
others_roomy (NewClass g b) o = refl
others_roomy (NewLarge g k) o = refl

-- what a plan relies on keeps its numbers low
pub ok_low : (c : ℕ) (p : Pool) → c ≤ 16 → (x : Plan) → PlanOk c p x → PlanLow x
ok_low c p l (Refuse r) h = tt
ok_low c p l (TakeSlot g b s) h = let i = h.inside in (omega arith, class_at_low p g b h.kind, slot_few h)
ok_low c p l (NewClass g b) (d, h) = let i = h.inside in let k = h.some in (omega arith, d)
ok_low c p l (NewLarge g k) h = let i = h.inside in let f = h.few in (omega arith, omega arith)

-- ---- the work, and the call

module _ (c : ℕ) (p : Pool) (n : ℕ) (x : Plan) (e : x ≡ plan c p n) where
  pub plan_good : admit_of c p ≡ 0 → PlanOk c p x
  plan_good ok = subst (PlanOk c p) (sym e) (plan_ok c p (admitted c p ok).whole n)

  pub plan_low : admit_of c p ≡ 0 → PlanLow x
  plan_low ok = ok_low c p (admitted c p ok).shape.few x (plan_good ok)

  pub worked : (r : Reserved) (q : Pool) → r ≡ answer x → q ≡ perform p x → leaves r q ≡ attempt c p n
  unfolding attempt
  worked r q f g =
      ap₂ (λ (a : Reserved) (b : Pool). leaves a b) f g ∙ ap (λ (y : Plan). leaves (answer y) (perform p y)) e

module _ (c : ℕ) (p : Pool) (n a : ℕ) (e : a ≡ admit_of c p) where
  pub reserve_served : a ≡ 0 → {x : Left Reserved Pool} → x ≡ serve c p n → x ≡ reserve_of c p n
  unfolding reserve_of
  reserve_served z f = f ∙ served (admit_of c p) a (λ r. leaves (reserve.refused r) p) (serve c p n) e z
