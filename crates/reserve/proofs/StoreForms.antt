-- The stores of a reserve, as the code makes them. Assumes nothing.
use mathlib.Core.Path.{◌≡◌, sym, ap, ◌∙◌, subst}
use mathlib.Core.Bool.{false}
use Prim.Native.Nat.{ℕ, suc, ◌+◌, ◌<◌}
use native.Mathlib.Omega.{arith}
use lib.ListN.{get_or}
use Rattle.classes.proofs.ClassLaws.{any_row}
use Rattle.records.specs.declared.Kind.TheVariants.{Class}
use Rattle.records.specs.Kinds.{words_of}
use Rattle.records.specs.Pool.{Pool}
use Rattle.records.proofs.WordLaws.{page_word}
use Rattle.records.proofs.AdmitLaws.{Shape}
use Rattle.blocks.specs.Blocks.{IsSlot}
use Rattle.blocks.specs.Stores.{put_run, put_slot, LargeRoom}
use Rattle.reserve.specs.declared.Plan.{Plan}
use Rattle.reserve.specs.declared.Plan.TheVariants.{NewClass}
use Rattle.reserve.specs.Reserve.{perform}
use Rattle.reserve.specs.Plans.{PagesFree, PlanOk}

-- ---- a new run of a class, with its slot 0 taken

pub class_taken : (p : Pool) (g b : ℕ) {q r : Pool} → q ≡ put_run 1 p g (words_of (Class b)) → r ≡ put_slot 1 q g 0 → r ≡ perform p (NewClass g b)
class_taken p g b e f = f ∙ ap (λ (x : Pool). put_slot 1 x g 0) e

-- ---- what the stores rely on

-- free pages have the word 0
pub free_words : {c : ℕ} {p : Pool} {g n : ℕ} → PagesFree c p g n → (i : ℕ) → g < i → i < g + n → get_or p.words i 0 ≡ 0
free_words {p = p} f i a b = page_word p i (f.clear i (omega arith) b)

-- and hold a large run
pub large_room : {c : ℕ} {p : Pool} {g k : ℕ} → Shape c p → PagesFree c p g (suc k) → LargeRoom g k p.bits p.words
large_room h r =
    let i = r.inside in let f = r.few in
    record { few = omega arith; low = omega arith; bit = omega arith; word = omega arith; zero = free_words r }

pub slot_few : {c : ℕ} {p : Pool} {g b s : ℕ} → IsSlot c p g b s false → s < 512
slot_few {b = b} f = let a = (any_row b).slots_most in let h = f.slot in omega arith

-- the plan, as it was matched
pub perform_as : (p : Pool) {q : Pool} {x y : Plan} → x ≡ y → q ≡ perform p y → q ≡ perform p x
perform_as p e f = f ∙ ap (perform p) (sym e)

pub ok_as : (c : ℕ) (p : Pool) {x y : Plan} → x ≡ y → PlanOk c p x → PlanOk c p y
ok_as c p e h = subst (PlanOk c p) e h
