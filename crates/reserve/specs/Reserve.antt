-- Reserve (RULES 5.2): what is looked for, what is stored, what is answered. Assumes nothing.
use Rattle.std.specs.Prelude.{Bool, false, cond, ◌&&◌, List, ℕ, zero, suc, ◌+◌, ◌-◌, ◌*◌, ◌/◌, ◌%◌, eqb, ltb, leb, Option, Some}
use Rattle.std.specs.Prelude as Prelude
use Rattle.refusals.specs.Refusals.{unless, no_room, too_big}
use Rattle.bitrow.specs.Row.{next_bit}
use Rattle.classes.specs.Classes.{size, slots, pages, class_for}
use Rattle.records.specs.declared.Kind.TheVariants.{Large, Class}
use Rattle.records.specs.Kinds.{words_of, is_run_of}
use Rattle.records.specs.Pool.{Pool, kind_at}
use Rattle.records.specs.Calls.{admit_of, Left, leaves}
use Rattle.gaps.specs.Gaps.{find_pages}
use Rattle.blocks.specs.Stores.{put_run, put_slot}
use Rattle.sweep.specs.Sweep.{swept}
use Rattle.reserve.specs.declared.Plan.{Plan}
use Rattle.reserve.specs.declared.Plan.TheVariants.{Refuse, TakeSlot, NewClass, NewLarge}
use Rattle.reserve.specs.declared.Given.TheVariants.{Slot, Run, None}
use Rattle.reserve.specs.declared.Reserved.{Reserved}

-- ---- the free slot with the lowest place among all runs of a class

-- the number of the lowest free slot of a run of class b that starts at page g; the number of its slots where none is free
unfoldable pub lowest_free : List ℕ → ℕ → ℕ → ℕ
lowest_free bits b g = next_bit 0 bits (512 * g) (slots b) - 512 * g

-- a run of class b that has a free slot starts at page g
unfoldable pub has_slot : Pool → ℕ → ℕ → Bool
has_slot p b g = is_run_of b (kind_at p g) && ltb (lowest_free p.slots b g) (slots b)

-- the first such page of the n pages from g on, or the page behind them
unfoldable pub slot_page : Pool → ℕ → ℕ → ℕ → ℕ
slot_page p b g zero = g
slot_page p b g (suc n) = let later = slot_page p b (suc g) n in cond (has_slot p b g) g later

-- ---- what a reserve will do on given records

abbrev pub if_found : Option ℕ → (ℕ → Plan) → Plan
if_found (Some g) f = f g
if_found Prelude.None f = Refuse no_room

-- a new run of class b, by the page bits
unfoldable pub plan_class : ℕ → List ℕ → ℕ → Plan
plan_class c bits b = if_found (find_pages c bits (pages b)) (λ g. NewClass g b)

-- the lowest free slot of the run of class b at page g; or, where g is behind the last page, one of a new run
unfoldable pub slot_or_run : ℕ → Pool → ℕ → ℕ → Plan
slot_or_run c p b g = cond (ltb g (512 * c)) (TakeSlot g b (lowest_free p.slots b g)) (plan_class c p.bits b)

-- a slot of class b: in a run that stands, else in a new one
unfoldable pub plan_slot : ℕ → Pool → ℕ → Plan
plan_slot c p b = slot_or_run c p b (slot_page p b 0 (512 * c))

-- a large run of n pages, by the page bits
unfoldable pub plan_run : ℕ → List ℕ → ℕ → Plan
plan_run c bits n = if_found (find_pages c bits n) (λ g. NewLarge g (n - 1))

-- the pages that hold n bytes
abbrev pub pages_for : ℕ → ℕ
pages_for n = (n + 4095) / 4096

-- n bytes, more than a slot holds, by the page bits
unfoldable pub plan_large : ℕ → List ℕ → ℕ → Plan
plan_large c bits n = cond (leb n 2093056) (plan_run c bits (pages_for n)) (Refuse too_big)

unfoldable pub plan : ℕ → Pool → ℕ → Plan
plan c p n = cond (leb n 3072) (plan_slot c p (class_for n)) (plan_large c p.bits n)

-- ---- where it finds no room

-- the plan is to refuse 4
abbrev pub is_full : Plan → Bool
is_full (Refuse r) = eqb r no_room
is_full (TakeSlot g b s) = false
is_full (NewClass g b) = false
is_full (NewLarge g k) = false

-- the pool in which n bytes are placed: the pool without its empty runs, where it has no room as it is, and has room then
unfoldable pub ready : ℕ → Pool → ℕ → Pool
ready c p n = cond (is_full (plan c p n)) (cond (is_full (plan c (swept c p) n)) p (swept c p)) p

-- ---- what it stores

abbrev pub perform : Pool → Plan → Pool
perform p (Refuse r) = p
perform p (TakeSlot g b s) = put_slot 1 p g s
perform p (NewClass g b) = put_slot 1 (put_run 1 p g (words_of (Class b))) g 0
perform p (NewLarge g k) = put_run 1 p g (words_of (Large k))

-- ---- what it answers

-- nothing
abbrev pub refused : ℕ → Reserved
refused r = record { refusal = r; place = 0; size = 0; kind = None }

-- slot s of the run of class b at page g, which is page g % 512 of its chunk
abbrev pub slot_given : ℕ → ℕ → ℕ → Reserved
slot_given g b s =
    record { refusal = 0; place = 4096 * g + s * size b; size = size b; kind = Slot (record { class = b; first = g % 512; number = s }) }

-- a large run of n pages at page g
abbrev pub run_given : ℕ → ℕ → Reserved
run_given g n = record { refusal = 0; place = 4096 * g; size = 4096 * n; kind = Run n }

abbrev pub answer : Plan → Reserved
answer (Refuse r) = refused r
answer (TakeSlot g b s) = slot_given g b s
answer (NewClass g b) = slot_given g b 0
answer (NewLarge g k) = run_given g (suc k)

-- a try on given records
unfoldable pub attempt : ℕ → Pool → ℕ → Left Reserved Pool
attempt c p n = leaves (answer (plan c p n)) (perform p (plan c p n))

-- a try, behind a sweep where that is needed and helps
unfoldable pub serve : ℕ → Pool → ℕ → Left Reserved Pool
serve c p n = attempt c (ready c p n) n

-- the call
unfoldable pub reserve_of : ℕ → Pool → ℕ → Left Reserved Pool
reserve_of c p n = unless (admit_of c p) (λ r. leaves (refused r) p) (serve c p n)
