-- `hints::give` meets its contract. Assumes nothing.
use native.Mathlib.Omega.{arith}
use mathlib.Core.Path.{◌≡◌, refl}
use Prim.Native.Nat.{ℕ, ◌*◌, ◌<◌}
use mathlib.Core.List.{List}
use Rattle.classes.specs.Classes.{pages}
use Rattle.records.specs.Pool.{Pool, kind_at}
use Rattle.records.specs.declared.Kind.TheVariants.{Class}
use Rattle.records.specs.Calls.{admit_of}
use Rattle.hints.specs.Hints.{Marks}
use Rattle.hints.proofs.RowLaws.{shifted, lent_long}
use Rattle.hints.proofs.GiveLaws.{Held, reckoned, gave_between, number_low, word_inside, taken_bit, taken_low, gave_behind, gave_free, gave_slot}
use Rattle.hints.proofs.give.Goals as goal

held : {c : ℕ} {p : Pool} {rows opens : List ℕ} {g b off : ℕ} → admit_of c p ≡ 0 → Marks (512 * c) p rows opens → kind_at p g ≡ Class b
    → (g < 512 * c) × (off < 4096 * pages b) → Held c p rows opens g b off
held sound marks run inside = record { sound = sound; marks = marks; run = run; inside = inside.0; within = inside.1 }

pub returns-then-s-rows : goal.returns-then-s-rows
returns-then-s-rows c = let h = (held c.requires.sound c.requires.marks c.requires.run c.requires.inside) in record { given = gave_between h c.if-s-rows.true; marks = h.marks }

pub bounds-slots-i : goal.bounds-slots-i
bounds-slots-i c = word_inside ((held c.requires.sound c.requires.marks c.requires.run c.requires.inside)) c.if-s-rows.false

pub returns-then-rows-from : goal.returns-then-rows-from
returns-then-rows-from c = let h = (held c.requires.sound c.requires.marks c.requires.run c.requires.inside) in record { given = gave_behind h c.if-s-rows.false c.if-rows-from.true; marks = h.marks }

pub returns-then-w-bit-eq0 : goal.returns-then-w-bit-eq0
returns-then-w-bit-eq0 c =
    let h = (held c.requires.sound c.requires.marks c.requires.run c.requires.inside) in let l = c.if-rows-from.false in record { given = gave_free h c.if-s-rows.false (omega arith) c.if-w-bit-eq0.true; marks = h.marks }

pub free_bit-requires : goal.free_bit-requires
free_bit-requires c =
    let h = (held c.requires.sound c.requires.marks c.requires.run c.requires.inside) in
    (word_inside h c.if-s-rows.false, taken_low h c.if-s-rows.false c.if-w-bit-eq0.false)

pub set_mark-requires : goal.set_mark-requires
set_mark-requires c = let r = reckoned (held c.requires.sound c.requires.marks c.requires.run c.requires.inside) in (lent_long _ _ r.long r.class, r.low)

pub returns : goal.returns
returns c =
    let h = (held c.requires.sound c.requires.marks c.requires.run c.requires.inside) in let both = gave_slot h c.if-s-rows.false c.if-w-bit-eq0.false _ _
    (c.free_bit.ensures _ _ refl (shifted 64 _ (omega arith)) (taken_bit h c.if-s-rows.false c.if-w-bit-eq0.false)) c.set_mark.ensures in record { given = both.0; marks = both.1 }

pub overflow_mul-s : goal.overflow_mul-s
overflow_mul-s c = omega (arith, reckoned (held c.requires.sound c.requires.marks c.requires.run c.requires.inside))

pub overflow_mul-s-2 : goal.overflow_mul-s-2
overflow_mul-s-2 c = omega (arith, reckoned (held c.requires.sound c.requires.marks c.requires.run c.requires.inside))

pub overflow_mul-i : goal.overflow_mul-i
overflow_mul-i c = omega (arith, reckoned (held c.requires.sound c.requires.marks c.requires.run c.requires.inside))

pub overflow_add-i : goal.overflow_add-i
overflow_add-i c = omega (arith, reckoned (held c.requires.sound c.requires.marks c.requires.run c.requires.inside))

pub offset_bounds-slots-i : goal.offset_bounds-slots-i
offset_bounds-slots-i c = omega (arith, reckoned (held c.requires.sound c.requires.marks c.requires.run c.requires.inside))

pub bounds-opens-g : goal.bounds-opens-g
bounds-opens-g c = omega (arith, reckoned (held c.requires.sound c.requires.marks c.requires.run c.requires.inside))

pub bounds-opens-g-2 : goal.bounds-opens-g-2
bounds-opens-g-2 c = omega (arith, reckoned (held c.requires.sound c.requires.marks c.requires.run c.requires.inside))

pub overflow_cast-opens : goal.overflow_cast-opens
overflow_cast-opens c = omega (arith, number_low (held c.requires.sound c.requires.marks c.requires.run c.requires.inside) c.if-s-rows.false)

pub overflow_shl-opens : goal.overflow_shl-opens
overflow_shl-opens c = omega (arith, number_low (held c.requires.sound c.requires.marks c.requires.run c.requires.inside) c.if-s-rows.false)
