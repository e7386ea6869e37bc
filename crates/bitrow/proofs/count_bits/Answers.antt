-- `bitrow::count_bits` meets its contract. The loop's invariant: the sum and the count from i on make the whole count.
-- Assumes nothing.
use Rattle.std.proofs.Common.{◌≡◌, ℕ, ◌+◌, ◌-◌, ◌/◌, ◌≤◌, List, get_or, sym, refl, ap, ◌∙◌, zero-add, arith}
use lib.Bits.{bit_and}
use lib.Count.{ones}
use Rattle.bitrow.specs.Row.{count_bits}
use Rattle.bitrow.proofs.Counts.{count_none, count_le, count_word, count_turn}
use Rattle.bitrow.proofs.count_bits.Goals as goal

pub loop-i-init : goal.loop-i-init
loop-i-init c =
    let count = count_bits c.args.words.now c.args.from in
    (refl, omega arith, omega arith, omega arith, zero-add (count _) ∙ ap count (omega arith))

-- in a turn of the loop: the row, the place, and how many places of its word are counted
abbrev Turn : Type 0
Turn = goal.After-shared_slice_known-in-loop-i-1

abbrev row : Turn → List ℕ
row c = c.args.words.now

abbrev place : Turn → ℕ
place c = c.loop-i.i

abbrev part : Turn → ℕ
part c = c.min-m.result

-- what is added is their count, and so at most their number
counted : (c : Turn) → count_bits (row c) (place c) (part c) ≡ ones (bit_and (get_or (row c) (place c / 64) 0) c.mask-b.result)
counted c =
    count_word (row c) (place c) (part c) (omega arith)
    ∙ ap (λ (b : ℕ). ones (bit_and (get_or (row c) (place c / 64) 0) b)) (sym c.mask-b.ensures)

few : (c : Turn) → count_bits (row c) (place c) (part c) ≤ part c
few c = count_le (part c) (row c) (place c)

pub overflow_cast-sum : goal.overflow_cast-sum
overflow_cast-sum c = omega (arith, counted c, few c)

pub overflow_add-sum : goal.overflow_add-sum
overflow_add-sum c = omega (arith, counted c, few c)

pub loop-i-preserved : goal.loop-i-preserved
loop-i-preserved c =
    let step = count_turn (row c) (place c) (part c) (c.args.from + c.args.n) (omega arith) in (
      refl,
      omega arith,
      omega arith,
      omega (arith, counted c, few c),
      omega (arith, counted c, step, c.loop-i.invariant.4),
    )

pub returns : goal.returns
returns c =
    let i = c.loop-i.i in
    omega (arith, count_none c.args.words.now i (c.args.from + c.args.n - i) (omega arith))
