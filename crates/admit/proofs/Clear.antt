-- The masks of the classes, and the pages behind the first of a run of each. Assumes nothing.
use mathlib.Core.Path.{◌≡◌, refl, sym, ap, ap₂, ◌∙◌}
use mathlib.Core.Logic.{by_cases}
use mathlib.Core.List.{List, [], ◌∷◌}
use Prim.Native.Nat.{ℕ, zero, suc, ◌+◌, ◌*◌, ◌-◌, ◌%◌, ◌/◌, ◌^◌, ◌≤◌, ◌<◌}
use native.Mathlib.Decide.{dec_le}
use native.Mathlib.Nat.{zero-mul, div-eq_of_lt}
use native.Mathlib.Omega.{arith}
use lib.Dec.{eqb}
use lib.ListN.{length, get_or}
use lib.Bits.{bit_or, bit_and, and_high, and_zero_r}
use lib.Pow.{pow_pos, pow_mono, shr_mod}
use borrow.Author.Tests.{eq-eqb, ne_eqb}
use Rattle.classes.specs.declared.Row.{Row}
use Rattle.classes.specs.Classes.{row_of, rows, row_at, slots}
use Rattle.classes.proofs.ClassLaws.{row_facts}
use Rattle.records.specs.Kinds.{behind}
use Rattle.records.specs.Sound.{all}
use Rattle.admit.specs.Masks.{stray_mask, mask_row, masks_of, mask_table}
use Rattle.records.specs.Slots.{word_clear}
use Rattle.records.proofs.SlotLaws.{or_turn}

-- ---- masks

-- the bits from bit m on
mask_clear : (x m : ℕ) → x < 2 ^ 64 → eqb (bit_and x (2 ^ 64 - 2 ^ m)) 0 ≡ eqb (x / 2 ^ m) 0
mask_clear x m h = by_cases (dec_le m 64) low high
  where
    low : m ≤ 64 → eqb (bit_and x (2 ^ 64 - 2 ^ m)) 0 ≡ eqb (x / 2 ^ m) 0
    low l =
        let r : 64 - m + m ≡ 64 = omega arith in
        let h' : x < 2 ^ (64 - m + m) = rw r h in
        let a : bit_and x (2 ^ 64 - 2 ^ m) ≡ (x / 2 ^ m % 2 ^ (64 - m)) * 2 ^ m =
        ap (λ (k : ℕ). bit_and x (2 ^ k - 2 ^ m)) (sym r) ∙ and_high x (64 - m) m in
        let b : x / 2 ^ m % 2 ^ (64 - m) ≡ x / 2 ^ m = shr_mod (64 - m) m h' in
        ap (λ (y : ℕ). eqb y 0) (a ∙ ap (λ (y : ℕ). y * 2 ^ m) b) ∙ times (x / 2 ^ m) (2 ^ m) (pow_pos m)
      where
        times : (y p : ℕ) → 0 < p → eqb (y * p) 0 ≡ eqb y 0
        times zero p l = eq-eqb (0 * p) 0 (zero-mul p) ∙ sym (eq-eqb 0 0 refl)
        times (suc y) p l = ne_eqb (suc y * p) 0 (omega arith) ∙ sym (ne_eqb (suc y) 0 (omega arith))

    high : ¬ (m ≤ 64) → eqb (bit_and x (2 ^ 64 - 2 ^ m)) 0 ≡ eqb (x / 2 ^ m) 0
    high n =
        let p : 2 ^ 64 ≤ 2 ^ m = pow_mono {i = 64} {j = m} (omega arith) in
        let z : 2 ^ 64 - 2 ^ m ≡ 0 = omega arith in
        let d : x / 2 ^ m ≡ 0 = div-eq_of_lt (omega arith) in
        ap (λ (a : ℕ). eqb a 0) (ap (bit_and x) z ∙ and_zero_r x) ∙ ap (λ (a : ℕ). eqb a 0) (sym d)

masks_row : (n j : ℕ) (l : List ℕ) → j < 8 → get_or (mask_row n l) j 0 ≡ stray_mask n j
masks_row n zero l h = refl
masks_row n (suc zero) l h = refl
masks_row n (suc (suc zero)) l h = refl
masks_row n (suc (suc (suc zero))) l h = refl
masks_row n (suc (suc (suc (suc zero)))) l h = refl
masks_row n (suc (suc (suc (suc (suc zero))))) l h = refl
masks_row n (suc (suc (suc (suc (suc (suc zero)))))) l h = refl
masks_row n (suc (suc (suc (suc (suc (suc (suc zero))))))) l h = refl
masks_row n (suc (suc (suc (suc (suc (suc (suc (suc j)))))))) l h = absurd (omega arith)

masks_at : (rs : List Row) (b j : ℕ) → b < length rs → j < 8 → get_or (masks_of rs) (8 * b + j) 0 ≡ stray_mask (get_or rs b (row_of 0 0 0)).slots j
unfolding masks_of
masks_at [] b j h l = absurd (omega arith)
masks_at (r ∷ rs) zero j h l = let q : 8 * 0 + j ≡ j = omega arith in rw q (masks_row r.slots j (masks_of rs) l)
masks_at (r ∷ rs) (suc b) j h l =
    let q : 8 * suc b + j ≡ suc (suc (suc (suc (suc (suc (suc (suc (8 * b + j)))))))) = omega arith in
    rw q (masks_at rs b j (omega arith) l)

mask_at : (b j : ℕ) → b < 30 → j < 8 → get_or mask_table (8 * b + j) 0 ≡ stray_mask (slots b) j
unfolding mask_table row_at rows
mask_at b j h l = masks_at rows b j h l

word_masked : (ss ms : List ℕ) (g b j : ℕ) → ms ≡ mask_table → b < 30 → j < 8 → get_or ss (8 * g + j) 0 < 2 ^ 64
    → eqb (bit_and (get_or ss (8 * g + j) 0) (get_or ms (8 * b + j) 0)) 0 ≡ word_clear ss g (slots b) j
unfolding word_clear
word_masked ss ms g b j e h l k =
    ap (λ (m : ℕ). eqb (bit_and (get_or ss (8 * g + j) 0) m) 0) (ap (λ (t : List ℕ). get_or t (8 * b + j) 0) e ∙ mask_at b j h l)
    ∙ mask_clear (get_or ss (8 * g + j) 0) (slots b - 64 * j) k

-- a turn of the loop over a page's slot words
pub stray_turn : (ss ms : List ℕ) (g b j acc : ℕ) → ms ≡ mask_table → b < 30 → j < 8 → get_or ss (8 * g + j) 0 < 2 ^ 64
    → eqb acc 0 ≡ all j (word_clear ss g (slots b))
    → eqb (bit_or acc (bit_and (get_or ss (8 * g + j) 0) (get_or ms (8 * b + j) 0))) 0 ≡ all (j + 1) (word_clear ss g (slots b))
stray_turn ss ms g b j acc t h l k e =
    or_turn (word_clear ss g (slots b)) j acc (bit_and (get_or ss (8 * g + j) 0) (get_or ms (8 * b + j) 0)) e (word_masked ss ms g b j t h l k)

-- ---- the pages behind a run's first

-- the class rows as they are read
pub row_some : (d : Row) (rs : List Row) (k : ℕ) → rs ≡ rows → k < 30 → d ≡ row_of 0 0 0 → 1 ≤ (get_or rs k d).pages
unfolding row_at
row_some d rs k e l z = let f = (row_facts k l).pages_least in rw (e, z) f

pub row_behind : (d : Row) (rs : List Row) (k : ℕ) → rs ≡ rows → d ≡ row_of 0 0 0 → (get_or rs k d).pages - 1 ≡ behind k
unfolding row_at behind
row_behind d rs k e z = ap₂ (λ (l : List Row) (x : Row). (get_or l k x).pages - 1) e z
