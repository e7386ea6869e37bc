-- Laws of the size classes, for the proofs of their callers.
-- Assumes nothing.
use mathlib.Core.Path.{◌≡◌, refl, ap, ◌∙◌, subst}
use mathlib.Core.Logic.{by_cases}
use mathlib.Core.Bool.{Bool, true, false, cond}
use mathlib.Core.List.{List, [], ◌∷◌}
use Prim.Native.Nat.{ℕ, zero, suc, ◌+◌, ◌*◌, ◌-◌, ◌/◌, ◌^◌, ◌≤◌, ◌<◌}
use native.Mathlib.Decide.{dec_lt}
use native.Mathlib.Nat.{mul-le-mul_right}
use native.Mathlib.Omega.{arith}
use borrow.Author.Tests.{le-leb, lt-leb, leb-true, leb-false}
use lib.Count.{count_leading_zeros, leading_top}
use lib.Dec.{T, leb, ltb, leb→le, ltb→lt, lit<}
use lib.Pow.{pow_mono}
use lib.ListN.{length, get_or, get_or-eq_default}
use Rattle.classes.specs.declared.Row.{Row}
use Rattle.classes.specs.Classes.{row_of, rows, row_at, size, slots, pages, first_holding, class_for, bit_length, calculated, tabled, RowFacts, Smallest, ClassesMean}
use Rattle.classes.proofs.Entries.{every, at, same_at}

-- ---- the 30 rows

-- what each row keeps to, as tests
abbrev row_tests : Row → List Bool
row_tests r =
    leb (r.slots * r.size) (4096 * r.pages) ∷
    ltb (4096 * r.pages) (suc r.slots * r.size) ∷
    leb 1 r.slots ∷
    leb r.slots 512 ∷
    leb 1 r.pages ∷
    leb r.pages 7 ∷
    leb 8 r.size ∷
    leb r.size 3072 ∷
    []

abbrev row_test : ℕ → Row → Bool
row_test b r = every (λ i x. x) 0 (row_tests r)

row_passed : (b : ℕ) (r : Row) → T (row_test b r) → RowFacts r
row_passed b r t =
    let passed : (i : ℕ) → i < 8 → T (get_or (row_tests r) i true) = at (λ i x. x) true (row_tests r) t in
    record {
      fit = leb→le _ _ (passed 0 (lit< tt));
      full = ltb→lt _ _ (passed 1 (lit< tt));
      slots_least = leb→le _ _ (passed 2 (lit< tt));
      slots_most = leb→le _ _ (passed 3 (lit< tt));
      pages_least = leb→le _ _ (passed 4 (lit< tt));
      pages_most = leb→le _ _ (passed 5 (lit< tt));
      size_least = leb→le _ _ (passed 6 (lit< tt));
      size_most = leb→le _ _ (passed 7 (lit< tt));
    }

pub row_facts : (b : ℕ) → b < 30 → RowFacts (row_at b)
unfolding rows row_at
row_facts b h = row_passed b _ (at row_test (row_of 0 0 0) rows tt b h)

-- what holds of any number b: where it names no class, its row is all zero
pub record AnyRow (b : ℕ) : Type 0 where
  pub fit : slots b * size b ≤ 4096 * suc (pages b - 1)
  pub slots_most : slots b ≤ 512
  pub pages_most : pages b ≤ 7
  pub size_some : (s : ℕ) → s < slots b → 0 < size b

some_row : (b : ℕ) → RowFacts (row_at b) → AnyRow b
some_row b r =
    let p : suc (pages b - 1) ≡ pages b = omega arith in
    record {
      fit = rw p r.fit;
      slots_most = r.slots_most;
      pages_most = r.pages_most;
      size_some = λ s h. omega arith;
    }

no_row : (b : ℕ) → row_at b ≡ row_of 0 0 0 → AnyRow b
no_row b e =
    let s : slots b ≡ 0 = ap (λ (r : Row). r.slots) e in
    let p : pages b ≡ 0 = ap (λ (r : Row). r.pages) e in
    record { fit = rw s (omega arith); slots_most = omega arith; pages_most = omega arith; size_some = λ t h. omega arith }

pub any_row : (b : ℕ) → AnyRow b
unfolding rows row_at
any_row b =
    by_cases (dec_lt b 30) (λ h. some_row b (row_facts b h)) (λ h. no_row b (get_or-eq_default rows (row_of 0 0 0) {n = b} (omega arith)))

-- ---- a class's numbers, as they were read from its row

-- a row out of a copy of them all
pub row_read : (d : Row) (t : List Row) (b i : ℕ) → t ≡ rows → d ≡ row_of 0 0 0 → i ≡ b → get_or t i d ≡ row_at b
unfolding row_at
row_read d t b i e z h = cc

pub size_read : (b : ℕ) {z : ℕ} {r : Row} → r ≡ row_at b → z ≡ r.size → z ≡ size b
size_read b e f = f ∙ ap (λ (r : Row). r.size) e

pub slots_read : (b : ℕ) {n : ℕ} {r : Row} → r ≡ row_at b → n ≡ r.slots → n ≡ slots b
slots_read b e f = f ∙ ap (λ (r : Row). r.slots) e

pub pages_read : (b : ℕ) {n : ℕ} {r : Row} → r ≡ row_at b → n ≡ r.pages → n ≡ pages b
pages_read b e f = f ∙ ap (λ (r : Row). r.pages) e

-- a run of class b is cut into n slots of size z
pub record Cut (b z n : ℕ) : Type 0 where
  pub size_is : z ≡ size b
  pub slots_is : n ≡ slots b

pub cut : {b z n : ℕ} {r : Row} → r ≡ row_at b → z ≡ r.size → n ≡ r.slots → Cut b z n
cut {b} e f g = record { size_is = size_read b e f; slots_is = slots_read b e g }

pub cut_some : {b z : ℕ} {r : Row} → r ≡ row_at b → z ≡ r.size → b < 30 → 0 < z
cut_some {b} e f l = let h = row_facts b l in let g = size_read b e f in omega arith

pub cut_few : {b z n : ℕ} → Cut b z n → n ≤ 512
cut_few {b} k = let f = (any_row b).slots_most in let e = k.slots_is in omega arith

-- a slot lies in the pages of its run
pub cut_offset : {b z n s : ℕ} → Cut b z n → s < n → s * z ≤ 28672
cut_offset {b} {z} {n} {s} k l =
    let f = any_row b in let e = k.slots_is in
    let a = f.fit in let d = f.pages_most in
    let m : s * size b ≤ slots b * size b = mul-le-mul_right (size b) (omega arith) in
    rw k.size_is (omega arith)

-- ---- the smallest class that holds a size

-- the k that first_holding finds in the rows rs, counted from b: k is b + length rs where no row holds n bytes
record First (rs : List Row) (b n k : ℕ) : Type 0 where
  low : b ≤ k
  most : k ≤ b + length rs
  holds : (a : ℕ) → a + b ≡ k → a < length rs → n ≤ (get_or rs a (row_of 0 0 0)).size
  smaller : (a : ℕ) → a + b < k → (get_or rs a (row_of 0 0 0)).size < n

first_here : (r : Row) (rs : List Row) (b n : ℕ) → n ≤ r.size → First (r ∷ rs) b n b
first_here r rs b n h =
    record {
      low = omega arith;
      most = omega arith;
      holds = here;
      smaller = λ a l. absurd (omega arith);
    }
  where
    here : (a : ℕ) → a + b ≡ b → a < suc (length rs) → n ≤ (get_or (r ∷ rs) a (row_of 0 0 0)).size
    here zero e l = h
    here (suc a) e l = absurd (omega arith)

first_later : (r : Row) (rs : List Row) (b n k : ℕ) → r.size < n → First rs (suc b) n k → First (r ∷ rs) b n k
first_later r rs b n k h f =
    record {
      low = omega arith;
      most = omega arith;
      holds = holds;
      smaller = smaller;
    }
  where
    holds : (a : ℕ) → a + b ≡ k → a < suc (length rs) → n ≤ (get_or (r ∷ rs) a (row_of 0 0 0)).size
    holds zero e l = absurd (omega (arith, f.low))
    holds (suc a) e l = f.holds a (omega arith) (omega arith)

    smaller : (a : ℕ) → a + b < k → (get_or (r ∷ rs) a (row_of 0 0 0)).size < n
    smaller zero l = h
    smaller (suc a) l = f.smaller a (omega arith)

first : (rs : List Row) (b n : ℕ) → First rs b n (first_holding rs b n)
unfolding first_holding
first [] b n = record { low = omega arith; most = omega arith; holds = λ a e l. absurd (omega arith); smaller = λ a l. absurd (omega arith) }
first (r ∷ rs) b n = pick (leb n r.size) refl (first rs (suc b) n)
  where
    pick : (t : Bool) → leb n r.size ≡ t → First rs (suc b) n (first_holding rs (suc b) n) → First (r ∷ rs) b n (cond t b (first_holding rs (suc b) n))
    pick true e f = first_here r rs b n (leb-true _ _ e)
    pick false e f = first_later r rs b n _ (leb-false _ _ e) f

class_first : (n : ℕ) → First rows 0 n (class_for n)
unfolding class_for
class_first n = first rows 0 n

pub class_smallest : (n : ℕ) → n ≤ 3072 → Smallest n (class_for n)
unfolding rows row_at
class_smallest n h =
    let f = class_first n in
    let below : class_for n < 30 = by_cases (dec_lt (class_for n) 30) (λ l. l) (λ l. absurd (omega (arith, f.smaller 29 (omega arith)))) in
    record { class = below; holds = f.holds (class_for n) (omega arith) below; smaller = λ a l. f.smaller a (omega arith) }

-- there is one such class
pub smallest_once : (n a b : ℕ) → Smallest n a → Smallest n b → a ≡ b
smallest_once n a b x y =
    by_cases (dec_lt a b) (λ l. absurd (omega (arith, y.smaller a l, x.holds)))
    (λ l. by_cases (dec_lt b a) (λ k. absurd (omega (arith, x.smaller b k, y.holds))) (λ k. omega arith))

pub classes_mean : ClassesMean
classes_mean =
    record {
      row = row_facts;
      smallest = λ n b h. (smallest_once n (class_for n) b (class_smallest n h), λ e. subst (Smallest n) e (class_smallest n h));
    }

-- ---- the class by arithmetic

-- the calculation gives the smallest class at all 3,073 sizes: one computed test
pub all_calculated : tabled calculated 0 3073 ≡ tabled class_for 0 3073
unfolding rows first_holding class_for calculated count_leading_zeros
all_calculated = refl

module _ {n : ℕ} (most : n ≤ 3072) where
  by_calculation : calculated n ≡ class_for n
  by_calculation = same_at calculated class_for 3073 all_calculated n (omega arith)

  -- a class for every 8 bytes
  pub up_to_64 : n ≤ 64 → (n - 1) / 8 ≡ class_for n
  unfolding calculated
  up_to_64 h = rw (le-leb n 64 h) at by_calculation

  -- four classes to each doubling
  pub above_64 : 64 < n → (low : ℕ) → low ≡ bit_length (n - 1) - 3 → (n - 1) / 2 ^ low + 4 * (low - 3) ≡ class_for n
  unfolding calculated
  above_64 h low e = rw e (rw (lt-leb n 64 h) at by_calculation)

module _ {m : ℕ} (least : 64 ≤ m) (most : m ≤ 3072) where
  pub long : 7 ≤ bit_length m
  long =
      let t = leading_top 64 m (omega arith) (omega arith) in
      by_cases (dec_lt t.0 6) (λ l. absurd (omega (arith, t.3, pow_mono {i = suc t.0} {j = 6} l))) (λ l. omega (arith, t.1))

  pub length_left : (j k : ℕ) → j + k ≤ 7 → j ≤ bit_length m - k
  length_left j k h = omega (arith, long)
