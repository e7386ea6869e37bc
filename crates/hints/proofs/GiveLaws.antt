-- What starts at a byte of a run is given back: the slot's number by the share of its size, and the marks behind it. Assumes nothing.
use mathlib.Core.Path.{◌≡◌, refl, sym, ap, ◌∙◌}
use mathlib.Core.Logic.{◌≢◌, by_cases}
use mathlib.Core.Bool.{true, not}
use mathlib.Core.List.{List}
use Prim.Native.Nat.{ℕ, zero, suc, ◌+◌, ◌-◌, ◌*◌, ◌/◌, ◌%◌, ◌^◌, ◌≤◌, ◌<◌}
use native.Mathlib.Decide.{dec_lt}
use native.Mathlib.Nat.{div-add-mod', mod-lt, div-le_self, mul_comm, mul-add, mul_assoc, mul-le-mul, mul-le-mul_left, mul-le-mul_right, mul-div_left, mul-mod_left}
use native.Mathlib.Omega.{arith}
use lib.Bits.{bit_and, bit_or}
use lib.ListN.{length, get_or, set}
use lib.Pow.{high, pow_pos, shl_exact}
use borrow.Author.Tests.{ne_eqb}
use borrow.Rule.Slice.PartMut.{put_mid}
use Rattle.refusals.specs.Refusals.{no_block, free_slot}
use Rattle.bitrow.specs.Row.{bit, bit_at}
use Rattle.bitrow.proofs.Words.{bit_le}
use Rattle.bitrow.proofs.Masks.{put_same}
use Rattle.bitrow.proofs.Marks.{one_set, zero_clear}
use Rattle.bitrow.proofs.Lows.{one_le, one_left}
use Rattle.classes.specs.Classes.{size, slots, pages}
use Rattle.classes.proofs.ClassLaws.{row_facts}
use Rattle.classes.proofs.ClassLaws as class
use Rattle.records.specs.declared.Kind.TheVariants.{Class}
use Rattle.records.specs.Pool.{Pool, kind_at}
use Rattle.records.specs.Calls.{admit_of, leaves}
use Rattle.records.proofs.RunLaws.{class_at_low}
use Rattle.blocks.specs.Stores.{put_slot}
use Rattle.release.specs.declared.Spot.{Spot}
use Rattle.release.specs.declared.Spot.TheVariants.{Slot}
use Rattle.release.specs.Release.{slot_spot, released, give_back}
use Rattle.release.proofs.SpotLaws.{slot_between, slot_behind, slot_taken, slot_free}
use Rattle.hints.specs.Hints.{Marks, marked, giving, Part}
use Rattle.hints.proofs.OpenLaws.{bit_of, put_some, behind_clear}
use Rattle.hints.proofs.RowLaws.{row_at, shifted, lent_row, rows_back}
use Rattle.hints.proofs.PartLaws.{part, part_shape, slot_back}

-- ---- a quotient by the share of the divisor

-- 2 ^ 32 divided by z, rounded up
abbrev share : ℕ → ℕ
share z = 4294967295 / z + 1

-- it gives back q for q times z: what it is too large by, q times over, is less than 2 ^ 32
share_exact : (z off q : ℕ) → 0 < z → off < 32768 → q * z ≡ off → off * share z / 4294967296 ≡ q
share_exact z off q some low e =
    let m : ℕ = 4294967295 / z in
    let whole = div-add-mod' 4294967295 z in let rest = mod-lt 4294967295 some in
    let over : ℕ = z - 1 - 4294967295 % z in
    let times : z * (m + 1) ≡ 4294967296 + over = mul_comm z (m + 1) ∙ (let a : (m + 1) * z ≡ m * z + z = omega arith in omega arith) in
    let little : q * over ≤ q * z = mul-le-mul_left {m = over} {n = z} q (omega arith) in
    let sum : off * (m + 1) ≡ q * 4294967296 + q * over =
    ap (λ (x : ℕ). x * (m + 1)) (sym e) ∙ mul_assoc q z (m + 1) ∙ ap (λ (x : ℕ). q * x) times ∙ mul-add q 4294967296 over in
    ap (λ (x : ℕ). x / 4294967296) sum ∙ high q 32 {lo = q * over} (omega arith)

-- so where its quotient times z is not the number, z does not divide it
share_other : (z off : ℕ) → 0 < z → off < 32768 → off * share z / 4294967296 * z ≢ off → off % z ≢ 0
share_other z off some low n e =
    let whole = div-add-mod' off z in
    let is : off / z * z ≡ off = omega arith in
    n (ap (λ (x : ℕ). x * z) (share_exact z off (off / z) some low is) ∙ is)

-- ---- one bit of a word, as the code tests it

tested : (w u : ℕ) → u < 64 → (bit_and w (1 * 2 ^ u % 2 ^ 64) ≡ 0 → bit w u ≡ 0) × (bit_and w (1 * 2 ^ u % 2 ^ 64) ≢ 0 → bit w u ≡ 1)
tested w u l = go (bit w u) (bit_le w u) (ap (bit_and w) (shifted 64 u l) ∙ one_left w u)
  where
    go : (v : ℕ) → v ≤ 1 → bit_and w (1 * 2 ^ u % 2 ^ 64) ≡ v * 2 ^ u
        → (bit_and w (1 * 2 ^ u % 2 ^ 64) ≡ 0 → v ≡ 0) × (bit_and w (1 * 2 ^ u % 2 ^ 64) ≢ 0 → v ≡ 1)
    go zero m e = ((λ _. refl), λ n. absurd (n (e ∙ omega arith)))
    go (suc zero) m e = let some = pow_pos u in ((λ z. absurd (omega arith)), λ _. refl)
    go (suc (suc v)) m e = absurd (omega arith)

-- ---- the slot at byte off of a run

-- a place in the pages of a run is one of 512
low_number : (b s : ℕ) → b < 30 → s * size b < 4096 * pages b → s < 512
low_number b s l h =
    let f = row_facts b l in
    let full = f.full in let few = f.slots_most in
    by_cases (dec_lt s 512) (λ x. x)
    (λ x. let a = mul-le-mul_right {m = 512} {n = s} (size b) (omega arith) in
    let d = mul-le-mul_right {m = slots b + 1} {n = 513} (size b) (omega arith) in
    let g : (slots b + 1) * size b ≡ slots b * size b + size b = omega arith in absurd (omega arith))

pub record Held (c : ℕ) (p : Pool) (rows opens : List ℕ) (g b off : ℕ) : Type 0 where
  pub sound : admit_of c p ≡ 0
  pub marks : Marks (512 * c) p rows opens
  pub run : kind_at p g ≡ Class b
  pub inside : g < 512 * c
  pub within : off < 4096 * pages b

-- its number, as the row of its class tells it
abbrev number_at : List ℕ → ℕ → ℕ → ℕ
number_at rows b off = off * get_or rows (144 * b + 140) 0 / 4294967296

-- what the code relies on
pub record Reckoned (rows opens : List ℕ) (g b off : ℕ) : Type 0 where
  pub low : g < 8192
  pub class : b < 30
  pub long : length rows ≡ 4320
  pub wide : length opens ≡ 8192
  pub fits : off * get_or rows (144 * b + 140) 0 < 2 ^ 64
  pub back : number_at rows b off * get_or rows (144 * b + 138) 0 < 2 ^ 64

module _ {c : ℕ} {p : Pool} {rows opens : List ℕ} {g b off : ℕ} (h : Held c p rows opens g b off) where
  bl : b < 30
  bl = class_at_low p g b h.run

  near : off < 32768
  near = let f = row_facts b bl in let within = h.within in omega arith

  abbrev row : Part p (lent_row rows b) opens
  row = part c p h.sound rows opens h.marks b bl

  cut : class.Cut b (get_or rows (144 * b + 138) 0) (get_or rows (144 * b + 139) 0)
  cut =
      let k = h.marks.cuts.cut b bl in
      record { size_is = sym (row_at rows b 138 (omega arith)) ∙ k.bytes; slots_is = sym (row_at rows b 139 (omega arith)) ∙ k.count }

  part_is : get_or rows (144 * b + 140) 0 ≡ share (get_or rows (144 * b + 138) 0)
  part_is = sym (row_at rows b 140 (omega arith)) ∙ (h.marks.cuts.cut b bl).share ∙ ap share (sym cut.size_is)

  some : 0 < get_or rows (144 * b + 138) 0
  some = let f = row_facts b bl in let e = cut.size_is in omega arith

  pub reckoned : Reckoned rows opens g b off
  reckoned =
      let f = row_facts b bl in let s = part_shape row in let i = h.inside in let n = near in let bytes = cut.size_is in let part = part_is in
      let little = div-le_self 4294967295 (get_or rows (144 * b + 138) 0) in
      let prod : off * get_or rows (144 * b + 140) 0 ≤ 32768 * 4294967296 =
      mul-le-mul {n₁ = off} {m₁ = get_or rows (144 * b + 140) 0} {n₂ = 32768} {m₂ = 4294967296} (omega arith) (omega arith) in
      let twice : number_at rows b off * get_or rows (144 * b + 138) 0 ≤ 32768 * 3072 =
      mul-le-mul {n₁ = number_at rows b off} {m₁ = get_or rows (144 * b + 138) 0} {n₂ = 32768} {m₂ = 3072} (omega arith) (omega arith) in
      record { low = omega arith; class = bl; long = h.marks.cuts.long; wide = h.marks.wide; fits = omega arith; back = omega arith }

  refused : {x : Spot} → x ≡ slot_spot p.slots g b off → leaves (released x) (give_back p x) ≡ giving p g b off
  unfolding giving
  refused e = ap (λ (x : Spot). leaves (released x) (give_back p x)) e

  -- no slot starts there
  pub gave_between : number_at rows b off * get_or rows (144 * b + 138) 0 ≢ off → leaves no_block p ≡ giving p g b off
  gave_between n =
      refused (slot_between p.slots g b off cut (share_other (get_or rows (144 * b + 138) 0) off some near (λ e. n (rw part_is e))))

  module _ (exact : number_at rows b off * get_or rows (144 * b + 138) 0 ≡ off) where
    abbrev s : ℕ
    s = number_at rows b off

    abbrev word : ℕ
    word = get_or p.slots (8 * g + s / 64) 0

    abbrev one : ℕ
    one = 1 * 2 ^ (s % 64) % 2 ^ 64

    divides : off % get_or rows (144 * b + 138) 0 ≡ 0
    divides = ap (λ (x : ℕ). x % get_or rows (144 * b + 138) 0) (sym exact) ∙ mul-mod_left s (get_or rows (144 * b + 138) 0)

    number : off / get_or rows (144 * b + 138) 0 ≡ s
    number = ap (λ (x : ℕ). x / get_or rows (144 * b + 138) 0) (sym exact) ∙ mul-div_left s some

    pub number_low : s < 512
    number_low = low_number b s bl (rw (sym cut.size_is, exact) h.within)

    pub word_inside : 8 * g + s / 64 < length p.slots
    word_inside = let l = number_low in let d = part_shape row in let i = h.inside in omega arith

    place_bit : bit_at p.slots (512 * g + s) ≡ bit word (s % 64)
    place_bit = bit_of p.slots (512 * g + s) (8 * g + s / 64) (s % 64) (omega arith) (omega arith)

    -- it is not one of the run's
    pub gave_behind : get_or rows (144 * b + 139) 0 ≤ s → leaves no_block p ≡ giving p g b off
    gave_behind l = refused (slot_behind p.slots g b off cut divides (rw number l))

    -- it is free
    pub gave_free : s < get_or rows (144 * b + 139) 0 → bit_and word one ≡ 0 → leaves free_slot p ≡ giving p g b off
    gave_free l e =
        refused (slot_free p.slots g b off cut divides (rw number l)
        (rw number (zero_clear p.slots (512 * g + s) (place_bit ∙ (tested word (s % 64) (omega arith)).0 e))))

    module _ (n : bit_and word one ≢ 0) where
      pub taken_bit : bit_at p.slots (512 * g + s) ≡ 1
      taken_bit = place_bit ∙ (tested word (s % 64) (omega arith)).1 n

      pub taken_low : one ≤ word
      taken_low = let e = shifted 64 (s % 64) (omega arith) in let l = one_le word (s % 64) (sym place_bit ∙ taken_bit) in omega arith

      -- behind the last slot all bits are 0
      few : s < slots b
      few =
          let l = number_low in let one = sym place_bit ∙ taken_bit in
          by_cases (dec_lt s (slots b)) (λ x. x)
          (λ x. let none = behind_clear c p row.good g b h.inside h.run (s / 64) (s % 64) (omega arith) (omega arith) (omega arith) in absurd (omega arith))

      abbrev o : ℕ
      o = bit_or (get_or opens g 0) (1 * 2 ^ (s / 64) % 2 ^ 8)

      -- it was taken
      pub gave_slot : (q : Pool) (row' : List ℕ) → q ≡ put_slot 0 p g s → row' ≡ marked (lent_row rows b) g true
          → (leaves 0 q ≡ giving p g b off) × Marks (512 * c) q (put_mid (144 * b) (144 * b + 144 - 144 * b) rows row') (set opens g o)
      gave_slot q row' e f =
          let l = number_low in let k = few in let count = cut.slots_is in
          let is : o ≡ bit_or (get_or opens g 0) (2 ^ (s / 64)) =
          ap (bit_or (get_or opens g 0)) (shl_exact {a = 1} 1 (s / 64) 8 (omega arith) (omega arith) ∙ omega arith) in
          let found : Slot g b s ≡ slot_spot p.slots g b off =
          ap (Slot g b) (sym number) ∙ slot_taken p.slots g b off cut divides (rw number (omega arith)) (rw number (one_set p.slots (512 * g + s) taken_bit)) in (
            ap (leaves 0) e ∙ refused found,
            rows_back rows row' b
                (slot_back row 0 (omega arith) h.inside h.run (omega arith) (omega arith) (omega arith) {d = 1} (omega arith)
                ((λ _. record { place = s % 64; few = omega arith; free = put_same 0 word (s % 64) (omega arith) (omega arith) }), λ x. absurd (omega arith)) is e
                (f ∙ ap (marked (lent_row rows b) g) (sym (ap not (ne_eqb o 0 (λ z. put_some (get_or opens g 0) (s / 64) (omega arith) (sym is ∙ z))))))),
          )
