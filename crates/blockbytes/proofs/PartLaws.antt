-- The part of a block, and the arena that it lies in. Assumes nothing.
use mathlib.Core.Path.{◌≡◌, refl, sym, ap, ap₂, ◌∙◌, subst}
use mathlib.Core.Logic.{◌≢◌, by_cases}
use mathlib.Core.Bool.{Bool, true, false, cond, ◌&&◌}
use mathlib.Core.List.{List}
use Prim.Native.Nat.{ℕ, zero, suc, ◌+◌, ◌-◌, ◌*◌, ◌≤◌, ◌<◌}
use native.Mathlib.Nat.{add-sub_cancel_left}
use native.Mathlib.Decide.{ℕ_discrete}
use native.Mathlib.Omega.{arith}
use lib.Dec.{eqb, leb}
use lib.ListN.{length, take, drop, length-drop}
use lib.Seq.{length-take-le}
use borrow.Author.Tests.{eqb-true, le-leb, lt-leb}
use Rattle.refusals.specs.Refusals.{unless, shape}
use Rattle.records.specs.Pool.{Pool}
use Rattle.records.specs.Calls.{admit_of}
use Rattle.records.proofs.Flags.{eq_cases, cond_eq, cond_ne, and_right}
use Rattle.release.specs.declared.Sized.{Sized}
use Rattle.release.specs.Release.{spot, sized, size_at, size_of}
use Rattle.release.proofs.MeanLaws.{size_inside}
use Rattle.blockbytes.specs.declared.Part.{Part}
use Rattle.blockbytes.specs.Bytes.{chosen, ear_fits, part, part_at, part_of, bytes_of, bytes_refusal_of}

-- ---- the chosen arena

module _ (ear c nleft nright : ℕ) where
  pub fits_left : {v : Bool} → ear ≡ 0 → v ≡ eqb nleft (2097152 * c) → v ≡ ear_fits ear c (chosen ear nleft nright)
  unfolding ear_fits
  fits_left e f =
      f ∙ sym (ap (λ (n : ℕ). eqb n (2097152 * c)) (cond_eq ear 0 nleft nright e))
      ∙ sym (ap (λ (t : Bool). t && eqb (chosen ear nleft nright) (2097152 * c)) (le-leb ear 1 (omega arith)))

  pub fits_right : {v : Bool} → ear ≡ 1 → v ≡ eqb nright (2097152 * c) → v ≡ ear_fits ear c (chosen ear nleft nright)
  unfolding ear_fits
  fits_right e f =
      f ∙ sym (ap (λ (n : ℕ). eqb n (2097152 * c)) (cond_ne ear 0 nleft nright (λ z. omega arith)))
      ∙ sym (ap (λ (t : Bool). t && eqb (chosen ear nleft nright) (2097152 * c)) (le-leb ear 1 (omega arith)))

  pub fits_neither : 1 < ear → false ≡ ear_fits ear c (chosen ear nleft nright)
  unfolding ear_fits
  fits_neither h = sym (ap (λ (t : Bool). t && eqb (chosen ear nleft nright) (2097152 * c)) (lt-leb ear 1 h))

fits_long : (ear c n : ℕ) → ear_fits ear c n ≡ true → n ≡ 2097152 * c
unfolding ear_fits
fits_long ear c n e = eqb-true n (2097152 * c) (and_right (leb ear 1) (eqb n (2097152 * c)) e)

-- ---- the part

module _ (ear c : ℕ) (p : Pool) (q nleft nright : ℕ) where
  part_by : {v u : Bool} → v ≡ ear_fits ear c (chosen ear nleft nright) → v ≡ u
      → cond u (part_at q (size_of c p q)) (part shape 0 0) ≡ part_of ear c p q nleft nright
  unfolding part_of
  part_by e f = ap (λ (t : Bool). cond t (part_at q (size_of c p q)) (part shape 0 0)) (sym f ∙ e)

  pub part_unfit : {v : Bool} → v ≡ ear_fits ear c (chosen ear nleft nright) → v ≡ false → part shape 0 0 ≡ part_of ear c p q nleft nright
  part_unfit e f = part_by e f

  module _ {v : Bool} {s : Sized} (e : v ≡ ear_fits ear c (chosen ear nleft nright)) (f : v ≡ true) (h : s ≡ size_of c p q) where
    pub part_refused : s.refusal ≢ 0 → part s.refusal 0 0 ≡ part_of ear c p q nleft nright
    part_refused z = sym (cond_ne s.refusal 0 _ _ z) ∙ ap (part_at q) h ∙ part_by e f

    pub part_served : s.refusal ≡ 0 → part 0 q s.size ≡ part_of ear c p q nleft nright
    part_served z = sym (cond_eq s.refusal 0 _ _ z) ∙ ap (part_at q) h ∙ part_by e f

-- ---- the part lies in the chosen arena

-- a part in n bytes: as block size gives it, or a refusal and nothing
data In (c : ℕ) (p : Pool) (q n : ℕ) : Part → Type 0 where
  given : 0 < (size_of c p q).size → q + (size_of c p q).size ≤ n → In c p q n (part 0 q (size_of c p q).size)
  none : (r : ℕ) → In c p q n (part (suc r) 0 0)

none_in : (c : ℕ) (p : Pool) (q n r : ℕ) → r ≢ 0 → In c p q n (part r 0 0)
none_in c p q n zero z = absurd (z refl)
none_in c p q n (suc r) z = none r

module _ (ear c : ℕ) (p : Pool) (q nleft nright : ℕ) where
  part_in : In c p q (chosen ear nleft nright) (part_of ear c p q nleft nright)
  unfolding part_of
  part_in = go (ear_fits ear c (chosen ear nleft nright)) refl
    where
      go : (v : Bool) → ear_fits ear c (chosen ear nleft nright) ≡ v
          → In c p q (chosen ear nleft nright) (cond v (part_at q (size_of c p q)) (part shape 0 0))
      go true e =
          eq_cases (In c p q (chosen ear nleft nright)) (size_of c p q).refusal 0
          (λ z. let h = size_inside c p q z in
          given h.some (subst (λ (n : ℕ). q + (size_of c p q).size ≤ n) (sym (fits_long ear c (chosen ear nleft nright) e)) h.inside))
          (λ z. none_in c p q (chosen ear nleft nright) (size_of c p q).refusal z)
      go false e = none 0

-- ---- a refusal

in_none : {c : ℕ} {p : Pool} {q n : ℕ} {x : Part} (r : ℕ) → In c p q n x → x.refusal ≡ suc r → x ≡ part (suc r) 0 0
in_none r (given z h) e = absurd (omega arith)
in_none r (none s) e = ap (λ (k : ℕ). part k 0 0) e

module _ (ear c : ℕ) (p : Pool) (q nleft nright r : ℕ) where
  pub part_kept : (part_of ear c p q nleft nright).refusal ≡ suc r → part_of ear c p q nleft nright ≡ part (suc r) 0 0
  part_kept e = in_none r (part_in ear c p q nleft nright) e

  -- ear and arena come first, then the records
  pub part_checked : cond (ear_fits ear c (chosen ear nleft nright)) (admit_of c p) shape ≡ suc r → part_of ear c p q nleft nright ≡ part (suc r) 0 0
  unfolding part_of size_of
  part_checked e = go (ear_fits ear c (chosen ear nleft nright)) (admit_of c p) e
    where
      go : (v : Bool) (a : ℕ) → cond v a shape ≡ suc r
          → cond v (part_at q (unless a (λ r. sized r 0) (size_at (spot c p q)))) (part shape 0 0) ≡ part (suc r) 0 0
      go true zero f = absurd (omega arith)
      go true (suc a) f = cond_ne (suc a) 0 (part 0 q 0) (part (suc a) 0 0) (omega arith) ∙ ap (λ (k : ℕ). part k 0 0) f
      go false a f = ap (λ (k : ℕ). part k 0 0) f

-- ---- inside the arena

in_ends : {c : ℕ} {p : Pool} {q n : ℕ} {x : Part} → In c p q n x → x.start + x.size ≤ n
in_ends (given z h) = h
in_ends (none r) = omega arith

module _ (ear c : ℕ) (p : Pool) (q nleft nright : ℕ) {x : Part} (e : x ≡ part_of ear c p q nleft nright) where
  ends : x.start + x.size ≤ chosen ear nleft nright
  ends = in_ends (subst (In c p q (chosen ear nleft nright)) (sym e) (part_in ear c p q nleft nright))

  pub ends_left : ear ≡ 0 → x.start + x.size ≤ nleft
  ends_left h = subst (λ (n : ℕ). x.start + x.size ≤ n) (cond_eq ear 0 nleft nright h) ends

  pub ends_right : ear ≢ 0 → x.start + x.size ≤ nright
  ends_right h = subst (λ (n : ℕ). x.start + x.size ≤ n) (cond_ne ear 0 nleft nright h) ends

  pub ends_low : (m : ℕ) → nleft < m → nright < m → x.start + x.size < m
  ends_low m a b =
      by_cases (ℕ_discrete ear 0) (λ h. let k = ends_left h in omega arith) (λ h. let k = ends_right h in omega arith)

-- ---- the part's bytes

module _ (ear c : ℕ) (p : Pool) (q : ℕ) (left right : List ℕ) {x : Part} (e : x ≡ part_of ear c p q (length left) (length right)) where
  taken : {l : List ℕ} → chosen ear left right ≡ l → take (x.start + x.size - x.start) (drop x.start l) ≡ bytes_of ear c p q left right
  unfolding bytes_of
  taken {l = l} h =
      ap (λ (n : ℕ). take n (drop x.start l)) (add-sub_cancel_left x.start x.size)
      ∙ ap₂ (λ (y : Part) (k : List ℕ). take y.size (drop y.start k)) e (sym h)

  pub bytes_left : ear ≡ 0 → take (x.start + x.size - x.start) (drop x.start left) ≡ bytes_of ear c p q left right
  bytes_left h = taken (cond_eq ear 0 left right h)

  pub bytes_right : ear ≢ 0 → take (x.start + x.size - x.start) (drop x.start right) ≡ bytes_of ear c p q left right
  bytes_right h = taken (cond_ne ear 0 left right h)

  pub refusal_as : x.refusal ≡ bytes_refusal_of ear c p q left right
  unfolding bytes_refusal_of
  refusal_as = ap (λ (y : Part). y.refusal) e

-- ---- what the part is

module _ (ear c : ℕ) (p : Pool) (q : ℕ) (left right : List ℕ) where
  chosen_long : length (chosen ear left right) ≡ chosen ear (length left) (length right)
  chosen_long = go (eqb ear 0)
    where
      go : (v : Bool) → length (cond v left right) ≡ cond v (length left) (length right)
      go true = refl
      go false = refl

  -- all bytes of a part are there
  part_long : {x : Part} → x ≡ part_of ear c p q (length left) (length right)
      → length (take x.size (drop x.start (chosen ear left right))) ≡ x.size
  part_long {x} e =
      let h = ends ear c p q (length left) (length right) e in
      let n = chosen_long in
      let d = length-drop x.start (chosen ear left right) in length-take-le x.size (drop x.start (chosen ear left right)) (omega arith)

  module _ (fits : ear_fits ear c (chosen ear (length left) (length right)) ≡ true) where
    -- a block of z bytes at the place
    pub bytes_cut : (z : ℕ) → size_of c p q ≡ sized 0 z
        → (bytes_refusal_of ear c p q left right ≡ 0)
        × (bytes_of ear c p q left right ≡ take z (drop q (chosen ear left right)))
        × (length (bytes_of ear c p q left right) ≡ z)
    unfolding bytes_of bytes_refusal_of
    bytes_cut z e =
        let is = part_served ear c p q (length left) (length right) (sym fits) refl (sym e) refl in
        let cut = ap (λ (x : Part). take x.size (drop x.start (chosen ear left right))) (sym is) in
        (ap (λ (x : Part). x.refusal) (sym is), cut, ap length cut ∙ part_long is)

    -- none
    pub bytes_none : (r : ℕ) → size_of c p q ≡ sized (suc r) 0 → bytes_refusal_of ear c p q left right ≡ suc r
    unfolding bytes_refusal_of
    bytes_none r e =
        ap (λ (x : Part). x.refusal)
        (sym (part_refused ear c p q (length left) (length right) {s = sized (suc r) 0} (sym fits) refl (sym e) (omega arith)))
