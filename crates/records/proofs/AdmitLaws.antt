-- What the check's answer tells a call: refusals 1 and 2, and the pool that it admits. Assumes nothing.
use mathlib.Core.Path.{◌≡◌, refl, sym, ap, ◌∙◌}
use mathlib.Core.Bool.{Bool, true, false, cond}
use Prim.Native.Nat.{ℕ, ◌*◌, ◌≤◌}
use native.Mathlib.Omega.{arith}
use lib.Dec.{eqb, leb}
use lib.ListN.{length}
use borrow.Author.Tests.{leb-true, eqb-true, le-leb, eq-eqb}
use Rattle.records.specs.Pool.{Pool}
use Rattle.records.specs.Sound.{sound}
use Rattle.records.specs.Calls.{shaped, fit, shape_of, admit_of}
use Rattle.records.proofs.Flags.{and_made, and_left, and_right}

-- the shape of a pool of c chunks
pub record Lengths (c nbits nwords nslots : ℕ) : Type 0 where
  pub some_chunk : 1 ≤ c
  pub few : c ≤ 16
  pub bits_long : nbits ≡ 8 * c
  pub words_long : nwords ≡ 512 * c
  pub slots_long : nslots ≡ 4096 * c

module _ (c nbits nwords nslots : ℕ) where
  pub shaped_lengths : shaped c nbits nwords nslots ≡ true → Lengths c nbits nwords nslots
  unfolding shaped
  shaped_lengths e =
      let e₁ = and_right (leb 1 c) _ e in
      let e₂ = and_right (leb c 16) _ e₁ in
      let e₃ = and_right (eqb nbits (8 * c)) _ e₂ in
      record {
        some_chunk = leb-true 1 c (and_left (leb 1 c) _ e);
        few = leb-true c 16 (and_left (leb c 16) _ e₁);
        bits_long = eqb-true nbits (8 * c) (and_left (eqb nbits (8 * c)) _ e₂);
        words_long = eqb-true nwords (512 * c) (and_left (eqb nwords (512 * c)) _ e₃);
        slots_long = eqb-true nslots (4096 * c) (and_right (eqb nwords (512 * c)) _ e₃);
      }

  pub lengths_shaped : Lengths c nbits nwords nslots → true ≡ shaped c nbits nwords nslots
  unfolding shaped
  lengths_shaped s =
      sym
      (and_made (leb 1 c) _ (le-leb 1 c s.some_chunk)
      (and_made (leb c 16) _ (le-leb c 16 s.few)
      (and_made (eqb nbits (8 * c)) _ (eq-eqb nbits (8 * c) s.bits_long)
      (and_made (eqb nwords (512 * c)) _ (eq-eqb nwords (512 * c) s.words_long) (eq-eqb nslots (4096 * c) s.slots_long)))))

abbrev pub Shape : ℕ → Pool → Type 0
Shape c p = Lengths c (length p.bits) (length p.words) (length p.slots)

module _ (c : ℕ) (p : Pool) where
  -- ---- the answer

  pub shape_unfit : fit c p ≡ false → ◌≡◌ {A = ℕ} 1 (shape_of c p)
  unfolding shape_of
  shape_unfit e = sym (ap (λ (t : Bool). cond {A = ℕ} t 0 1) e)

  pub shape_fit : fit c p ≡ true → ◌≡◌ {A = ℕ} 0 (shape_of c p)
  unfolding shape_of
  shape_fit e = sym (ap (λ (t : Bool). cond {A = ℕ} t 0 1) e)

  pub shape_fits : shape_of c p ≡ 0 → fit c p ≡ true
  unfolding shape_of
  shape_fits h = go (fit c p) h
    where
      go : (v : Bool) → ◌≡◌ {A = ℕ} (cond v 0 1) 0 → v ≡ true
      go true z = refl
      go false z = absurd (omega arith)

  pub admit_unfit : fit c p ≡ false → ◌≡◌ {A = ℕ} 1 (admit_of c p)
  unfolding admit_of
  admit_unfit e = sym (ap (λ (t : Bool). cond {A = ℕ} t (cond (sound c p) 0 2) 1) e)

  pub admit_fit : fit c p ≡ true → (v : Bool) → v ≡ sound c p → ◌≡◌ {A = ℕ} (cond v 0 2) (admit_of c p)
  unfolding admit_of
  admit_fit e v s = ap (λ (t : Bool). cond {A = ℕ} t 0 2) s ∙ sym (ap (λ (t : Bool). cond {A = ℕ} t (cond (sound c p) 0 2) 1) e)

  pub record Admitted : Type 0 where
    pub shape : Shape c p
    pub whole : sound c p ≡ true

  pub admitted : admit_of c p ≡ 0 → Admitted
  unfolding admit_of
  admitted h = go (fit c p) (sound c p) refl refl h
    where
      go : (v u : Bool) → fit c p ≡ v → sound c p ≡ u → ◌≡◌ {A = ℕ} (cond v (cond u 0 2) 1) 0 → Admitted
      go true true e f z = record { shape = shaped_lengths c (length p.bits) (length p.words) (length p.slots) e; whole = f }
      go true false e f z = absurd (omega arith)
      go false u e f z = absurd (omega arith)
