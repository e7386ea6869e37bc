-- What starts at a place, by what the place lies in. Assumes nothing.
use mathlib.Core.Path.{◌≡◌, refl, sym, ap, ap₂, ◌∙◌, subst}
use mathlib.Core.Logic.{◌≢◌, ⊎_elim}
use mathlib.Core.Bool.{Bool, true, false, cond}
use mathlib.Core.Option.{some, none-ne-some, some-injective}
use mathlib.Core.List.{List, []}
use Prim.Native.Nat.{ℕ, zero, suc, ◌+◌, ◌-◌, ◌*◌, ◌/◌, ◌%◌, ◌≤◌, ◌<◌}
use native.Mathlib.Omega.{arith}
use lib.Dec.{ltb}
use lib.ListN.{length, get_or}
use Rattle.refusals.specs.Refusals.{no_block, free_slot}
use Rattle.bitrow.specs.Row.{is_set}
use Rattle.classes.specs.Classes.{size}
use Rattle.classes.proofs.ClassLaws.{Cut}
use Rattle.records.specs.declared.Kind.{Kind}
use Rattle.records.specs.declared.Kind.TheVariants.{Edge, Free, Damaged, Large, Class, Inner}
use Rattle.records.specs.Kinds.{inner_word, behind, span_of}
use Rattle.records.specs.Pool.{Pool, kind_at}
use Rattle.records.specs.Sound.{step, sound}
use Rattle.records.specs.Calls.{admit_of}
use Rattle.records.specs.Runs.{InRun, Lies}
use Rattle.records.proofs.Flags.{cond_eq, cond_ne, cond_lt, cond_nlt}
use Rattle.records.proofs.KindLaws.{length_zeros, length_inner, get_or_inner, Bare}
use Rattle.records.proofs.WalkLaws.{walk, Home, sound_walks, walk_home}
use Rattle.records.proofs.RunLaws.{walk_run, class_at_low}
use Rattle.records.proofs.AdmitLaws.{admitted}
use Rattle.release.specs.declared.Spot.TheVariants.{Nowhere, Run, Slot}
use Rattle.release.specs.Release.{is_inner, first_page, slot_spot, spot_in, spot_from, spot}

-- ---- the first page of a run

first_step : (p : Pool) (g : ℕ) (v : Bool) → is_inner (kind_at p (suc g)) ≡ v → first_page p (suc g) ≡ cond v (first_page p g) (suc g)
unfolding first_page
first_step p g v e = ap (λ (t : Bool). cond t (first_page p g) (suc g)) e

-- a page that is not inside a run
first_self : (p : Pool) (g : ℕ) → is_inner (kind_at p g) ≡ false → first_page p g ≡ g
unfolding first_page
first_self p zero e = refl
first_self p (suc g) e = first_step p g false e

-- a page of a run that starts at page f
first_run : (p : Pool) (f d g : ℕ) → f + d ≡ g → is_inner (kind_at p f) ≡ false → ((i : ℕ) → f < i → i ≤ g → is_inner (kind_at p i) ≡ true) → first_page p g ≡ f
first_run p f zero g r e h = let q : f ≡ g = omega arith in ap (first_page p) (sym q) ∙ first_self p f e
first_run p f (suc d) zero r e h = absurd (omega arith)
first_run p f (suc d) (suc g) r e h =
    first_step p g true (h (suc g) (omega arith) (omega arith)) ∙ first_run p f d g (omega arith) e (λ i a b. h i a (omega arith))

-- ---- a page of good records

starts : (k : Kind) → 0 < span_of k → is_inner k ≡ false
starts Edge h = refl
starts Free h = refl
starts Damaged h = refl
starts (Large k) h = refl
starts (Class b) h = refl
starts (Inner w) h = absurd (omega arith)

module _ (c : ℕ) (p : Pool) (s : sound c p ≡ true) where
  steps : walk (kind_at p) [] 0 (512 * c) ≡ true
  steps = (sound_walks c p s).walks

  -- page g lies in the run that starts at page f
  pub in_run : (f g : ℕ) → f < 512 * c → InRun p f g → first_page p g ≡ f
  in_run f g l r =
      let a = r.low in let b = r.high in
      let w = walk_run (kind_at p) (512 * c) f steps l (omega arith) in
      first_run p f (g - f) g (omega arith) (starts (kind_at p f) (omega arith))
      (λ i x y. ap is_inner (w.rest i x (omega arith)))

  -- the run that a page with the word 0 inside one lies in is large
  large_home : (g : ℕ) (h : Home (kind_at p) 0 g 0) (k : Kind) → kind_at p h.first ≡ k → step [] k ≡ some h.words
      → (n : ℕ) × (kind_at p h.first ≡ Large n) × (g < h.first + suc n)
  large_home g h Edge e x = let n : 0 ≡ length h.words = ap length (some-injective _ _ x) in let f = h.fits in absurd (omega arith)
  large_home g h Free e x = let n : 0 ≡ length h.words = ap length (some-injective _ _ x) in let f = h.fits in absurd (omega arith)
  large_home g h Damaged e x = absurd (none-ne-some _ x)
  large_home g h (Large n) e x =
      let f = h.fits in let b = h.below in
      let m : n ≡ length h.words = sym (length_zeros n) ∙ ap length (some-injective _ _ x) in
      (n, e, omega arith)
  large_home g h (Class b) e x =
      let f = h.fits in
      let m : behind b ≡ length h.words = sym (length_inner b 1 (behind b)) ∙ ap length (some-injective _ _ x) in
      let v : 0 ≡ inner_word b (1 + (g - suc h.first)) =
      h.word ∙ ap (λ (l : List ℕ). get_or l (g - suc h.first) 0) (sym (some-injective _ _ x))
      ∙ get_or_inner b 1 (behind b) (g - suc h.first) (omega arith) in
      absurd (omega arith)
  large_home g h (Inner w) e x = absurd (none-ne-some _ x)

-- ---- the ways out

pub spot_outside : (c : ℕ) (p : Pool) (q : ℕ) → 512 * c ≤ q / 4096 → Nowhere no_block ≡ spot c p q
unfolding spot
spot_outside c p q h = sym (cond_nlt (q / 4096) (512 * c) _ _ h)

module _ (c : ℕ) (p : Pool) (ok : admit_of c p ≡ 0) (q : ℕ) (l : q / 4096 < 512 * c) where
  whole : sound c p ≡ true
  whole = (admitted c p ok).whole

  -- the run that the place lies in starts at page f and is of the kind k
  spot_in_lem : (f : ℕ) (k : Kind) → first_page p (q / 4096) ≡ f → kind_at p f ≡ k → spot_in p f (q - 4096 * f) k ≡ spot c p q
  unfolding spot
  spot_in_lem f k e h =
      sym (cond_lt (q / 4096) (512 * c) (spot_from p q (first_page p (q / 4096))) (Nowhere no_block) l ∙ ap (spot_from p q) e
      ∙ ap (spot_in p f (q - 4096 * f)) h)

  -- page f tells what the place lies in
  module _ (f : ℕ) where
    -- it is the place's own page, and not inside a run
    spot_self : (k : Kind) → f ≡ q / 4096 → k ≡ kind_at p f → is_inner k ≡ false → spot_in p f (q - 4096 * f) k ≡ spot c p q
    spot_self k e h z = spot_in_lem f k (ap (first_page p) (sym e) ∙ first_self p f (ap is_inner (sym h) ∙ z)) (sym h)

    pub lies_class : (b : ℕ) → Lies p (q / 4096) f (Class b)
        → (f < 512 * c) × (b < 30) × (4096 * f ≤ q) × (slot_spot p.slots f b (q - 4096 * f) ≡ spot c p q)
    lies_class b r =
        let i = r.by in let a = i.low in (
          omega arith,
          class_at_low p f b (sym r.is),
          omega arith,
          spot_in_lem f (Class b) (in_run c p whole f (q / 4096) (omega arith) i) (sym r.is),
        )

    pub lies_first : (k : ℕ) → Lies p (q / 4096) f (Large k) → q % 4096 ≡ 0 → Run f k ≡ spot c p q
    lies_first k r z = let s = r.by in sym (cond_eq (q - 4096 * f) 0 _ _ (omega arith)) ∙ spot_self (Large k) s r.is refl

    pub lies_behind : (k : ℕ) → Lies p (q / 4096) f (Large k) → q % 4096 ≢ 0 → Nowhere no_block ≡ spot c p q
    lies_behind k r z = let s = r.by in sym (cond_ne (q - 4096 * f) 0 _ _ (omega arith)) ∙ spot_self (Large k) s r.is refl

    -- a page inside a large run
    lies_inside : f ≡ q / 4096 → kind_at p f ≡ Inner 0 → Nowhere no_block ≡ spot c p q
    lies_inside e x =
        ⊎_elim (λ y. absurd (omega (arith, y.0))) (λ y. inside y)
        (walk_home (kind_at p) (512 * c) [] 0 (q / 4096) 0 (sound_walks c p whole).walks (omega arith) (omega arith) (ap (kind_at p) (sym e) ∙ x))
      where
        inside : Home (kind_at p) 0 (q / 4096) 0 → Nowhere no_block ≡ spot c p q
        inside h =
            let (n, e, u) = large_home c p whole (q / 4096) h (kind_at p h.first) refl h.begins in
            let b = h.below in
            let span : span_of (kind_at p h.first) ≡ suc n = ap span_of e in
            let r : InRun p h.first (q / 4096) = record { low = omega arith; high = omega arith } in
            sym (cond_ne (q - 4096 * h.first) 0 (Run h.first n) (Nowhere no_block) (omega arith))
            ∙ spot_in_lem h.first (Large n) (in_run c p whole h.first (q / 4096) (omega arith) r) e

    pub lies_bare : (k : Kind) → Bare k → Lies p (q / 4096) f k → Nowhere no_block ≡ spot c p q
    lies_bare Edge h r = spot_self Edge r.by r.is refl
    lies_bare Free h r = spot_self Free r.by r.is refl
    lies_bare Damaged h r = spot_self Damaged r.by r.is refl
    lies_bare (Large k) h r = absurd h
    lies_bare (Class b) h r = absurd h
    lies_bare (Inner w) h r = lies_inside r.by.0 (sym r.is ∙ ap Inner r.by.1)

-- ---- a slot

module _ (ss : List ℕ) (g b off : ℕ) {z n : ℕ} (k : Cut b z n) where
  pub slot_between : off % z ≢ 0 → Nowhere no_block ≡ slot_spot ss g b off
  unfolding slot_spot
  slot_between h = sym (cond_ne (off % size b) 0 _ _ (subst (λ (x : ℕ). off % x ≢ 0) k.size_is h))

  slot_number : off % z ≡ 0
      → slot_spot ss g b off ≡ cond (ltb (off / z) n) (cond (is_set ss (512 * g + off / z)) (Slot g b (off / z)) (Nowhere free_slot)) (Nowhere no_block)
  unfolding slot_spot
  slot_number h =
      cond_eq (off % size b) 0 _ _ (subst (λ (x : ℕ). off % x ≡ 0) k.size_is h)
      ∙ ap₂ (λ (x y : ℕ). cond (ltb (off / x) y) (cond (is_set ss (512 * g + off / x)) (Slot g b (off / x)) (Nowhere free_slot)) (Nowhere no_block))
      (sym k.size_is) (sym k.slots_is)

  pub slot_behind : off % z ≡ 0 → n ≤ off / z → Nowhere no_block ≡ slot_spot ss g b off
  slot_behind h l = sym (slot_number h ∙ cond_nlt (off / z) n _ _ l)

  pub slot_taken : off % z ≡ 0 → off / z < n → is_set ss (512 * g + off / z) ≡ true → Slot g b (off / z) ≡ slot_spot ss g b off
  slot_taken h l e = sym (slot_number h ∙ cond_lt (off / z) n _ _ l ∙ ap (λ (t : Bool). cond t (Slot g b (off / z)) (Nowhere free_slot)) e)

  pub slot_free : off % z ≡ 0 → off / z < n → is_set ss (512 * g + off / z) ≡ false → Nowhere free_slot ≡ slot_spot ss g b off
  slot_free h l e = sym (slot_number h ∙ cond_lt (off / z) n _ _ l ∙ ap (λ (t : Bool). cond t (Slot g b (off / z)) (Nowhere free_slot)) e)
