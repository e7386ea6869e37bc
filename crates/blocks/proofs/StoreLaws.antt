-- What the stores of a run and of a slot leave: the pages and slots that they name, and all others as they were. Assumes nothing.
use Rattle.std.proofs.Common.{◌≡◌, ℕ, zero, suc, ◌+◌, ◌*◌, ◌%◌, ◌<◌, ◌≤◌, Bool, true, false, eqb, ◌≢◌, ◌⊎◌, List, [], ◌∷◌, length, get_or, set, sym, refl, ap, ◌∙◌, ap₂, inl, inr, ⊎_elim, arith, length-set, get_or-set_other, get_or-set_same, eq-eqb, ne_eqb}
use lib.Seq.{sets, length-sets, set-get_or}
use Rattle.bitrow.specs.Row.{bit_at, is_set}
use Rattle.bitrow.proofs.Marks.{length_put_bit, length_put_bits, put_bits_in, is_set_same, is_set_other, is_set_in, is_set_out}
use Rattle.records.specs.declared.Kind.{Kind}
use Rattle.records.specs.declared.Kind.TheVariants.{Free}
use Rattle.records.specs.Kinds.{kind_of, zeros}
use Rattle.records.specs.Pool.{Pool, is_edge, kind_at, slot_at}
use Rattle.records.specs.Calls.{fit}
use Rattle.records.proofs.Flags.{eq_cases}
use Rattle.records.proofs.AdmitLaws.{Shape}
use Rattle.blocks.specs.Stores.{put_run, put_slot}

-- ---- words stored one after the other

sets_out : (l : List ℕ) (i : ℕ) (ws : List ℕ) (j : ℕ) → (j < i) ⊎ (i + length ws ≤ j) → get_or (sets l i ws) j 0 ≡ get_or l j 0
sets_out l i [] j o = refl
sets_out l i (w ∷ ws) j o =
    sets_out (set l i w) (suc i) ws j (⊎_elim (λ a. inl (omega arith)) (λ a. inr (omega arith)) o)
    ∙ get_or-set_other l i j w 0 (λ e. ⊎_elim (λ a. omega arith) (λ a. omega arith) o)

sets_in : (l : List ℕ) (i : ℕ) (ws : List ℕ) (k j : ℕ) → i + k ≡ j → k < length ws → i + length ws ≤ length l
    → get_or (sets l i ws) j 0 ≡ get_or ws k 0
sets_in l i [] k j e h r = absurd (omega arith)
sets_in l i (w ∷ ws) zero j e h r =
    let here : j ≡ i = omega arith in
    sets_out (set l i w) (suc i) ws j (inl (omega arith)) ∙ rw here (get_or-set_same l i w 0 (omega arith))
sets_in l i (w ∷ ws) (suc k) j e h r = sets_in (set l i w) (suc i) ws k j (omega arith) (omega arith) (omega (arith, length-set l i w))

-- ---- the pages of a run

-- a free page is not page 0 of a chunk
no_free_edge : (t : Bool) (w : ℕ) → kind_of true t w ≢ Free
no_free_edge false w e = let z : ◌≡◌ {A = ℕ} 0 1 = cc in omega arith
no_free_edge true w e =
    eq_cases (λ (k : Kind). k ≢ Free) w 0x40000001 (λ _ x. let z : ◌≡◌ {A = ℕ} 0 1 = cc in omega arith)
    (λ _ x. let z : ◌≡◌ {A = ℕ} 0 1 = cc in omega arith) e

pub free_off : (p : Pool) (g : ℕ) → kind_at p g ≡ Free → g % 512 ≢ 0
unfolding kind_at is_edge
free_off p g e z =
    no_free_edge (is_set p.bits g) (get_or p.words g 0)
    (ap (λ (v : Bool). kind_of v (is_set p.bits g) (get_or p.words g 0)) (sym (eq-eqb (g % 512) 0 z)) ∙ e)

module _ (c v : ℕ) (p : Pool) (g : ℕ) (ws : List ℕ) where
  pub run_fit : fit c p ≡ fit c (put_run v p g ws)
  unfolding put_run
  run_fit = rw (length_put_bits, length-sets)

  pub run_slots : (i s : ℕ) → slot_at (put_run v p g ws) i s ≡ slot_at p i s
  unfolding slot_at put_run
  run_slots i s = refl

  module _ (v01 : v < 2) (shape : Shape c p) (room : g + length ws ≤ 512 * c) where
    pub run_out : (i : ℕ) → (i < g) ⊎ (g + length ws ≤ i) → kind_at (put_run v p g ws) i ≡ kind_at p i
    unfolding kind_at put_run
    run_out i o =
        ap₂ (kind_of (is_edge i)) (is_set_out v (length ws) p.bits g v01 (omega arith) i o) (sets_out p.words g ws i o)

    pub run_in : (k i : ℕ) → g + k ≡ i → k < length ws → i % 512 ≢ 0
        → kind_at (put_run v p g ws) i ≡ kind_of false (eqb v 1) (get_or ws k 0)
    unfolding kind_at put_run is_edge
    run_in k i e l off =
        ap (λ (t : Bool). kind_of t (is_set (put_run v p g ws).bits i) (get_or (put_run v p g ws).words i 0)) (ne_eqb (i % 512) 0 off)
        ∙ ap₂ (kind_of false) (is_set_in v (length ws) p.bits g v01 (omega arith) i (omega arith) (omega arith))
        (sets_in p.words g ws k i e l (omega arith))

    pub run_bits : (i : ℕ) → g ≤ i → i < g + length ws → bit_at (put_run v p g ws).bits i ≡ v
    unfolding put_run
    run_bits i a b = put_bits_in v (length ws) p.bits g v01 (omega arith) i a b

-- ---- one slot

module _ (c v : ℕ) (p : Pool) (g s : ℕ) where
  pub slot_fit : fit c p ≡ fit c (put_slot v p g s)
  unfolding put_slot
  slot_fit = rw length_put_bit

  pub slot_kinds : (i : ℕ) → kind_at (put_slot v p g s) i ≡ kind_at p i
  unfolding kind_at put_slot
  slot_kinds i = refl

  module _ (v01 : v < 2) (shape : Shape c p) (room : g < 512 * c) (near : s < 512) where
    pub slot_same : slot_at (put_slot v p g s) g s ≡ eqb v 1
    unfolding slot_at put_slot
    slot_same = is_set_same v p.slots (512 * g + s) v01 (omega arith)

    pub slot_other : (i j : ℕ) → 512 * i + j ≢ 512 * g + s → slot_at (put_slot v p g s) i j ≡ slot_at p i j
    unfolding slot_at put_slot
    slot_other i j d = is_set_other v p.slots (512 * g + s) v01 (omega arith) (512 * i + j) d

-- ---- a run whose pages behind the first have the word 0 already

zeros_kept : (n : ℕ) (l : List ℕ) (i : ℕ) → ((j : ℕ) → i ≤ j → j < i + n → get_or l j 0 ≡ 0) → sets l i (zeros n) ≡ l
zeros_kept zero l i h = refl
zeros_kept (suc n) l i h =
    let e : set l i 0 ≡ l = ap (set l i) (sym (h i (omega arith) (omega arith))) ∙ set-get_or l i 0 in
    ap (λ (x : List ℕ). sets x (suc i) (zeros n)) e ∙ zeros_kept n l (suc i) (λ j a b. h j (omega arith) (omega arith))

-- it takes one store
pub first_stored : (w n : ℕ) (l : List ℕ) (g : ℕ) → ((i : ℕ) → g < i → i < g + suc n → get_or l i 0 ≡ 0) → set l g w ≡ sets l g (w ∷ zeros n)
first_stored w n l g h =
    sym (zeros_kept n (set l g w) (suc g) (λ j x y. get_or-set_other l g j w 0 (omega arith) ∙ h j (omega arith) (omega arith)))
