-- The pages of empty runs as they are found, page by page, and what the swept pool has at each page. Assumes nothing.
use mathlib.Core.Path.{◌≡◌, refl, sym, ap, ap₂, ◌∙◌, subst}
use mathlib.Core.Logic.{◌≢◌, by_cases}
use mathlib.Core.Bool.{Bool, true, false, cond, false≢true}
use mathlib.Core.List.{List, []}
use mathlib.Core.Option.{some-injective}
use Prim.Native.Nat.{ℕ, zero, suc, ◌+◌, ◌-◌, ◌*◌, ◌/◌, ◌%◌, ◌≤◌, ◌<◌}
use native.Mathlib.Decide.{ℕ_discrete, dec_le}
use native.Mathlib.Omega.{arith}
use lib.Dec.{eqb}
use lib.ListN.{get_or}
use borrow.Author.Tests.{eqb-true, eqb-false}
use Rattle.bitrow.specs.Row.{bit_at, is_set}
use Rattle.bitrow.proofs.Rows.{bit_at_le}
use Rattle.records.specs.declared.Kind.{Kind}
use Rattle.records.specs.declared.Kind.TheVariants.{Edge, Free, Damaged, Large, Class, Inner}
use Rattle.records.specs.Kinds.{inner_word, behind, inner_words, span_of}
use Rattle.records.specs.Pool.{Pool, kind_at}
use Rattle.records.specs.Sound.{idle, step}
use Rattle.records.specs.Runs.{InRun}
use Rattle.records.proofs.Flags.{cond_eq, cond_ne}
use Rattle.records.proofs.KindLaws.{get_or_inner}
use Rattle.records.proofs.WalkLaws.{sound_walks}
use Rattle.records.proofs.RunLaws.{Whole, walk_run, sound_runs, page_nought, Nought, lies_back}
use Rattle.records.proofs.WordLaws.{WordIs, page_word, page_free, free_clear, right}
use Rattle.records.proofs.AdmitLaws.{Shape, shaped_lengths}
use Rattle.blocks.specs.Blocks.{IsEmpty}
use Rattle.blocks.specs.Stores.{Good}
use Rattle.blocks.proofs.KeepLaws.{empty_idle}
use Rattle.sweep.specs.Sweep.{swept, InEmpty}
use Rattle.sweep.specs.Found.{empty_by, empty_to}
use Rattle.sweep.proofs.SweepLaws.{none_idle, idle_empty, part, not_free, sweeps}

-- ---- a page is found in an empty run exactly where it lies in one

-- by its kind
pub found_by : (p : Pool) (i : ℕ) {k : Kind} → kind_at p i ≡ k → empty_to p (suc i) ≡ empty_by k (idle p i) (empty_to p i)
unfolding empty_to
found_by p i e = ap (λ (k : Kind). empty_by k (idle p i) (empty_to p i)) e

module _ (c : ℕ) (p : Pool) (h : Good c p) where
  -- the d-th page behind the first
  found_from : (g b : ℕ) → IsEmpty c p g b → (d i : ℕ) → g + d ≡ i → d ≤ behind b → empty_to p (suc i) ≡ true
  found_from g b x zero i e l =
      let r : i ≡ g = omega arith in
      found_by p i (ap (kind_at p) r ∙ x.kind) ∙ ap (idle p) r ∙ none_idle p g (empty_idle c p h g b x)
  found_from g b x (suc d) i e l =
      let span : span_of (kind_at p g) ≡ suc (behind b) = ap span_of x.kind in
      let w : Whole (kind_at p) (512 * c) g = walk_run (kind_at p) (512 * c) g (sound_walks c p h.whole).walks x.inside (omega arith) in
      let due : w.due ≡ inner_words b 1 (behind b) = some-injective w.due (inner_words b 1 (behind b)) (sym w.begins ∙ ap (step []) x.kind) in
      let r : i - suc g ≡ d = omega arith in
      let word : get_or w.due (i - suc g) 0 ≡ inner_word b (1 + d) =
      ap₂ (λ (l : List ℕ) (j : ℕ). get_or l j 0) due r ∙ get_or_inner b 1 (behind b) d (omega arith) in
      found_by p i (w.rest i (omega arith) (omega arith))
      ∙ cond_ne (get_or w.due (i - suc g) 0) 0 false (empty_to p i) (omega arith)
      ∙ ap (empty_to p) (omega arith) ∙ found_from g b x d (g + d) refl (omega arith)

  in_found : (i : ℕ) → InEmpty c p i → empty_to p (suc i) ≡ true
  in_found i x = let l = x.low in let m = x.high in found_from x.first x.class x.is (i - x.first) i (omega arith) (omega arith)

  -- a page that goes on with a class run lies in the run of the page before it
  goes_on : (i w : ℕ) → suc i < 512 * c → kind_at p (suc i) ≡ Inner w → w ≢ 0 → InEmpty c p i → InEmpty c p (suc i)
  goes_on i w l e n x =
      let high : 0xC0000000 ≤ get_or p.words (suc i) 0 =
      by_cases (dec_le 0xC0000000 (get_or p.words (suc i) 0)) (λ a. a)
      (λ a. absurd (n (subst Nought e (page_nought p (suc i) (omega arith))))) in
      let (a, lies) =
      lies_back c p h.whole (suc i) l ((get_or p.words (suc i) 0 - 0xC0000000) / 65536) (get_or p.words (suc i) 0 % 65536) high refl refl in
      same (suc i - (get_or p.words (suc i) 0 - 0xC0000000) / 65536) (get_or p.words (suc i) 0 % 65536) (omega arith) lies.is lies.by
    where
      first_not : (f b : ℕ) → Class b ≡ kind_at p f → f ≢ suc i
      first_not f b y z = let q : kind_at p (suc i) ≡ Class b = ap (kind_at p) (sym z) ∙ sym y in let v : ◌≡◌ {A = ℕ} 0 1 = cc in omega arith

      same : (f b : ℕ) → f ≤ suc i → Class b ≡ kind_at p f → InRun p f (suc i) → InEmpty c p (suc i)
      same f b u y r =
          let d = first_not f b y in
          let lo = x.low in let hi = x.high in let m = r.high in
          let span : span_of (kind_at p x.first) ≡ suc (behind x.class) = ap span_of x.is.kind in
          let once : f ≡ x.first =
          (sound_runs c p h.whole).apart f x.first i (omega arith) x.is.inside (record { low = omega arith; high = omega arith })
          (record { low = lo; high = omega arith }) in
          let span' : span_of (kind_at p f) ≡ span_of (kind_at p x.first) = ap (λ (g : ℕ). span_of (kind_at p g)) once in
          record { first = x.first; class = x.class; is = x.is; low = omega arith; high = omega arith }

  -- a page in which one is found, by that of the page before it
  found_step : (i : ℕ) → i < 512 * c → empty_to p (suc i) ≡ true → (empty_to p i ≡ true → (w : ℕ) → kind_at p i ≡ Inner w → w ≢ 0 → InEmpty c p i) → InEmpty c p i
  found_step i l e on = go (kind_at p i) refl (sym (found_by p i refl) ∙ e)
    where
      go : (k : Kind) → kind_at p i ≡ k → empty_by k (idle p i) (empty_to p i) ≡ true → InEmpty c p i
      go Edge k v = absurd (false≢true v)
      go Free k v = absurd (false≢true v)
      go Damaged k v = absurd (false≢true v)
      go (Large n) k v = absurd (false≢true v)
      go (Class b) k v = record { first = i; class = b; is = idle_empty c p i b l k v; low = omega arith; high = omega arith }
      go (Inner w) k v =
          by_cases (ℕ_discrete w 0) (λ z. absurd (false≢true (sym (cond_eq w 0 false (empty_to p i) z) ∙ v)))
          (λ z. on (sym (cond_ne w 0 false (empty_to p i) z) ∙ v) w k z)

  found_in : (i : ℕ) → i < 512 * c → empty_to p (suc i) ≡ true → InEmpty c p i
  unfolding empty_to
  found_in zero l e = found_step 0 l e (λ t w k n. absurd (false≢true t))
  found_in (suc i) l e = found_step (suc i) l e (λ t w k n. goes_on i w l k n (found_in i (omega arith) t))

  -- ---- the swept pool, page by page

  abbrev left : Pool
  left = swept c p

  left_good : Good c left
  left_good = (sweeps c p h).stays.good

  -- what a page is there
  left_kind : (i : ℕ) → i < 512 * c → kind_at left i ≡ cond (empty_to p (suc i)) Free (kind_at p i)
  left_kind i l = go (empty_to p (suc i)) refl
    where
      go : (v : Bool) → empty_to p (suc i) ≡ v → kind_at left i ≡ cond v Free (kind_at p i)
      go true e = (sweeps c p h).freed i (found_in i l e)
      go false e = (sweeps c p h).kept i l (λ x. false≢true (sym e ∙ in_found i x))

  -- a class run there was one before
  pub swept_class : (i b : ℕ) → i < 512 * c → kind_at left i ≡ Class b → kind_at p i ≡ Class b
  swept_class i b l e = go (empty_to p (suc i)) (sym (left_kind i l) ∙ e)
    where
      go : (v : Bool) → cond v Free (kind_at p i) ≡ Class b → kind_at p i ≡ Class b
      go true f = let z : ◌≡◌ {A = ℕ} 0 1 = cc in absurd (omega arith)
      go false f = f

-- ---- what a page is tells its bit and its word

abbrev kind_bit : Kind → ℕ
kind_bit Edge = 1
kind_bit Free = 0
kind_bit Damaged = 1
kind_bit (Large k) = 1
kind_bit (Class b) = 1
kind_bit (Inner w) = 1

taken_bit : (k : Kind) → k ≢ Free → kind_bit k ≡ 1
taken_bit Edge n = refl
taken_bit Free n = absurd (n refl)
taken_bit Damaged n = refl
taken_bit (Large k) n = refl
taken_bit (Class b) n = refl
taken_bit (Inner w) n = refl

module _ (c : ℕ) (p : Pool) (h : Good c p) (i : ℕ) (l : i < 512 * c) where
  pub page_bit : bit_at p.bits i ≡ kind_bit (kind_at p i)
  unfolding is_set
  page_bit = go (is_set p.bits i) refl
    where
      go : (v : Bool) → is_set p.bits i ≡ v → bit_at p.bits i ≡ kind_bit (kind_at p i)
      go true e =
          eqb-true (bit_at p.bits i) 1 e ∙ sym (taken_bit (kind_at p i) (λ f. false≢true (sym (free_clear p i f) ∙ e)))
      go false e =
          omega (arith, bit_at_le p.bits i, eqb-false (bit_at p.bits i) 1 e) ∙ sym (ap kind_bit (page_free c p h.whole i l e))

word_once : (k : Kind) (v w : ℕ) → k ≢ Damaged → WordIs v k → WordIs w k → v ≡ w
word_once Edge v w n a b = a ∙ sym b
word_once Free v w n a b = a ∙ sym b
word_once Damaged v w n a b = absurd (n refl)
word_once (Large k) v w n a b = a ∙ sym b
word_once (Class d) v w n a b = a ∙ sym b
word_once (Inner x) v w n a b = a ∙ sym b

-- ---- so the page bits and page words of the swept pool are

module _ (c : ℕ) (p : Pool) (h : Good c p) where
  -- a page of an empty run is taken
  pub found_taken : (i : ℕ) → i < 512 * c → empty_to p (suc i) ≡ true → bit_at p.bits i ≡ 1
  found_taken i l e = page_bit c p h i l ∙ taken_bit (kind_at p i) (not_free (part c p h i (found_in c p h i l e)))

  pub swept_bit : (i : ℕ) → i < 512 * c → bit_at (swept c p).bits i ≡ cond (empty_to p (suc i)) 0 (bit_at p.bits i)
  swept_bit i l = page_bit c (swept c p) (left_good c p h) i l ∙ ap kind_bit (left_kind c p h i l) ∙ go (empty_to p (suc i))
    where
      go : (v : Bool) → kind_bit (cond v Free (kind_at p i)) ≡ cond v 0 (bit_at p.bits i)
      go true = refl
      go false = sym (page_bit c p h i l)

  pub swept_word : (i : ℕ) → i < 512 * c
      → get_or (swept c p).words i 0 ≡ cond (eqb (bit_at (swept c p).bits i) 1) (get_or p.words i 0) 0
  unfolding is_set
  swept_word i l = go (empty_to p (suc i)) refl
    where
      kind : (v : Bool) → empty_to p (suc i) ≡ v → kind_at (swept c p) i ≡ cond v Free (kind_at p i)
      kind v e = left_kind c p h i l ∙ ap (λ (t : Bool). cond t Free (kind_at p i)) e

      clear : kind_at (swept c p) i ≡ Free → get_or (swept c p).words i 0 ≡ cond (eqb (bit_at (swept c p).bits i) 1) (get_or p.words i 0) 0
      clear f =
          page_word (swept c p) i f
          ∙ sym (cond_ne (bit_at (swept c p).bits i) 1 (get_or p.words i 0) 0
          (omega (arith, page_bit c (swept c p) (left_good c p h) i l ∙ ap kind_bit f)))

      go : (v : Bool) → empty_to p (suc i) ≡ v → get_or (swept c p).words i 0 ≡ cond (eqb (bit_at (swept c p).bits i) 1) (get_or p.words i 0) 0
      go true e = clear (kind true e)
      go false e = by_bit (is_set p.bits i) refl
        where
          by_bit : (t : Bool) → is_set p.bits i ≡ t
              → get_or (swept c p).words i 0 ≡ cond (eqb (bit_at (swept c p).bits i) 1) (get_or p.words i 0) 0
          by_bit false f = clear (kind false e ∙ page_free c p h.whole i l f)
          by_bit true f =
              word_once (kind_at p i) (get_or (swept c p).words i 0) (get_or p.words i 0) (right c p h.whole i l)
              (page_word (swept c p) i (kind false e)) (page_word p i refl)
              ∙ sym (cond_eq (bit_at (swept c p).bits i) 1 (get_or p.words i 0) 0
              (page_bit c (swept c p) (left_good c p h) i l ∙ ap kind_bit (kind false e) ∙ sym (page_bit c p h i l)
              ∙ eqb-true (bit_at p.bits i) 1 f))

  pub swept_shape : Shape c (swept c p)
  swept_shape = shaped_lengths c _ _ _ (left_good c p h).shape
