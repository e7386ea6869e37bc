-- What the word and the bit of a page of sound records tell. Assumes nothing.
use mathlib.Core.Path.{◌≡◌, refl, sym, ap, ◌∙◌, subst}
use mathlib.Core.Logic.{◌≢◌, by_cases}
use mathlib.Core.Bool.{Bool, true, false, false≢true}
use Prim.Native.Nat.{ℕ, suc, ◌+◌, ◌-◌, ◌*◌, ◌%◌, ◌≤◌, ◌<◌}
use native.Mathlib.Decide.{ℕ_discrete, dec_lt}
use native.Mathlib.Omega.{arith}
use lib.ListN.{get_or}
use lib.Dec.{eqb}
use borrow.Author.Tests.{eq-eqb, ne_eqb, eqb-true}
use Rattle.bitrow.specs.Row.{is_set}
use Rattle.records.specs.declared.Kind.{Kind}
use Rattle.records.specs.declared.Kind.TheVariants.{Edge, Free, Damaged, Large, Class, Inner}
use Rattle.records.specs.Kinds.{class_word, kind_of, is_run_of}
use Rattle.records.specs.Pool.{Pool, is_edge, kind_at}
use Rattle.records.specs.Sound.{sound}
use Rattle.records.proofs.Flags.{flag_eq, cond_eq, cond_ne, eq_cases, lt_cases, le_cases}
use Rattle.records.proofs.KindLaws.{kind_inner, kind_zero, kind_class, kind_large, kind_no_class, kind_no_large, kind_no_low}
use mathlib.Core.List.{[]}
use Rattle.records.proofs.WalkLaws.{sound_walks, walk_right}

-- ---- what a page's kind tells of its word

abbrev pub WordIs : ℕ → Kind → Type 0
WordIs w Edge = w ≡ 0x40000001
WordIs w Free = w ≡ 0
WordIs w Damaged = Unit {0}
WordIs w (Large k) = w ≡ 0x40000000 + suc k
WordIs w (Class b) = w ≡ 0x80000000 + b
WordIs w (Inner x) = w ≡ x

kind_word : (v t : Bool) (w : ℕ) → WordIs w (kind_of v t w)
kind_word true false w = tt
kind_word true true w = eq_cases (WordIs w) w 0x40000001 (λ a. a) (λ a. tt)
kind_word false false w = eq_cases (WordIs w) w 0 (λ a. a) (λ a. tt)
kind_word false true w =
    le_cases (WordIs w) 0xC0000000 w (λ a. refl)
    (λ a. le_cases (WordIs w) 0x80000000 w (λ b. lt_cases (WordIs w) w 0x8000001E (λ d. omega arith) (λ d. tt))
    (λ b. le_cases (WordIs w) 0x40000001 w (λ d. lt_cases (WordIs w) w 0x40000200 (λ e. omega arith) (λ e. tt))
    (λ d. eq_cases (WordIs w) w 0 (λ e. refl) (λ e. tt))))

pub page_word : (p : Pool) (g : ℕ) {k : Kind} → kind_at p g ≡ k → WordIs (get_or p.words g 0) k
unfolding kind_at
page_word p g e = subst (WordIs (get_or p.words g 0)) e (kind_word (is_edge g) (is_set p.bits g) (get_or p.words g 0))

-- ---- what it tells of its bit

abbrev Taken : Kind → Type 0
Taken Edge = Unit {0}
Taken Free = ⊥
Taken Damaged = Unit {0}
Taken (Large k) = Unit {0}
Taken (Class b) = Unit {0}
Taken (Inner w) = Unit {0}

bit_taken : (v : Bool) (w : ℕ) → Taken (kind_of v true w)
bit_taken true w = eq_cases Taken w 0x40000001 (λ a. tt) (λ a. tt)
bit_taken false w =
    le_cases Taken 0xC0000000 w (λ a. tt)
    (λ a. le_cases Taken 0x80000000 w (λ b. lt_cases Taken w 0x8000001E (λ d. tt) (λ d. tt))
    (λ b. le_cases Taken 0x40000001 w (λ d. lt_cases Taken w 0x40000200 (λ e. tt) (λ e. tt)) (λ d. eq_cases Taken w 0 (λ e. tt) (λ e. tt))))

-- a free page has the bit 0
pub free_clear : (p : Pool) (g : ℕ) → kind_at p g ≡ Free → is_set p.bits g ≡ false
unfolding kind_at
free_clear p g e = go (is_set p.bits g) e
  where
    go : (t : Bool) → kind_of (is_edge g) t (get_or p.words g 0) ≡ Free → t ≡ false
    go true x = absurd (subst Taken x (bit_taken (is_edge g) (get_or p.words g 0)))
    go false x = refl

-- ---- a word that is not damaged

-- on page 0 it is the word of page 0
edge_only : (t : Bool) (w : ℕ) → kind_of true t w ≢ Damaged → (w ≡ 0x40000001) × (t ≡ true)
edge_only false w n = absurd (n refl)
edge_only true w n = by_cases (ℕ_discrete w 0x40000001) (λ e. (e, refl)) (λ e. absurd (n (cond_ne w 0x40000001 Edge Damaged e)))

-- on another page, one that is not 0 is that of a taken page
taken_word : (t : Bool) (w : ℕ) → kind_of false t w ≢ Damaged → w ≢ 0 → kind_of false t w ≡ kind_of false true w
taken_word true w n z = refl
taken_word false w n z = absurd (n (cond_ne w 0 Free Damaged z))

-- a high word on a page that is not damaged is that of a page inside a run
high_kind : (v t : Bool) (w : ℕ) → 0xC0000000 ≤ w → kind_of v t w ≢ Damaged → kind_of v t w ≡ Inner w
high_kind true false w h n = absurd (n refl)
high_kind true true w h n =
    eq_cases (λ (k : Kind). k ≢ Damaged → k ≡ Inner w) w 0x40000001 (λ e x. absurd (omega arith)) (λ e x. absurd (x refl)) n
high_kind false false w h n = eq_cases (λ (k : Kind). k ≢ Damaged → k ≡ Inner w) w 0 (λ e x. absurd (omega arith)) (λ e x. absurd (x refl)) n
high_kind false true w h n = kind_inner w h

module _ (v t : Bool) (w : ℕ) (n : kind_of v t w ≢ Damaged) where
  -- a word that is neither that of page 0 nor 0
  plain : w ≢ 0x40000001 → w ≢ 0 → kind_of v t w ≡ kind_of false true w
  plain m z = go v n
    where
      go : (u : Bool) → kind_of u t w ≢ Damaged → kind_of u t w ≡ kind_of false true w
      go true k = absurd (m (edge_only t w k).0)
      go false k = taken_word t w k z

  is_class_word : 0x80000000 ≤ w → w < 0xC0000000 → (w < 0x8000001E) × (kind_of v t w ≡ Class (w - 0x80000000))
  is_class_word a b =
      let e = plain (omega arith) (omega arith) in
      by_cases (dec_lt w 0x8000001E) (λ l. (l, e ∙ kind_class w a l)) (λ l. absurd (n (e ∙ kind_no_class w (omega arith) b)))

  is_large_word : v ≡ false → 0x40000001 ≤ w → w < 0x80000000 → (w < 0x40000200) × (kind_of v t w ≡ Large (w - 0x40000001))
  is_large_word f a b =
      let e : kind_of v t w ≡ kind_of false true w = go v f n in
      by_cases (dec_lt w 0x40000200) (λ l. (l, e ∙ kind_large w a l)) (λ l. absurd (n (e ∙ kind_no_large w (omega arith) b)))
    where
      go : (u : Bool) → u ≡ false → kind_of u t w ≢ Damaged → kind_of u t w ≡ kind_of false true w
      go true x k = absurd (false≢true (sym x))
      go false x k = taken_word t w k (omega arith)

  is_inside_word : t ≡ true → w < 0x40000001 → kind_of v t w ≡ Inner 0
  is_inside_word f a = go v t f n
    where
      go : (u s : Bool) → s ≡ true → kind_of u s w ≢ Damaged → kind_of u s w ≡ Inner 0
      go true s x k = let e = (edge_only s w k).0 in absurd (omega arith)
      go false false x k = absurd (false≢true x)
      go false true x k = by_cases (ℕ_discrete w 0) (λ e. kind_zero w e ∙ ap Inner e) (λ e. absurd (k (kind_no_low w e a)))

  is_edge_lem : v ≡ true → kind_of v t w ≡ Edge
  is_edge_lem f = go v t f n
    where
      go : (u s : Bool) → u ≡ true → kind_of u s w ≢ Damaged → kind_of u s w ≡ Edge
      go true s x k = let (e, f) = edge_only s w k in ap (λ (q : Bool). kind_of true q w) f ∙ cond_eq w 0x40000001 Edge Damaged e
      go false s x k = absurd (false≢true x)

  is_free : t ≡ false → kind_of v t w ≡ Free
  is_free f = go v t f n
    where
      go : (u s : Bool) → s ≡ false → kind_of u s w ≢ Damaged → kind_of u s w ≡ Free
      go true s x k = absurd (false≢true (sym x ∙ (edge_only s w k).1))
      go false true x k = absurd (false≢true (sym x))
      go false false x k = by_cases (ℕ_discrete w 0) (λ e. cond_eq w 0 Free Damaged e) (λ e. absurd (k (cond_ne w 0 Free Damaged e)))

-- ---- a page of sound records

module _ (c : ℕ) (p : Pool) (s : sound c p ≡ true) (g : ℕ) (l : g < 512 * c) where
  pub right : kind_at p g ≢ Damaged
  right = walk_right (kind_at p) (512 * c) [] 0 (sound_walks c p s).walks g (omega arith) (omega arith)

  pub page_inner : 0xC0000000 ≤ get_or p.words g 0 → kind_at p g ≡ Inner (get_or p.words g 0)
  unfolding kind_at
  page_inner h = high_kind (is_edge g) (is_set p.bits g) (get_or p.words g 0) h right

  pub page_class : 0x80000000 ≤ get_or p.words g 0 → get_or p.words g 0 < 0xC0000000
      → (get_or p.words g 0 < 0x8000001E) × (kind_at p g ≡ Class (get_or p.words g 0 - 0x80000000))
  unfolding kind_at
  page_class a b = is_class_word (is_edge g) (is_set p.bits g) (get_or p.words g 0) right a b

  pub page_large : g % 512 ≢ 0 → 0x40000001 ≤ get_or p.words g 0 → get_or p.words g 0 < 0x80000000
      → (get_or p.words g 0 < 0x40000200) × (kind_at p g ≡ Large (get_or p.words g 0 - 0x40000001))
  unfolding kind_at is_edge
  page_large n a b = is_large_word (is_edge g) (is_set p.bits g) (get_or p.words g 0) right (ne_eqb (g % 512) 0 n) a b

  pub page_inside : is_set p.bits g ≡ true → get_or p.words g 0 < 0x40000001 → kind_at p g ≡ Inner 0
  unfolding kind_at
  page_inside e a = is_inside_word (is_edge g) (is_set p.bits g) (get_or p.words g 0) right e a

  pub page_edge : g % 512 ≡ 0 → kind_at p g ≡ Edge
  unfolding kind_at is_edge
  page_edge e = is_edge_lem (is_edge g) (is_set p.bits g) (get_or p.words g 0) right (eq-eqb (g % 512) 0 e)

  pub page_free : is_set p.bits g ≡ false → kind_at p g ≡ Free
  unfolding kind_at
  page_free e = is_free (is_edge g) (is_set p.bits g) (get_or p.words g 0) right e

-- ---- runs of a class

-- a kind that is a run of class b
pub run_of : (b : ℕ) (k : Kind) → is_run_of b k ≡ true → k ≡ Class b
run_of b Edge e = absurd (false≢true e)
run_of b Free e = absurd (false≢true e)
run_of b Damaged e = absurd (false≢true e)
run_of b (Large k) e = absurd (false≢true e)
run_of b (Class d) e = ap Class (eqb-true d b e)
run_of b (Inner w) e = absurd (false≢true e)

-- the word of a page of sound records tells whether a run of class b starts there
pub word_run : (c : ℕ) (p : Pool) → sound c p ≡ true → (b : ℕ) → b < 30 → (g : ℕ) → g < 512 * c
    → eqb (get_or p.words g 0) (class_word b) ≡ is_run_of b (kind_at p g)
word_run c p s b bl g l =
    flag_eq (eqb (get_or p.words g 0) (class_word b)) (is_run_of b (kind_at p g))
    (λ e. let w = eqb-true (get_or p.words g 0) (class_word b) e in
    let (n, k) = page_class c p s g l (omega arith) (omega arith) in
    ap (is_run_of b) k ∙ eq-eqb (get_or p.words g 0 - 0x80000000) b (omega arith))
    (λ e. eq-eqb (get_or p.words g 0) (class_word b) (page_word p g (run_of b (kind_at p g) e)))
