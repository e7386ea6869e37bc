-- The runs of sound records lie apart, inside their chunks and off page 0. Assumes nothing.
use mathlib.Core.Path.{◌≡◌, refl, sym, ap, ◌∙◌, subst, subst⁻¹}
use mathlib.Core.Logic.{◌≢◌, ⊎_elim, by_cases}
use mathlib.Core.Bool.{Bool, true, false, not, false≢true}
use mathlib.Core.Option.{some, none-ne-some, some-injective}
use mathlib.Core.List.{List, []}
use Prim.Native.Nat.{ℕ, suc, ◌+◌, ◌-◌, ◌*◌, ◌/◌, ◌%◌, ◌^◌, ◌≤◌, ◌<◌}
use native.Mathlib.Decide.{ℕ_discrete, dec_lt, dec_le}
use native.Mathlib.Omega.{arith}
use lib.ListN.{length, get_or}
use lib.Dec.{leb}
use borrow.Author.Tests.{eq-eqb, ne_eqb, eqb-true, not-false, le-leb, lt-leb}
use Rattle.bitrow.specs.Row.{is_set}
use Rattle.records.specs.declared.Kind.{Kind}
use Rattle.records.specs.declared.Kind.TheVariants.{Edge, Free, Damaged, Large, Class, Inner}
use Rattle.records.specs.Kinds.{inner_word, kind_of, behind, span_of, in_class, ClassPart}
use Rattle.records.specs.Pool.{Pool, is_edge, kind_at}
use Rattle.records.specs.Sound.{step, sound}
use Rattle.records.specs.Runs.{InRun, LiesBy, Lies, Runs}
use Rattle.records.proofs.Flags.{cond_eq, cond_ne, eq_cases, lt_cases, le_cases}
use Rattle.records.proofs.KindLaws.{length_zeros, get_or_zeros, length_inner, get_or_inner}
use Rattle.records.proofs.WordLaws.{page_word, page_inner, right}
use Rattle.records.proofs.WalkLaws.{walk, walk_next, sound_walks, walk_found, Begins, walk_at, Home, walk_home}

-- ---- what a word can mean

-- a page of a run: not page 0, not free, not damaged
abbrev pub Mid : Kind → Type 0
Mid Edge = ⊥
Mid Free = ⊥
Mid Damaged = ⊥
Mid (Large k) = Unit {0}
Mid (Class b) = Unit {0}
Mid (Inner w) = Unit {0}

no_mid_edge : (t : Bool) (w : ℕ) → Mid (kind_of true t w) → ⊥
no_mid_edge false w m = m
no_mid_edge true w m = eq_cases (λ (k : Kind). Mid k → ⊥) w 0x40000001 (λ e x. x) (λ e x. x) m

-- no page 0 is a page of a run
pub mid_off : (p : Pool) (g : ℕ) → Mid (kind_at p g) → g % 512 ≢ 0
unfolding kind_at is_edge
mid_off p g m e =
    no_mid_edge (is_set p.bits g) (get_or p.words g 0)
    (subst (λ (v : Bool). Mid (kind_of v (is_set p.bits g) (get_or p.words g 0))) (eq-eqb (g % 512) 0 e) m)

-- there are 30 classes, and a large run has at most 511 pages
abbrev Low : Kind → Type 0
Low Edge = Unit {0}
Low Free = Unit {0}
Low Damaged = Unit {0}
Low (Large k) = k < 511
Low (Class b) = b < 30
Low (Inner w) = Unit {0}

kind_low : (v t : Bool) (w : ℕ) → Low (kind_of v t w)
kind_low true false w = tt
kind_low true true w = eq_cases Low w 0x40000001 (λ a. tt) (λ a. tt)
kind_low false false w = eq_cases Low w 0 (λ a. tt) (λ a. tt)
kind_low false true w =
    le_cases Low 0xC0000000 w (λ a. tt)
    (λ a. le_cases Low 0x80000000 w (λ b. lt_cases Low w 0x8000001E (λ d. omega arith) (λ d. tt))
    (λ b. le_cases Low 0x40000001 w (λ d. lt_cases Low w 0x40000200 (λ e. omega arith) (λ e. tt)) (λ d. eq_cases Low w 0 (λ e. tt) (λ e. tt))))

page_low : (p : Pool) (g : ℕ) → Low (kind_at p g)
unfolding kind_at
page_low p g = kind_low (is_edge g) (is_set p.bits g) (get_or p.words g 0)

pub class_at_low : (p : Pool) (g b : ℕ) → kind_at p g ≡ Class b → b < 30
class_at_low p g b e = subst Low e (page_low p g)

pub large_at_low : (p : Pool) (g k : ℕ) → kind_at p g ≡ Large k → k < 511
large_at_low p g k e = subst Low e (page_low p g)

-- ---- a run's pages

-- what begins at a page, with the words behind its first page, and the pages that a run has
pub begins_run : (k : Kind) (ws : List ℕ) → step [] k ≡ some ws → 0 < span_of k → span_of k ≡ suc (length ws)
begins_run Edge ws e h = absurd (omega arith)
begins_run Free ws e h = absurd (omega arith)
begins_run Damaged ws e h = absurd (omega arith)
begins_run (Large k) ws e h = ap suc (sym (length_zeros k) ∙ ap length (some-injective _ _ e))
begins_run (Class b) ws e h = ap suc (sym (length_inner b 1 (behind b)) ∙ ap length (some-injective _ _ e))
begins_run (Inner w) ws e h = absurd (omega arith)

run_begins : (k : Kind) → 0 < span_of k → Begins k
run_begins Edge h w ws t x = none-ne-some t x
run_begins Free h w ws t x = none-ne-some t x
run_begins Damaged h w ws t x = none-ne-some t x
run_begins (Large k) h w ws t x = none-ne-some t x
run_begins (Class b) h w ws t x = none-ne-some t x
run_begins (Inner v) h w ws t x = absurd (omega arith)

run_mid : (k : Kind) → 0 < span_of k → Mid k
run_mid Edge h = absurd (omega arith)
run_mid Free h = absurd (omega arith)
run_mid Damaged h = absurd (omega arith)
run_mid (Large k) h = tt
run_mid (Class b) h = tt
run_mid (Inner w) h = absurd (omega arith)

-- a run ends inside the pages walked, and its pages behind the first have the words that it begins with
pub record Whole (K : ℕ → Kind) (N g : ℕ) : Type 0 where
  pub ends : g + span_of (K g) ≤ N
  pub due : List ℕ
  pub begins : step [] (K g) ≡ some due
  pub rest : (i : ℕ) → g < i → i < g + span_of (K g) → K i ≡ Inner (get_or due (i - suc g) 0)

pub walk_run : (K : ℕ → Kind) (N g : ℕ) → walk K [] 0 N ≡ true → g < N → 0 < span_of (K g) → Whole K N g
walk_run K N g h l s =
    let m : ℕ = N - suc g in
    let w = walk_at K g [] 0 N g m (omega arith) (omega arith) (run_begins (K g) s) h in
    let n = walk_next K [] g m w in
    let z = begins_run (K g) n.due n.steps s in
    let (a, f) = walk_found K n.due (suc g) m n.walks in
    record {
      ends = omega arith;
      due = n.due;
      begins = n.steps;
      rest = λ i x y. let r : i ≡ suc g + (i - suc g) = omega arith in ap K r ∙ f (i - suc g) (omega arith);
    }

-- ---- the claims

span_inner : (w : ℕ) (k : Kind) → k ≡ Inner w → 0 < span_of k → ⊥
span_inner w k e h = let z : span_of k ≡ 0 = ap span_of e in omega arith

module _ (c : ℕ) (p : Pool) (s : sound c p ≡ true) where
  steps : walk (kind_at p) [] 0 (512 * c) ≡ true
  steps = (sound_walks c p s).walks

  some_page : (g i : ℕ) → InRun p g i → 0 < span_of (kind_at p g)
  some_page g i r = let a = r.low in let b = r.high in omega arith

  whole : (g i : ℕ) → g < 512 * c → InRun p g i → Whole (kind_at p) (512 * c) g
  whole g i l r = walk_run (kind_at p) (512 * c) g steps l (some_page g i r)

  page_mid : (g i : ℕ) → g < 512 * c → InRun p g i → Mid (kind_at p i)
  page_mid g i l r =
      let a = r.low in
      by_cases (ℕ_discrete i g) (λ e. subst (λ (j : ℕ). Mid (kind_at p j)) (sym e) (run_mid (kind_at p g) (some_page g i r)))
      (λ e. subst Mid (sym ((whole g i l r).rest i (omega arith) r.high)) tt)

  -- the lower of two runs has no run start inside
  no_start : (f g i : ℕ) → f < 512 * c → f < g → InRun p f i → InRun p g i → ⊥
  no_start f g i l h a b =
      let low = b.low in let high = a.high in let w = whole f i l a in
      span_inner (get_or w.due (g - suc f) 0) (kind_at p g) (w.rest g h (omega arith)) (some_page g i b)

  runs_apart : (f g i : ℕ) → f < 512 * c → g < 512 * c → InRun p f i → InRun p g i → f ≡ g
  runs_apart f g i l m a b =
      by_cases (dec_lt f g) (λ h. absurd (no_start f g i l h a b))
      (λ h. by_cases (dec_lt g f) (λ k. absurd (no_start g f i m k b a)) (λ k. omega arith))

  runs_off : (g i : ℕ) → g < 512 * c → InRun p g i → i % 512 ≢ 0
  runs_off g i l r = mid_off p i (page_mid g i l r)

  -- between a page and a page of the next chunk lies a page 0
  runs_inside : (g i : ℕ) → g < 512 * c → InRun p g i → i / 512 ≡ g / 512
  runs_inside g i l r =
      let a = r.low in let b = r.high in
      by_cases (ℕ_discrete (i / 512) (g / 512)) (λ e. e)
      (λ e. absurd (runs_off g (512 * (i / 512)) l (record { low = omega arith; high = omega arith }) (omega arith)))

  home_class : (g w : ℕ) → 0xC0000000 ≤ w → (h : Home (kind_at p) 0 g w) (k : Kind) → kind_at p h.first ≡ k → step [] k ≡ some h.words
      → (b : ℕ) × (kind_at p h.first ≡ Class b) × (w ≡ inner_word b (g - h.first)) × (g < h.first + suc (behind b))
  home_class g w l h Edge e x = let n : 0 ≡ length h.words = ap length (some-injective _ _ x) in let f = h.fits in absurd (omega arith)
  home_class g w l h Free e x = let n : 0 ≡ length h.words = ap length (some-injective _ _ x) in let f = h.fits in absurd (omega arith)
  home_class g w l h Damaged e x = absurd (none-ne-some _ x)
  home_class g w l h (Large k) e x =
      let v : w ≡ 0 = h.word ∙ ap (λ (l : List ℕ). get_or l (g - suc h.first) 0) (sym (some-injective _ _ x)) ∙ get_or_zeros k (g - suc h.first) in
      absurd (omega arith)
  home_class g w l h (Class b) e x =
      let f = h.fits in let n = h.below in
      let m : behind b ≡ length h.words = sym (length_inner b 1 (behind b)) ∙ ap length (some-injective _ _ x) in
      let v : w ≡ inner_word b (1 + (g - suc h.first)) =
      h.word ∙ ap (λ (l : List ℕ). get_or l (g - suc h.first) 0) (sym (some-injective _ _ x))
      ∙ get_or_inner b 1 (behind b) (g - suc h.first) (omega arith) in
      (b, e, omega arith, omega arith)
  home_class g w l h (Inner v) e x = absurd (none-ne-some _ x)

  runs_back : (g k b : ℕ) → g < 512 * c → b < 65536 → get_or p.words g 0 ≡ inner_word b k
      → (k ≤ g) × (kind_at p (g - k) ≡ Class b) × InRun p (g - k) g
  runs_back g k b l m e =
      let w : ℕ = inner_word b k in
      ⊎_elim (λ x. absurd (omega (arith, x.0)))
      (λ (h : Home (kind_at p) 0 g (inner_word b k)).
      let (a, q, v, u) = home_class g (inner_word b k) (omega arith) h (kind_at p h.first) refl h.begins in
      let n = h.below in
      let low = class_at_low p h.first a q in
      let r : h.first ≡ g - k = omega arith in
      let z : a ≡ b = omega arith in
      let kind : kind_at p (g - k) ≡ Class b = ap (kind_at p) (sym r) ∙ q ∙ ap Class z in
      let span : span_of (kind_at p (g - k)) ≡ suc (behind a) = ap span_of kind ∙ ap (λ (x : ℕ). suc (behind x)) (sym z) in
      (omega arith, kind, record { low = omega arith; high = omega arith }))
      (walk_home (kind_at p) (512 * c) [] 0 g (inner_word b k) steps (omega arith) (omega arith)
      (page_inner c p s g l (omega arith) ∙ ap Inner e))

  pub sound_runs : Runs c p
  sound_runs = record { apart = runs_apart; inside = runs_inside; off = runs_off; back = runs_back }

-- ---- what a page lies in

-- a page inside a run that has a low word has the word 0
abbrev pub Nought : Kind → Type 0
Nought Edge = Unit {0}
Nought Free = Unit {0}
Nought Damaged = Unit {0}
Nought (Large k) = Unit {0}
Nought (Class b) = Unit {0}
Nought (Inner x) = x ≡ 0

low_inner : (v t : Bool) (w : ℕ) → w < 0xC0000000 → Nought (kind_of v t w)
low_inner true false w l = tt
low_inner true true w l = eq_cases Nought w 0x40000001 (λ a. tt) (λ a. tt)
low_inner false false w l = eq_cases Nought w 0 (λ a. tt) (λ a. tt)
low_inner false true w l =
    le_cases Nought 0xC0000000 w (λ a. absurd (omega arith))
    (λ a. le_cases Nought 0x80000000 w (λ b. lt_cases Nought w 0x8000001E (λ d. tt) (λ d. tt))
    (λ b. le_cases Nought 0x40000001 w (λ d. lt_cases Nought w 0x40000200 (λ e. tt) (λ e. tt)) (λ d. eq_cases Nought w 0 (λ e. e) (λ e. tt))))

pub page_nought : (p : Pool) (g : ℕ) → get_or p.words g 0 < 0xC0000000 → Nought (kind_at p g)
unfolding kind_at
page_nought p g l = low_inner (is_edge g) (is_set p.bits g) (get_or p.words g 0) l

pub lies_self : (p : Pool) (g : ℕ) {k : Kind} → get_or p.words g 0 < 0xC0000000 → k ≡ kind_at p g → Lies p g g k
lies_self p g {k} l e = record { is = e; by = go k e }
  where
    go : (j : Kind) → j ≡ kind_at p g → LiesBy p g g j
    go Edge x = refl
    go Free x = refl
    go Damaged x = refl
    go (Large n) x = refl
    go (Class b) x = let s : suc (behind b) ≡ span_of (kind_at p g) = ap span_of x in record { low = omega arith; high = omega arith }
    go (Inner w) x = (refl, subst Nought (sym x) (page_nought p g l))

pub lies_back : (c : ℕ) (p : Pool) → sound c p ≡ true → (g : ℕ) → g < 512 * c → (k b : ℕ) → 0xC0000000 ≤ get_or p.words g 0
    → k ≡ (get_or p.words g 0 - 0xC0000000) / 65536 → b ≡ get_or p.words g 0 % 65536 → (k ≤ g) × Lies p g (g - k) (Class b)
lies_back c p s g l k b h e f =
    let (a, q, r) = (sound_runs c p s).back g k b l (omega arith) (omega arith) in (a, record { is = sym q; by = r })

-- a page inside a run whose word is not 0 has a high one
high_inner : (p : Pool) (g v : ℕ) → kind_at p g ≡ Inner v → v ≢ 0 → 0xC0000000 ≤ get_or p.words g 0
high_inner p g v x n =
    by_cases (dec_le 0xC0000000 (get_or p.words g 0)) (λ a. a) (λ a. absurd (n (subst Nought x (page_nought p g (omega arith)))))

-- a page of a class run is told by the run's first page
pub lies_in : (c : ℕ) (p : Pool) → sound c p ≡ true → (g : ℕ) → g < 512 * c → in_class (kind_at p g) ≡ true → (w : ℕ) → w ≡ get_or p.words g 0
    → w < 2 ^ 32 → (k b : ℕ) → k ≡ w / 65536 % 16384 → b ≡ w % 65536 → (k ≤ g) × Lies p g (g - k) (Class b)
lies_in c p s g l t w e m k b f h = go (kind_at p g) refl t
  where
    go : (j : Kind) → kind_at p g ≡ j → in_class j ≡ true → (k ≤ g) × Lies p g (g - k) (Class b)
    go Edge x u = absurd (false≢true u)
    go Free x u = absurd (false≢true u)
    go Damaged x u = absurd (false≢true u)
    go (Large n) x u = absurd (false≢true u)
    go (Class d) x u =
        let z = page_word p g x in let n = class_at_low p g d x in
        let same : b ≡ d = omega arith in
        let top : w / 65536 ≡ 32768 = omega arith in
        let nought : k ≡ 0 = f ∙ ap (λ (x : ℕ). x % 16384) top in
        let here : g - k ≡ g = omega arith in (
          omega arith,
          subst⁻¹ (λ (f : ℕ). Lies p g f (Class b)) here (subst⁻¹ (λ (i : ℕ). Lies p g g (Class i)) same (lies_self p g (omega arith) (sym x))),
        )
    go (Inner v) x u =
        let high = high_inner p g v x (λ n. absurd (false≢true (sym (ap not (eq-eqb v 0 n)) ∙ u))) in
        lies_back c p s g l k b high (omega arith) (omega arith)

-- any other page by itself
pub lies_out : (p : Pool) (g : ℕ) {k : Kind} → in_class (kind_at p g) ≡ false → k ≡ kind_at p g → Lies p g g k
lies_out p g {k} t e = record { is = e; by = go k e (ap in_class e ∙ t) }
  where
    go : (j : Kind) → j ≡ kind_at p g → in_class j ≡ false → LiesBy p g g j
    go Edge x u = refl
    go Free x u = refl
    go Damaged x u = refl
    go (Large n) x u = refl
    go (Class b) x u = absurd (false≢true (sym u))
    go (Inner w) x u = (refl, eqb-true w 0 (not-false _ u))

-- in the arm of a match: the kind that was told is this one
pub lies_as : {p : Pool} {g f : ℕ} {j k : Kind} → j ≡ k → Lies p g f j → Lies p g f k
lies_as {p} {g} {f} e r = subst (Lies p g f) e r

-- ---- the part of a class run that a page is

pub part_is : (c : ℕ) (p : Pool) → sound c p ≡ true → (g : ℕ) → g < 512 * c → (w : ℕ) → w ≡ get_or p.words g 0 → w < 2 ^ 32
    → ClassPart (w / 0x40000000) (kind_at p g)
part_is c p s g l w e m = go (kind_at p g) refl
  where
    go : (k : Kind) → kind_at p g ≡ k → ClassPart (w / 0x40000000) k
    go Edge x = let z = page_word p g x in omega arith
    go Free x = let z = page_word p g x in omega arith
    go Damaged x = absurd (right c p s g l x)
    go (Large k) x = let z = page_word p g x in let n = large_at_low p g k x in omega arith
    go (Class b) x = let z = page_word p g x in let n = class_at_low p g b x in omega arith
    go (Inner v) x =
        let z = page_word p g x in
        by_cases (ℕ_discrete v 0) (λ n. (let r : w / 0x40000000 ≡ 0 = omega arith in r) ∙ sym (cond_eq v 0 0 3 n))
        (λ n. let high = high_inner p g v x n in (let r : w / 0x40000000 ≡ 3 = omega arith in r) ∙ sym (cond_ne v 0 0 3 n))

in_part : {r : ℕ} (k : Kind) → ClassPart r k → (w : ℕ) → r ≡ w / 0x40000000 → leb 0x80000000 w ≡ in_class k
in_part Edge h w e = lt-leb 0x80000000 w (omega arith)
in_part Free h w e = lt-leb 0x80000000 w (omega arith)
in_part Damaged h w e = lt-leb 0x80000000 w (omega arith)
in_part (Large k) h w e = lt-leb 0x80000000 w (omega arith)
in_part (Class b) h w e = le-leb 0x80000000 w (omega arith)
in_part (Inner v) h w e =
    by_cases (ℕ_discrete v 0)
    (λ n. let z = h ∙ cond_eq v 0 0 3 n in lt-leb 0x80000000 w (omega arith) ∙ sym (ap not (eq-eqb v 0 n)))
    (λ n. let z = h ∙ cond_ne v 0 0 3 n in le-leb 0x80000000 w (omega arith) ∙ sym (ap not (ne_eqb v 0 n)))

-- whether it is one at all
pub in_class_lem : (c : ℕ) (p : Pool) → sound c p ≡ true → (g : ℕ) → g < 512 * c → get_or p.words g 0 < 2 ^ 32
    → leb 0x80000000 (get_or p.words g 0) ≡ in_class (kind_at p g)
in_class_lem c p s g l m = in_part (kind_at p g) (part_is c p s g l (get_or p.words g 0) refl m) (get_or p.words g 0) refl
