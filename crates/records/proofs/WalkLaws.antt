-- The pages of sound records, read upward: the walk over their kinds. Assumes nothing.
use mathlib.Core.Path.{◌≡◌, refl, sym, ap, ◌∙◌, subst}
use mathlib.Core.Logic.{◌≢◌, ◌⊎◌, inl, inr, by_cases}
use mathlib.Core.Bool.{Bool, true, false, ◌&&◌, false≢true}
use mathlib.Core.Option.{Option, none, some, none-ne-some, some-injective}
use mathlib.Core.List.{List, [], ◌∷◌}
use Prim.Native.Nat.{ℕ, zero, suc, ◌+◌, ◌-◌, ◌*◌, ◌≤◌, ◌<◌}
use native.Mathlib.Decide.{ℕ_discrete}
use native.Mathlib.Nat.{add-zero}
use native.Mathlib.Omega.{arith}
use lib.ListN.{length, get_or}
use Rattle.records.specs.declared.Kind.{Kind}
use Rattle.records.specs.declared.Kind.TheVariants.{Edge, Free, Damaged, Large, Class, Inner}
use Rattle.records.specs.Pool.{Pool, kind_at}
use Rattle.records.specs.Sound.{clean, step, follow, sound_from, sound}
use Rattle.records.proofs.Flags.{and_made, and_left, and_right, eq_cases}

-- ---- pages by their kinds alone

-- the n pages from page g on go on from these due words
unfoldable pub walk : (ℕ → Kind) → List ℕ → ℕ → ℕ → Bool
walk K [] g zero = true
walk K (w ∷ ws) g zero = false
walk K due g (suc n) = follow (step due (K g)) (λ later. walk K later (suc g) n)

-- one page on
pub walk_step : (K : ℕ → Kind) (st t : List ℕ) (g n : ℕ) → step st (K g) ≡ some t → walk K st g (suc n) ≡ walk K t (suc g) n
unfolding walk
walk_step K [] t g n e = ap (λ (o : Option (List ℕ)). follow o (λ u. walk K u (suc g) n)) e
walk_step K (w ∷ ws) t g n e = ap (λ (o : Option (List ℕ)). follow o (λ u. walk K u (suc g) n)) e

-- what a walk that goes on from page g leaves due
pub record Goes (K : ℕ → Kind) (st : List ℕ) (g n : ℕ) : Type 0 where
  pub due : List ℕ
  pub steps : step st (K g) ≡ some due
  pub walks : walk K due (suc g) n ≡ true

pub walk_next : (K : ℕ → Kind) (st : List ℕ) (g n : ℕ) → walk K st g (suc n) ≡ true → Goes K st g n
unfolding walk
walk_next K st g n h = go (step st (K g)) refl (split st h)
  where
    split : (l : List ℕ) → walk K l g (suc n) ≡ true → follow (step l (K g)) (λ u. walk K u (suc g) n) ≡ true
    split [] x = x
    split (w ∷ ws) x = x

    go : (o : Option (List ℕ)) → step st (K g) ≡ o → follow o (λ u. walk K u (suc g) n) ≡ true → Goes K st g n
    go none e x = absurd (false≢true x)
    go (some t) e x = record { due = t; steps = e; walks = x }

-- ---- sound records are a walk with no stray slot bit

pub sound_step : (p : Pool) (st : List ℕ) (g n : ℕ)
    → sound_from p st g (suc n) ≡ clean p g && follow (step st (kind_at p g)) (λ t. sound_from p t (suc g) n)
unfolding sound_from
sound_step p [] g n = refl
sound_step p (w ∷ ws) g n = refl

pub record Sound (p : Pool) (st : List ℕ) (g n : ℕ) : Type 0 where
  pub walks : walk (kind_at p) st g n ≡ true
  pub tidy : (i : ℕ) → g ≤ i → i < g + n → clean p i ≡ true

pub sound_from_lem : (p : Pool) (n : ℕ) (st : List ℕ) (g : ℕ) → sound_from p st g n ≡ true → Sound p st g n
unfolding sound_from walk
sound_from_lem p zero [] g e = record { walks = refl; tidy = λ i a b. absurd (omega arith) }
sound_from_lem p zero (w ∷ ws) g e = absurd (false≢true e)
sound_from_lem p (suc n) st g e =
    let f = sym (sound_step p st g n) ∙ e in
    let c = and_left (clean p g) (follow (step st (kind_at p g)) (λ t. sound_from p t (suc g) n)) f in
    go (step st (kind_at p g)) refl c (and_right (clean p g) (follow (step st (kind_at p g)) (λ t. sound_from p t (suc g) n)) f)
    (λ t. sound_from_lem p n t (suc g))
  where
    go : (o : Option (List ℕ)) → step st (kind_at p g) ≡ o → clean p g ≡ true → follow o (λ t. sound_from p t (suc g) n) ≡ true
        → ((t : List ℕ) → sound_from p t (suc g) n ≡ true → Sound p t (suc g) n) → Sound p st g (suc n)
    go none q c x ih = absurd (false≢true x)
    go (some t) q c x ih =
        let s = ih t x in
        record {
          walks = walk_step (kind_at p) st t g n q ∙ s.walks;
          tidy = λ i a b. by_cases (ℕ_discrete i g) (λ r. ap (clean p) r ∙ c) (λ r. s.tidy i (omega arith) (omega arith));
        }

pub from_sound : (p : Pool) (n : ℕ) (st : List ℕ) (g : ℕ) → Sound p st g n → sound_from p st g n ≡ true
unfolding sound_from walk
from_sound p zero [] g s = refl
from_sound p zero (w ∷ ws) g s = s.walks
from_sound p (suc n) st g s =
    let w = walk_next (kind_at p) st g n s.walks in
    sound_step p st g n
    ∙ and_made (clean p g) (follow (step st (kind_at p g)) (λ t. sound_from p t (suc g) n)) (s.tidy g (omega arith) (omega arith))
    (ap (λ (o : Option (List ℕ)). follow o (λ t. sound_from p t (suc g) n)) w.steps
    ∙ from_sound p n w.due (suc g) (record { walks = w.walks; tidy = λ i a b. s.tidy i (omega arith) (omega arith) }))

pub sound_walks : (c : ℕ) (p : Pool) → sound c p ≡ true → Sound p [] 0 (512 * c)
unfolding sound
sound_walks c p e = sound_from_lem p (512 * c) [] 0 e

pub walks_sound : (c : ℕ) (p : Pool) → Sound p [] 0 (512 * c) → sound c p ≡ true
unfolding sound
walks_sound c p s = from_sound p (512 * c) [] 0 s

-- ---- what a page is while words are due

pub step_inner : (w : ℕ) (ws : List ℕ) (k : Kind) (t : List ℕ) → step (w ∷ ws) k ≡ some t → (k ≡ Inner w) × (t ≡ ws)
step_inner w ws Edge t e = absurd (none-ne-some t e)
step_inner w ws Free t e = absurd (none-ne-some t e)
step_inner w ws Damaged t e = absurd (none-ne-some t e)
step_inner w ws (Large k) t e = absurd (none-ne-some t e)
step_inner w ws (Class b) t e = absurd (none-ne-some t e)
step_inner w ws (Inner v) t e =
    eq_cases (λ (o : Option (List ℕ)). o ≡ some t → (Inner v ≡ Inner w) × (t ≡ ws)) w v
    (λ p x. (ap Inner (sym p), sym (some-injective ws t x))) (λ p x. absurd (none-ne-some t x)) e

-- a walk that expects words finds them
pub walk_found : (K : ℕ → Kind) (ws : List ℕ) (g n : ℕ) → walk K ws g n ≡ true
    → (length ws ≤ n) × ((i : ℕ) → i < length ws → K (g + i) ≡ Inner (get_or ws i 0))
unfolding walk
walk_found K [] g n h = (omega arith, λ i l. absurd (omega arith))
walk_found K (w ∷ ws) g zero h = absurd (false≢true h)
walk_found K (w ∷ ws) g (suc n) h =
    let s = walk_next K (w ∷ ws) g n h in
    let (p, q) = step_inner w ws (K g) s.due s.steps in
    let (l, f) = walk_found K ws (suc g) n (subst (λ (u : List ℕ). walk K u (suc g) n ≡ true) q s.walks) in
    (omega arith, λ i. elim i as (λ (k : ℕ). k < suc (length ws) → K (g + k) ≡ Inner (get_or (w ∷ ws) k 0)) [ zero ↦ λ a. ap K (add-zero g) ∙ p | suc j ↦ λ a. ap K (omega arith) ∙ f j (omega arith) ])

-- a page that no run has inside
abbrev pub Begins : Kind → Type 0
Begins k = (w : ℕ) (ws t : List ℕ) → step (w ∷ ws) k ≢ some t

-- at such a page a walk is between runs
pub walk_at : (K : ℕ → Kind) (d : ℕ) (st : List ℕ) (g n i m : ℕ) → g + d ≡ i → d + suc m ≡ n → Begins (K i) → walk K st g n ≡ true
    → walk K [] i (suc m) ≡ true
walk_at K d st g zero i m p q b h = absurd (omega arith)
walk_at K zero [] g (suc n) i m p q b h =
    let e : g ≡ i = omega arith in let f : suc n ≡ suc m = omega arith in
    subst (λ (j : ℕ). walk K [] j (suc m) ≡ true) e (subst (λ (j : ℕ). walk K [] g j ≡ true) f h)
walk_at K zero (w ∷ ws) g (suc n) i m p q b h =
    let s = walk_next K (w ∷ ws) g n h in
    let e : i ≡ g = omega arith in
    absurd (b w ws s.due (ap (λ (j : ℕ). step (w ∷ ws) (K j)) e ∙ s.steps))
walk_at K (suc d) st g (suc n) i m p q b h =
    let s = walk_next K st g n h in walk_at K d s.due (suc g) n i m (omega arith) (omega arith) b s.walks

-- ---- the run that an inner page belongs to

-- page j, inside a run with the word w: the run starts at page f and has the words ws behind its first
pub record Home (K : ℕ → Kind) (s j w : ℕ) : Type 0 where
  pub first : ℕ
  pub words : List ℕ
  pub low : s ≤ first
  pub below : first < j
  pub begins : step [] (K first) ≡ some words
  pub fits : j - suc first < length words
  pub word : w ≡ get_or words (j - suc first) 0

-- an inner page has a word that was due at the start, or belongs to a run that starts behind it
pub walk_home : (K : ℕ → Kind) (n : ℕ) (st : List ℕ) (s j w : ℕ) → walk K st s n ≡ true → s ≤ j → j < s + n → K j ≡ Inner w
    → ((j - s < length st) × (w ≡ get_or st (j - s) 0)) ⊎ Home K s j w
walk_home K zero st s j w h a b e = absurd (omega arith)
walk_home K (suc n) st s j w h a b e =
    let g = walk_next K st s n h in
    by_cases (ℕ_discrete j s) (λ q. at st g.due q g.steps)
    (λ q. behind st g.due q g.steps (walk_home K n g.due (suc s) j w g.walks (omega arith) (omega arith) e))
  where
    at : (l t : List ℕ) → j ≡ s → step l (K s) ≡ some t → ((j - s < length l) × (w ≡ get_or l (j - s) 0)) ⊎ Home K s j w
    at [] t q x = absurd (none-ne-some t (sym (ap (step []) (ap K (sym q) ∙ e)) ∙ x))
    at (v ∷ vs) t q x =
        let (p, r) = step_inner v vs (K s) t x in
        let same : Inner w ≡ Inner v = sym e ∙ ap K q ∙ p in
        let value : w ≡ v = cc in
        let place : j - s ≡ 0 = omega arith in
        inl (omega arith, rw place value)

    behind : (l t : List ℕ) → j ≢ s → step l (K s) ≡ some t → ((j - suc s < length t) × (w ≡ get_or t (j - suc s) 0)) ⊎ Home K (suc s) j w
        → ((j - s < length l) × (w ≡ get_or l (j - s) 0)) ⊎ Home K s j w
    behind l t q x (inr h) =
        let a = h.low in
        inr (record { first = h.first; words = h.words; low = omega arith; below = h.below; begins = h.begins; fits = h.fits; word = h.word })
    behind [] t q x (inl (f, v)) = inr (record { first = s; words = t; low = omega arith; below = omega arith; begins = x; fits = f; word = v })
    behind (v ∷ vs) t q x (inl (f, u)) =
        let (p, r) = step_inner v vs (K s) t x in
        let place : j - s ≡ suc (j - suc s) = omega arith in
        let long : length t ≡ length vs = ap length r in
        inl (omega arith, rw place (u ∙ ap (λ (l : List ℕ). get_or l (j - suc s) 0) r))

-- a walk passes no damaged page
pub walk_right : (K : ℕ → Kind) (n : ℕ) (st : List ℕ) (g : ℕ) → walk K st g n ≡ true → (i : ℕ) → g ≤ i → i < g + n → K i ≢ Damaged
walk_right K zero st g h i a b e = absurd (omega arith)
walk_right K (suc n) st g h i a b e =
    let s = walk_next K st g n h in
    by_cases (ℕ_discrete i g) (λ p. no st s.due (ap (step st) (sym (ap K (sym p) ∙ e)) ∙ s.steps))
    (λ p. walk_right K n s.due (suc g) s.walks i (omega arith) (omega arith) e)
  where
    no : (l t : List ℕ) → step l Damaged ≡ some t → ⊥
    no [] t x = none-ne-some t x
    no (w ∷ ws) t x = none-ne-some t x
