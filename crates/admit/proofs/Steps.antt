-- One page of the check, with the state as two numbers. Assumes nothing.
use mathlib.Core.Path.{◌≡◌, refl, sym, ap, ap₂, ◌∙◌, subst}
use mathlib.Core.Logic.{◌≢◌, by_cases}
use mathlib.Core.Bool.{Bool, true, false}
use mathlib.Core.Option.{none, some}
use mathlib.Core.List.{List, [], ◌∷◌}
use Prim.Native.Nat.{ℕ, zero, suc, ◌+◌, ◌*◌, ◌-◌, ◌≤◌, ◌<◌}
use native.Mathlib.Decide.{dec_le, dec_lt, ℕ_discrete}
use native.Mathlib.Omega.{arith}
use lib.Dec.{eqb}
use Rattle.classes.proofs.ClassLaws.{any_row}
use Rattle.records.specs.declared.Kind.{Kind}
use Rattle.records.specs.declared.Kind.TheVariants.{Free, Damaged, Class, Inner}
use Rattle.records.specs.Kinds.{kind_of, zeros, behind, inner_words, slots_of}
use Rattle.records.specs.Sound.{step}
use Rattle.records.proofs.Flags.{cond_eq, cond_ne, eq_cases, lt_cases, le_cases}
use Rattle.records.proofs.KindLaws.{kind_inner, kind_zero, kind_class, kind_large, kind_no_class, kind_no_large, kind_no_low}
use Rattle.records.specs.Slots.{slots_clear}
use Rattle.admit.specs.Pages.{next_word, coming, Ready, Stuck, Paged}

-- ---- the words to come

pub after_zero : (d : ℕ) → d ≡ 0 → 0 ≡ next_word d
unfolding next_word
after_zero d e = sym (cond_eq d 0 0 (d + 65536) e)

pub after_more : (d : ℕ) → d ≢ 0 → d + 65536 ≡ next_word d
unfolding next_word
after_more d e = sym (cond_ne d 0 0 (d + 65536) e)

coming_zeros : (k : ℕ) → zeros k ≡ coming 0 k
unfolding coming
coming_zeros zero = refl
coming_zeros (suc k) = ap (λ (l : List ℕ). 0 ∷ l) (coming_zeros k ∙ ap (λ (d : ℕ). coming d k) (after_zero 0 refl))

coming_words : (b k n : ℕ) → inner_words b k n ≡ coming (0xC0000000 + 65536 * k + b) n
unfolding coming inner_words
coming_words b k zero = refl
coming_words b k (suc n) =
    let e : 0xC0000000 + 65536 * suc k + b ≡ 0xC0000000 + 65536 * k + b + 65536 = omega arith in
    ap (λ (l : List ℕ). (0xC0000000 + 65536 * k + b) ∷ l)
    (coming_words b (suc k) n ∙ ap (λ (x : ℕ). coming x n) (e ∙ after_more (0xC0000000 + 65536 * k + b) (omega arith)))

pub ready_none : Ready 0 0
ready_none = record { near = omega arith; inner = λ n. absurd (n refl) }

-- a page inside a run
inner_kind : (left d : ℕ) → Ready left d → kind_of false true d ≡ Inner d
inner_kind left d r = by_cases (ℕ_discrete d 0) (λ e. kind_zero d e) (λ e. kind_inner d (r.inner e))

ready_after : (left d x : ℕ) → Ready left d → left ≢ 0 → x ≡ next_word d → Ready (left - 1) x
ready_after left d x r l e =
    let n = r.near in
    by_cases (ℕ_discrete d 0)
    (λ z. let q : x ≡ 0 = e ∙ sym (after_zero d z) in record { near = omega arith; inner = λ m. absurd (m q) })
    (λ z. let q : x ≡ d + 65536 = e ∙ sym (after_more d z) in let i = r.inner z in record { near = omega arith; inner = λ m. omega arith })

-- ---- pages that do not fit

-- inside a run: a free page, and a page with another word
run_free : (x : ℕ) (xs : List ℕ) (w : ℕ) → step (x ∷ xs) (kind_of false false w) ≡ none
run_free x xs w = eq_cases (λ (k : Kind). step (x ∷ xs) k ≡ none) w 0 (λ a. refl) (λ a. refl)

run_other : (x : ℕ) (xs : List ℕ) (w : ℕ) → x ≢ w → step (x ∷ xs) (kind_of false true w) ≡ none
run_other x xs w n =
    le_cases P 0xC0000000 w (λ a. cond_ne x w (some xs) none n)
    (λ a. le_cases P 0x80000000 w (λ b. lt_cases P w 0x8000001E (λ d. refl) (λ d. refl))
    (λ b. le_cases P 0x40000001 w (λ d. lt_cases P w 0x40000200 (λ e. refl) (λ e. refl))
    (λ d. eq_cases P w 0 (λ e. cond_ne x w (some xs) none n) (λ e. refl))))
  where
    P : Kind → Type 0
    P k = step (x ∷ xs) k ≡ none

-- between runs: a taken page that begins nothing
idle_none : (w : ℕ) → (0x80000000 ≤ w → w < 0x8000001E → ⊥) → (0x40000001 ≤ w → w < 0x40000200 → ⊥) → step [] (kind_of false true w) ≡ none
idle_none w n m =
    by_cases (dec_le 0xC0000000 w) (λ a. ap (step []) (kind_inner w a))
    (λ a. by_cases (dec_le 0x80000000 w)
    (λ b. by_cases (dec_lt w 0x8000001E) (λ d. absurd (n b d)) (λ d. ap (step []) (kind_no_class w (omega arith) (omega arith))))
    (λ b. by_cases (dec_le 0x40000001 w)
    (λ d. by_cases (dec_lt w 0x40000200) (λ e. absurd (m d e)) (λ e. ap (step []) (kind_no_large w (omega arith) (omega arith))))
    (λ d. by_cases (ℕ_discrete w 0) (λ e. ap (step []) (kind_zero w e)) (λ e. ap (step []) (kind_no_low w e (omega arith))))))

module _ (left due w : ℕ) where
  inside : (t : Bool) → ((xs : List ℕ) → step (due ∷ xs) (kind_of false t w) ≡ none) → left ≢ 0 → Stuck left due w t
  unfolding coming
  inside t f l = record { stops = go left l }
    where
      go : (n : ℕ) → n ≢ 0 → step (coming due n) (kind_of false t w) ≡ none
      go zero l = absurd (l refl)
      go (suc n) l = f (coming (next_word due) n)

  between : (t : Bool) → step [] (kind_of false t w) ≡ none → left ≡ 0 → Stuck left due w t
  unfolding coming
  between t e l = record { stops = ap (λ (n : ℕ). step (coming due n) (kind_of false t w)) l ∙ e }

  pub no_free_run : left ≢ 0 → Stuck left due w false
  no_free_run = inside false (λ xs. run_free due xs w)

  pub no_inner : left ≢ 0 → w ≢ due → Stuck left due w true
  no_inner l h = inside true (λ xs. run_other due xs w (λ e. h (sym e))) l

  pub no_run : left ≡ 0 → (0x80000000 ≤ w → w < 0x8000001E → ⊥) → (0x40000001 ≤ w → w < 0x40000200 → ⊥) → Stuck left due w true
  no_run l n m = between true (idle_none w n m) l

-- ---- pages that fit

module _ (ss : List ℕ) (g left due w : ℕ) (x : ℕ) where
  -- a page between runs, of the kind k, which leaves n pages to come with the word d first
  begun : (t : Bool) (k : Kind) (n d : ℕ) → left ≡ 0 → kind_of false t w ≡ k → step [] k ≡ some (coming d n) → eqb x 0 ≡ slots_clear ss g (slots_of k)
      → Ready n d → Paged ss g left due w t n d x
  unfolding coming
  begun t k n d l e s c r =
      record {
        moves = ap₂ (λ (m : ℕ) (q : Kind). step (coming due m) q) l e ∙ s;
        strays = c ∙ ap (λ (q : Kind). slots_clear ss g (slots_of q)) (sym e);
        ready = r;
      }

  pub is_free : left ≡ 0 → w ≡ 0 → eqb x 0 ≡ slots_clear ss g 0 → Paged ss g left due w false 0 0 x
  unfolding coming
  is_free l e c = begun false Free 0 0 l (cond_eq w 0 Free Damaged e) refl c ready_none

  pub is_class : (rest : ℕ) → left ≡ 0 → 0x80000000 ≤ w → w < 0x8000001E → rest ≡ behind (w - 0x80000000)
      → eqb x 0 ≡ slots_clear ss g (slots_of (Class (w - 0x80000000))) → Paged ss g left due w true rest (w + 0x40010000) x
  unfolding behind
  is_class rest l a b e c =
      let q : 0xC0000000 + 65536 * 1 + (w - 0x80000000) ≡ w + 0x40010000 = omega arith in
      let f = (any_row (w - 0x80000000)).pages_most in
      begun true (Class (w - 0x80000000)) rest (w + 0x40010000) l (kind_class w a b)
      (ap some (coming_words (w - 0x80000000) 1 (behind (w - 0x80000000)) ∙ ap₂ coming q (sym e))) c
      (record { near = omega arith; inner = λ m. omega arith })

  pub is_large : left ≡ 0 → 0x40000001 ≤ w → w < 0x40000200 → eqb x 0 ≡ slots_clear ss g 0 → Paged ss g left due w true (w - 0x40000001) 0 x
  is_large l a b c =
      begun true _ (w - 0x40000001) 0 l (kind_large w a b) (ap some (coming_zeros (w - 0x40000001))) c
      (record { near = omega arith; inner = λ m. absurd (m refl) })

  pub is_inner_lem : (d : ℕ) → Ready left due → left ≢ 0 → w ≡ due → eqb x 0 ≡ slots_clear ss g 0 → d ≡ next_word due → Paged ss g left due w true (left - 1) d x
  unfolding coming
  is_inner_lem d r l e c f =
      let k : kind_of false true w ≡ Inner due = ap (kind_of false true) e ∙ inner_kind left due r in
      record {
        moves = ap (step (coming due left)) k ∙ go left l;
        strays = c ∙ ap (λ (q : Kind). slots_clear ss g (slots_of q)) (sym k);
        ready = ready_after left due d r l f;
      }
    where
      go : (n : ℕ) → n ≢ 0 → step (coming due n) (Inner due) ≡ some (coming d (n - 1))
      go zero l = absurd (l refl)
      go (suc n) l = let r : suc n - 1 ≡ n = omega arith in rw r (cond_eq due due _ _ refl ∙ ap (λ (y : ℕ). some (coming y n)) (sym f))

-- the bit, as it was tested
pub stuck_is : {left due w : ℕ} {t v : Bool} → t ≡ v → Stuck left due w v → Stuck left due w t
stuck_is {left} {due} {w} e s = subst (λ (u : Bool). Stuck left due w u) (sym e) s

pub paged_is : {ss : List ℕ} {g left due w : ℕ} {t v : Bool} {left' due' x : ℕ} → t ≡ v → Paged ss g left due w v left' due' x
    → Paged ss g left due w t left' due' x
paged_is {ss} {g} {left} {due} {w} {t} {v} {left'} {due'} {x} e p = subst (λ (u : Bool). Paged ss g left due w u left' due' x) (sym e) p
