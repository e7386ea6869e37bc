-- What the words that are written mean, and what a taken page that begins nothing is. Assumes nothing.
use mathlib.Core.Path.{◌≡◌, refl, ap, ◌∙◌}
use mathlib.Core.Logic.{◌≢◌}
use mathlib.Core.Bool.{true, false, cond}
use Rattle.records.specs.declared.Kind.{Kind}
use Prim.Native.Nat.{ℕ, zero, suc, ◌+◌, ◌-◌, ◌≤◌, ◌<◌}
use native.Mathlib.Omega.{arith}
use lib.Dec.{eqb, ltb}
use lib.ListN.{length, get_or, length-replicate}
use Rattle.records.specs.declared.Kind.TheVariants.{Edge, Free, Damaged, Large, Class, Inner}
use Rattle.records.specs.Kinds.{inner_word, kind_of, zeros, inner_words}
use Rattle.records.proofs.Flags.{cond_eq, cond_ne, cond_lt, cond_nlt, cond_le, cond_nle}

pub length_zeros : (n : ℕ) → length (zeros n) ≡ n
length_zeros n = length-replicate n 0

pub get_or_zeros : (n i : ℕ) → get_or (zeros n) i 0 ≡ 0
get_or_zeros zero i = refl
get_or_zeros (suc n) zero = refl
get_or_zeros (suc n) (suc i) = get_or_zeros n i

pub length_inner : (b k n : ℕ) → length (inner_words b k n) ≡ n
unfolding inner_words
length_inner b k zero = refl
length_inner b k (suc n) = ap suc (length_inner b (suc k) n)

pub get_or_inner : (b k n i : ℕ) → i < n → get_or (inner_words b k n) i 0 ≡ inner_word b (k + i)
unfolding inner_words
get_or_inner b k zero i h = absurd (omega arith)
get_or_inner b k (suc n) zero h = omega arith
get_or_inner b k (suc n) (suc i) h = get_or_inner b (suc k) n i (omega arith) ∙ omega arith

-- ---- the words of a run

pub kind_edge : kind_of true true 0x40000001 ≡ Edge
kind_edge = cond_eq 0x40000001 0x40000001 Edge Damaged refl

pub kind_free : kind_of false false 0 ≡ Free
kind_free = cond_eq 0 0 Free Damaged refl

-- the choices for a taken page that is not page 0, opened down to the one for words of these ranges
class_word_lem : (w : ℕ) → 0x80000000 ≤ w → w < 0xC0000000 → kind_of false true w ≡ cond (ltb w 0x8000001E) (Class (w - 0x80000000)) Damaged
class_word_lem w h l = cond_nle 0xC0000000 w _ _ l ∙ cond_le 0x80000000 w _ _ h

large_word_lem : (w : ℕ) → 0x40000001 ≤ w → w < 0x80000000 → kind_of false true w ≡ cond (ltb w 0x40000200) (Large (w - 0x40000001)) Damaged
large_word_lem w h l = cond_nle 0xC0000000 w _ _ (omega arith) ∙ cond_nle 0x80000000 w _ _ l ∙ cond_le 0x40000001 w _ _ h

low_word : (w : ℕ) → w < 0x40000001 → kind_of false true w ≡ cond (eqb w 0) (Inner w) Damaged
low_word w l = cond_nle 0xC0000000 w _ _ (omega arith) ∙ cond_nle 0x80000000 w _ _ (omega arith) ∙ cond_nle 0x40000001 w _ _ l

pub kind_inner : (w : ℕ) → 0xC0000000 ≤ w → kind_of false true w ≡ Inner w
kind_inner w h = cond_le 0xC0000000 w _ _ h

pub kind_zero : (w : ℕ) → w ≡ 0 → kind_of false true w ≡ Inner w
kind_zero w e = low_word w (omega arith) ∙ cond_eq w 0 _ _ e

pub kind_class : (w : ℕ) → 0x80000000 ≤ w → w < 0x8000001E → kind_of false true w ≡ Class (w - 0x80000000)
kind_class w h l = class_word_lem w h (omega arith) ∙ cond_lt w 0x8000001E _ _ l

pub kind_large : (w : ℕ) → 0x40000001 ≤ w → w < 0x40000200 → kind_of false true w ≡ Large (w - 0x40000001)
kind_large w h l = large_word_lem w h (omega arith) ∙ cond_lt w 0x40000200 _ _ l

-- no other word has a meaning
pub kind_no_class : (w : ℕ) → 0x8000001E ≤ w → w < 0xC0000000 → kind_of false true w ≡ Damaged
kind_no_class w h l = class_word_lem w (omega arith) l ∙ cond_nlt w 0x8000001E _ _ h

pub kind_no_large : (w : ℕ) → 0x40000200 ≤ w → w < 0x80000000 → kind_of false true w ≡ Damaged
kind_no_large w h l = large_word_lem w (omega arith) l ∙ cond_nlt w 0x40000200 _ _ h

pub kind_no_low : (w : ℕ) → w ≢ 0 → w < 0x40000001 → kind_of false true w ≡ Damaged
kind_no_low w n l = low_word w l ∙ cond_ne w 0 _ _ n

-- ---- a match on the kind of a page

-- no block begins at the page
abbrev pub Bare : Kind → Type 0
Bare Edge = Unit {0}
Bare Free = Unit {0}
Bare Damaged = Unit {0}
Bare (Large k) = ⊥
Bare (Class b) = ⊥
Bare (Inner w) = Unit {0}

-- what a match tells where it has an arm each for the first pages of large runs and of class runs, and one for all other kinds
pub others_bare : (k : Kind) → ((n : ℕ) → k ≢ Large n) → ((b : ℕ) → k ≢ Class b) → Bare k
others_bare Edge l d = tt
others_bare Free l d = tt
others_bare Damaged l d = tt
others_bare (Large k) l d = l k refl
others_bare (Class b) l d = d b refl
others_bare (Inner w) l d = tt
