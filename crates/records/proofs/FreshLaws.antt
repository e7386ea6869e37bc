-- Fresh records are sound, and have the shape of their chunks. Assumes nothing.
use mathlib.Core.Path.{◌≡◌, refl, sym, ap, ap₂, ◌∙◌}
use mathlib.Core.Logic.{◌≢◌, by_cases}
use mathlib.Core.Bool.{Bool, true, false, cond}
use mathlib.Core.Option.{some}
use mathlib.Core.List.{List, [], ◌∷◌}
use Prim.Native.Nat.{ℕ, zero, suc, ◌+◌, ◌*◌, ◌/◌, ◌%◌, ◌^◌, ◌≤◌, ◌<◌}
use native.Mathlib.Decide.{ℕ_discrete}
use native.Mathlib.Nat.{div-eq_of_lt, zero-div, lt_of_lt_of_le}
use native.Mathlib.Omega.{arith}
use lib.Dec.{eqb, ltb}
use lib.ListN.{length, get_or, length-append, get_or-append}
use lib.Pow.{pow_mono}
use lib.Seq.{get_or-append-add}
use borrow.Author.Tests.{eq-eqb, ne_eqb}
use Rattle.refusals.proofs.CallLaws.{served}
use Rattle.bitrow.specs.Row.{bit, bit_at, is_set}
use Rattle.records.specs.declared.Kind.{Kind}
use Rattle.records.specs.declared.Kind.TheVariants.{Edge, Free}
use Rattle.records.specs.Kinds.{edge_word, kind_of, zeros, slots_of}
use Rattle.records.specs.Pool.{Pool, is_edge, kind_at, slot_at}
use Rattle.records.specs.Sound.{named, clean, step, sound}
use Rattle.records.specs.Calls.{fit, shape_of, leaves, repeat, fresh_pool, fresh_of}
use Rattle.records.proofs.Flags.{all_of}
use Rattle.records.proofs.KindLaws.{length_zeros, get_or_zeros, kind_edge, kind_free}
use Rattle.records.proofs.WalkLaws.{walk, walk_step, walks_sound}
use Rattle.records.proofs.AdmitLaws.{lengths_shaped, shape_fit}

-- ---- chunks alike

pub length_repeat : (c m : ℕ) (l : List ℕ) → length l ≡ m → length (repeat c l) ≡ m * c
unfolding repeat
length_repeat zero m l e = omega arith
length_repeat (suc c) m l e = length-append l (repeat c l) ∙ omega (arith, length_repeat c m l e)

pub get_or_repeat : (c m : ℕ) (l : List ℕ) (k j : ℕ) → length l ≡ m → k < c → j < m → get_or (repeat c l) (k * m + j) 0 ≡ get_or l j 0
unfolding repeat
get_or_repeat zero m l k j e h i = absurd (omega arith)
get_or_repeat (suc c) m l zero j e h i =
    let r : 0 * m + j ≡ j = omega arith in
    rw r (get_or-append l (repeat c l) 0 j (omega arith))
get_or_repeat (suc c) m l (suc k) j e h i =
    let r : suc k * m + j ≡ length l + (k * m + j) = omega arith in
    rw r (get_or-append-add l (repeat c l) (k * m + j) 0 ∙ get_or_repeat c m l k j e (omega arith) i)

-- the chunk's first element, and zeros behind it
pub get_d_head : (x n j : ℕ) → get_or (x ∷ zeros n) j 0 ≡ cond (eqb j 0) x 0
get_d_head x n zero = sym (ap (λ (t : Bool). cond t x 0) (eq-eqb 0 0 refl))
get_d_head x n (suc j) = get_or_zeros n j ∙ sym (ap (λ (t : Bool). cond t x 0) (ne_eqb (suc j) 0 (omega arith)))

-- ---- a fresh pool's words

pub fresh_bits : (c i : ℕ) → i < 8 * c → get_or (repeat c (1 ∷ zeros 7)) i 0 ≡ cond (eqb (i % 8) 0) 1 0
fresh_bits c i h =
    let r : i ≡ i / 8 * 8 + i % 8 = omega arith in
    ap (λ (j : ℕ). get_or (repeat c (1 ∷ zeros 7)) j 0) r ∙ get_or_repeat c 8 (1 ∷ zeros 7) (i / 8) (i % 8) refl (omega arith) (omega arith)
    ∙ get_d_head 1 7 (i % 8)

pub fresh_words : (c g : ℕ) → g < 512 * c → get_or (repeat c (edge_word ∷ zeros 511)) g 0 ≡ cond (eqb (g % 512) 0) edge_word 0
fresh_words c g h =
    let r : g ≡ g / 512 * 512 + g % 512 = omega arith in
    ap (λ (j : ℕ). get_or (repeat c (edge_word ∷ zeros 511)) j 0) r
    ∙ get_or_repeat c 512 (edge_word ∷ zeros 511) (g / 512) (g % 512) (ap suc (length_zeros 511)) (omega arith) (omega arith)
    ∙ get_d_head edge_word 511 (g % 512)

-- ---- its pages

one_bit : (i : ℕ) → i ≢ 0 → bit 1 i ≡ 0
unfolding bit
one_bit i n = ap (λ (x : ℕ). x % 2) (div-eq_of_lt (lt_of_lt_of_le (omega arith) (pow_mono {i = 1} {j = i} (omega arith))))

lowest_one : eqb (bit 1 0) 1 ≡ true
unfolding bit
lowest_one = refl

no_bit : (i : ℕ) → bit 0 i ≡ 0
unfolding bit
no_bit i = ap (λ (x : ℕ). x % 2) (zero-div (2 ^ i))

zeros_clear : (n i : ℕ) → is_set (zeros n) i ≡ false
unfolding is_set bit_at
zeros_clear n i = ap (λ (w : ℕ). eqb (bit w (i % 64)) 1) (get_or_zeros n (i / 64)) ∙ ap (λ (x : ℕ). eqb x 1) (no_bit (i % 64)) ∙ ne_eqb 0 1 (omega arith)

module _ (c g : ℕ) (h : g < 512 * c) where
  abbrev bits : List ℕ
  bits = repeat c (1 ∷ zeros 7)

  word : (v : ℕ) → cond (eqb (g / 64 % 8) 0) 1 0 ≡ v → get_or bits (g / 64) 0 ≡ v
  word v e = fresh_bits c (g / 64) (omega arith) ∙ e

  edge_set : g % 512 ≡ 0 → is_set bits g ≡ true
  unfolding is_set bit_at
  edge_set e =
      let q : g / 64 % 8 ≡ 0 = omega arith in
      let r : g % 64 ≡ 0 = omega arith in
      ap₂ (λ (w i : ℕ). eqb (bit w i) 1) (word 1 (ap (λ (t : Bool). cond t 1 0) (eq-eqb (g / 64 % 8) 0 q))) r ∙ lowest_one

  free_clear : g % 512 ≢ 0 → is_set bits g ≡ false
  unfolding is_set bit_at
  free_clear n =
      ap (λ (x : ℕ). eqb x 1)
      (by_cases (ℕ_discrete (g / 64 % 8) 0)
      (λ q. ap (λ (w : ℕ). bit w (g % 64)) (word 1 (ap (λ (t : Bool). cond t 1 0) (eq-eqb (g / 64 % 8) 0 q))) ∙ one_bit (g % 64) (λ r. n (omega arith)))
      (λ q. ap (λ (w : ℕ). bit w (g % 64)) (word 0 (ap (λ (t : Bool). cond t 1 0) (ne_eqb (g / 64 % 8) 0 q))) ∙ no_bit (g % 64)))
      ∙ ne_eqb 0 1 (omega arith)

  pub fresh_edge : g % 512 ≡ 0 → kind_at (fresh_pool c) g ≡ Edge
  unfolding kind_at is_edge fresh_pool
  fresh_edge e =
      ap₂ (λ (t u : Bool). kind_of t u (get_or (repeat c (edge_word ∷ zeros 511)) g 0)) (eq-eqb (g % 512) 0 e) (edge_set e)
      ∙ ap (kind_of true true) (fresh_words c g h ∙ ap (λ (t : Bool). cond t edge_word 0) (eq-eqb (g % 512) 0 e)) ∙ kind_edge

  pub fresh_free : g % 512 ≢ 0 → kind_at (fresh_pool c) g ≡ Free
  unfolding kind_at is_edge fresh_pool
  fresh_free n =
      ap₂ (λ (t u : Bool). kind_of t u (get_or (repeat c (edge_word ∷ zeros 511)) g 0)) (ne_eqb (g % 512) 0 n) (free_clear n)
      ∙ ap (kind_of false false) (fresh_words c g h ∙ ap (λ (t : Bool). cond t edge_word 0) (ne_eqb (g % 512) 0 n)) ∙ kind_free

  idle : step [] (kind_at (fresh_pool c) g) ≡ some []
  idle = by_cases (ℕ_discrete (g % 512) 0) (λ e. ap (step []) (fresh_edge e)) (λ e. ap (step []) (fresh_free e))

  fresh_clean : clean (fresh_pool c) g ≡ true
  unfolding clean named slot_at fresh_pool
  fresh_clean =
      all_of 512 (named (fresh_pool c) g)
      (λ s l. ap (λ (t : Bool). cond t (ltb s (slots_of (kind_at (fresh_pool c) g))) true) (zeros_clear (4096 * c) (512 * g + s)))

-- ---- the walk

walk_idle : (K : ℕ → Kind) (n g : ℕ) → ((i : ℕ) → g ≤ i → i < g + n → step [] (K i) ≡ some []) → walk K [] g n ≡ true
unfolding walk
walk_idle K zero g h = refl
walk_idle K (suc n) g h =
    walk_step K [] [] g n (h g (omega arith) (omega arith)) ∙ walk_idle K n (suc g) (λ i a b. h i (omega arith) (omega arith))

pub fresh_sound : (c : ℕ) → sound c (fresh_pool c) ≡ true
fresh_sound c =
    walks_sound c (fresh_pool c)
    (record { walks = walk_idle (kind_at (fresh_pool c)) (512 * c) 0 (λ i a b. idle c i (omega arith)); tidy = λ i a b. fresh_clean c i (omega arith) })

pub fresh_fit : (c : ℕ) → 1 ≤ c → c ≤ 16 → fit c (fresh_pool c) ≡ true
unfolding fresh_pool
fresh_fit c l h =
    sym (lengths_shaped c _ _ _ (record {
      some_chunk = l;
      few = h;
      bits_long = length_repeat c 8 (1 ∷ zeros 7) refl;
      words_long = length_repeat c 512 (edge_word ∷ zeros 511) (ap suc (length_zeros 511));
      slots_long = length_zeros (4096 * c);
    }))

-- the fresh call, where it is served
pub fresh_served : (c : ℕ) (p : Pool) → fit c p ≡ true → fresh_of c p ≡ leaves 0 (fresh_pool c)
unfolding fresh_of
fresh_served c p e = sym (served (shape_of c p) 0 (λ r. leaves r p) (leaves 0 (fresh_pool c)) (shape_fit c p e) refl)
