-- The page bits without the empty runs, word by word, and how the runs are given back by them. Assumes nothing.
use mathlib.Core.Path.{◌≡◌, refl, sym, ap, ap₂, ◌∙◌, subst}
use mathlib.Core.Logic.{inl, inr, by_cases}
use mathlib.Core.Bool.{Bool, true, false, cond}
use mathlib.Core.List.{List, [], ◌∷◌}
use Prim.Native.Nat.{ℕ, suc, ◌+◌, ◌-◌, ◌*◌, ◌/◌, ◌%◌, ◌^◌, ◌≤◌, ◌<◌}
use native.Mathlib.Decide.{ℕ_discrete, dec_lt}
use native.Mathlib.Omega.{arith}
use lib.Bits.{bit_and}
use lib.Count.{ones}
use lib.Dec.{eqb}
use lib.ListN.{length, get_or, set, length-set}
use lib.Seq.{ext_get_or, get_or-set_same, get_or-set_other, set-get_or}
use Rattle.bitrow.specs.Row.{digit, bit, bit_at, is_set, count_bits}
use Rattle.bitrow.specs.Mask.{with_mask}
use Rattle.bitrow.proofs.Masks.{with_mask_in, with_mask_out, with_mask_lt}
use Rattle.bitrow.proofs.Ext.{Words, word_ext}
use Rattle.bitrow.proofs.Counts.{count_le, count_add, count_sum, count_ones}
use Rattle.records.specs.Pool.{Pool, pool}
use Rattle.records.specs.Calls.{leaves}
use Rattle.records.proofs.WordLaws.{page_free, page_word}
use Rattle.records.proofs.AdmitLaws.{Shape, shaped_lengths}
use Rattle.blocks.specs.Stores.{Good}
use Rattle.sweep.specs.Sweep.{empty_from, swept, gained}
use Rattle.sweep.specs.Found.{empty_to, Marked, Spare, WordsFreed}
use Rattle.sweep.proofs.SweepLaws.{sweeps, swept_words, sweep_count}
use Rattle.sweep.proofs.FoundLaws.{found_taken, swept_bit, swept_word, swept_shape}

-- ---- a row and its words

-- the bits of word k
word_bit : (l : List ℕ) (k t : ℕ) → t < 64 → bit_at l (64 * k + t) ≡ bit (get_or l k 0) t
unfolding bit_at
word_bit l k t h =
    let q : (64 * k + t) / 64 ≡ k = omega arith in
    let r : (64 * k + t) % 64 ≡ t = omega arith in
    ap₂ (λ (u v : ℕ). bit (get_or l u 0) v) q r

-- a place by its word
place : (k i : ℕ) → 64 * k ≤ i → 64 * k + (i - 64 * k) ≡ i
place k i h = omega arith

-- ---- the page bits without the empty runs

-- a word without the places of a mask
masked : (w m t : ℕ) (v : Bool) → t < 64 → m < 2 ^ 64 → bit m t ≡ digit v → bit (with_mask 0 w m) t ≡ cond v 0 (bit w t)
masked w m t true l h e = with_mask_in 0 w m t (omega arith) l h e
masked w m t false l h e = with_mask_out 0 w m t l h e

-- the words before word k are done, and `last` tells of the page before it
pub record Sparing (c : ℕ) (p : Pool) (k : ℕ) (l : List ℕ) (last pages : ℕ) : Type 0 where
  pub long : length l ≡ 128
  pub words : (j : ℕ) → j < k → get_or l j 0 ≡ get_or (swept c p).bits j 0
  pub end : last ≡ digit (empty_to p (64 * k))
  -- and these pages were taken there
  pub count : count_bits (swept c p).bits 0 (64 * k) + pages ≡ count_bits p.bits 0 (64 * k)

pub sparing_none : (c : ℕ) (p : Pool) (l : List ℕ) → length l ≡ 128 → Sparing c p 0 l 0 0
unfolding empty_to count_bits
sparing_none c p l h = record { long = h; words = λ j a. absurd (omega arith); end = refl; count = refl }

-- the pages of one word
word_count : {c : ℕ} {p : Pool} {k m d : ℕ} → Good c p → k < 8 * c → Marked p k m d → m < 2 ^ 64
    → count_bits p.bits (64 * k) 64 ≡ count_bits (swept c p).bits (64 * k) 64 + ones m
word_count {c} {p} {k} {m} {d} good h marks small =
    count_sum 64 p.bits (swept c p).bits (m ∷ []) (64 * k) (64 * k) 0
    (λ t z. go t z (empty_to p (suc (64 * k + t))) refl (swept_bit c p good (64 * k + t) (omega arith)) (mark t z))
    ∙ ap (λ (x : ℕ). count_bits (swept c p).bits (64 * k) 64 + x) (count_ones m small)
  where
    mark : (t : ℕ) → t < 64 → bit_at (m ∷ []) (0 + t) ≡ digit (empty_to p (suc (64 * k + t)))
    mark t z =
        let r : 0 + t ≡ 64 * 0 + t = omega arith in
        ap (bit_at (m ∷ [])) r ∙ word_bit (m ∷ []) 0 t z ∙ marks.bits t z ∙ ap (λ (i : ℕ). digit (empty_to p i)) (omega arith)

    go : (t : ℕ) → t < 64 → (v : Bool) → empty_to p (suc (64 * k + t)) ≡ v → {x y : ℕ} → x ≡ cond v 0 (bit_at p.bits (64 * k + t)) → y ≡ digit v
        → bit_at p.bits (64 * k + t) ≡ x + y
    go t z true e s q = let a = found_taken c p good (64 * k + t) (omega arith) e in omega arith
    go t z false e s q = omega arith

-- a turn
pub sparing_on : {c : ℕ} {p : Pool} {k m d last pages : ℕ} {l : List ℕ} → Good c p → c ≤ 16 → Words p.bits → Sparing c p k l last pages → k < 8 * c
    → Marked p k m d → m < 2 ^ 64 → Sparing c p (k + 1) (set l k (bit_and (get_or p.bits k 0) (2 ^ 64 - 1 - m))) d (pages + ones m)
sparing_on {c} {p} {k} {m} {d} {last} {pages} {l} good few words f h marks small =
    record {
      long = length-set l k _ ∙ f.long;
      words = λ j a. by_cases (ℕ_discrete j k)
          (λ z. ap (λ (i : ℕ). get_or (set l k (with_mask 0 (get_or p.bits k 0) m)) i 0) z
          ∙ get_or-set_same l k _ 0 (omega (arith, f.long)) ∙ here ∙ ap (λ (i : ℕ). get_or (swept c p).bits i 0) (sym z))
          (λ z. get_or-set_other l k j _ 0 z ∙ f.words j (omega arith));
      end = marks.end ∙ ap (λ (i : ℕ). digit (empty_to p i)) (omega arith);
      count = omega (arith, f.count, parts p.bits, parts (swept c p).bits, word_count good h marks small);
    }
  where
    parts : (x : List ℕ) → count_bits x 0 (64 * (k + 1)) ≡ count_bits x 0 (64 * k) + count_bits x (64 * k) 64
    parts x =
        let r : 64 * (k + 1) ≡ 64 * k + 64 = omega arith in
        ap (count_bits x 0) r ∙ count_add (64 * k) x 0 64 ∙ ap (λ (i : ℕ). count_bits x 0 (64 * k) + count_bits x i 64) (omega arith)

    here : with_mask 0 (get_or p.bits k 0) m ≡ get_or (swept c p).bits k 0
    here =
        word_ext 64 (with_mask 0 (get_or p.bits k 0) m) (get_or (swept c p).bits k 0) (with_mask_lt 0 (get_or p.bits k 0) m (words k) small)
        (swept_words c p good words k)
        (λ t z. let r : 64 * k + suc t ≡ suc (64 * k + t) = omega arith in
        masked (get_or p.bits k 0) m t (empty_to p (64 * k + suc t)) z small (marks.bits t z)
        ∙ ap₂ (λ (i b : ℕ). cond (empty_to p i) 0 b) r (sym (word_bit p.bits k t z))
        ∙ sym (swept_bit c p good (64 * k + t) (omega arith)) ∙ word_bit (swept c p).bits k t z)

-- no sum of pages is large
pub sparing_few : {c : ℕ} {p : Pool} {k last pages : ℕ} {l : List ℕ} → Sparing c p k l last pages → (m : ℕ) → m < 2 ^ 64 → pages + ones m ≤ 64 * k + 64
sparing_few {p = p} {k} f m small =
    omega (arith, f.count, count_le (64 * k) p.bits 0, sym (count_ones m small), count_le 64 (m ∷ []) 0)

pub sparing_done : {c : ℕ} {p : Pool} {k last pages : ℕ} {l : List ℕ} → Good c p → Sparing c p k l last pages → k ≤ 8 * c → 8 * c ≤ k
    → Spare c p l × (pages ≡ empty_from p 0 (512 * c))
sparing_done {c} {p} {k} good f m h =
    let e : 64 * k ≡ 512 * c = omega arith in
    let a : (x : List ℕ) → count_bits x 0 (64 * k) ≡ count_bits x 0 (512 * c) = λ x. ap (count_bits x 0) e in
    (record { long = f.long; words = λ k a. f.words k (omega arith) }, omega (arith, f.count, a p.bits, a (swept c p).bits, sweep_count c p good))

-- such a row has the bits of the swept pool
pub spare_bit : {c : ℕ} {p : Pool} {l : List ℕ} → Spare c p l → (i : ℕ) → i < 512 * c → bit_at l i ≡ bit_at (swept c p).bits i
unfolding bit_at
spare_bit s i h = ap (λ (w : ℕ). bit w (i % 64)) (s.words (i / 64) (omega arith))

-- ---- the runs are given back

-- the pages of the words before word k are those of the pool q, and all others are those of p
pub record Giving (p q : Pool) (k : ℕ) (b w : List ℕ) : Type 0 where
  pub bits_long : length b ≡ length p.bits
  pub words_long : length w ≡ length p.words
  pub bits_done : (j : ℕ) → j < k → get_or b j 0 ≡ get_or q.bits j 0
  pub bits_left : (j : ℕ) → k ≤ j → get_or b j 0 ≡ get_or p.bits j 0
  pub words_done : (i : ℕ) → i < 64 * k → get_or w i 0 ≡ get_or q.words i 0
  pub words_left : (i : ℕ) → 64 * k ≤ i → get_or w i 0 ≡ get_or p.words i 0

pub giving_none : (p q : Pool) → Giving p q 0 p.bits p.words
giving_none p q =
    record {
      bits_long = refl;
      words_long = refl;
      bits_done = λ j a. absurd (omega arith);
      bits_left = λ j a. refl;
      words_done = λ i a. absurd (omega arith);
      words_left = λ i a. refl;
    }

module _ {c : ℕ} {p : Pool} (good : Good c p) where
  abbrev shape : Shape c p
  shape = shaped_lengths c _ _ _ good.shape

  -- a turn
  pub giving_on : {k x : ℕ} {b w w' : List ℕ} → Giving p (swept c p) k b w → k < 8 * c → x ≡ get_or (swept c p).bits k 0
      → WordsFreed w w' k x 64 → Giving p (swept c p) (k + 1) (set b k x) w'
  giving_on {k} {x} {b} {w} {w'} f h e g =
      record {
        bits_long = length-set b k x ∙ f.bits_long;
        words_long = g.long ∙ f.words_long;
        bits_done = λ j a. by_cases (ℕ_discrete j k)
            (λ z. ap (λ (i : ℕ). get_or (set b k x) i 0) z ∙ get_or-set_same b k x 0 (omega (arith, f.bits_long, shape.bits_long)) ∙ e
            ∙ ap (λ (i : ℕ). get_or (swept c p).bits i 0) (sym z))
            (λ z. get_or-set_other b k j x 0 z ∙ f.bits_done j (omega arith));
        bits_left = λ j a. get_or-set_other b k j x 0 (λ z. omega arith) ∙ f.bits_left j (omega arith);
        words_done = λ i a. by_cases (dec_lt i (64 * k)) (λ z. g.other i (inl z) ∙ f.words_done i z)
            (λ z. let o : 64 * k ≤ i = omega arith in
            subst (λ (j : ℕ). get_or w' j 0 ≡ get_or (swept c p).words j 0) (place k i o) (here (i - 64 * k) (omega arith)));
        words_left = λ i a. g.other i (inr (omega arith)) ∙ f.words_left i (omega arith);
      }
    where
      here : (t : ℕ) → t < 64 → get_or w' (64 * k + t) 0 ≡ get_or (swept c p).words (64 * k + t) 0
      here t a =
          g.here t a
          ∙ ap₂ (λ (v u : ℕ). cond (eqb v 1) u 0) (ap (λ (u : ℕ). bit u t) e ∙ sym (word_bit (swept c p).bits k t a))
          (f.words_left (64 * k + t) (omega arith))
          ∙ sym (swept_word c p good (64 * k + t) (omega arith))

  -- a page whose bit is 0 has the word 0
  bare_word : (i : ℕ) → i < 512 * c → get_or p.words i 0 ≡ cond (is_set p.bits i) (get_or p.words i 0) 0
  bare_word i h = go (is_set p.bits i) refl
    where
      go : (v : Bool) → is_set p.bits i ≡ v → get_or p.words i 0 ≡ cond v (get_or p.words i 0) 0
      go true e = refl
      go false e = page_word p i (page_free c p good.whole i h e)

  -- a word of page bits that stays as it is: the words of its pages stay
  word_stays : {q : Pool} {k : ℕ} {b w : List ℕ} → Giving p q k b w → k < 8 * c → WordsFreed w w k (get_or b k 0) 64
  unfolding is_set
  word_stays {q} {k} {b} {w} f h = record { long = refl; here = here; other = λ j o. refl }
    where
      here : (t : ℕ) → t < 64 → get_or w (64 * k + t) 0 ≡ cond (eqb (bit (get_or b k 0) t) 1) (get_or w (64 * k + t) 0) 0
      here t a =
          let left = f.words_left (64 * k + t) (omega arith) in
          left ∙ bare_word (64 * k + t) (omega arith)
          ∙ ap₂ (λ (v u : ℕ). cond (eqb v 1) u 0)
          (word_bit p.bits k t a ∙ ap (λ (u : ℕ). bit u t) (sym (f.bits_left k (omega arith)))) (sym left)

  -- a turn that leaves it
  pub giving_stays : {k x : ℕ} {b w : List ℕ} → Giving p (swept c p) k b w → k < 8 * c → x ≡ get_or (swept c p).bits k 0 → get_or b k 0 ≡ x
      → Giving p (swept c p) (k + 1) b w
  giving_stays {k} {x} {b} {w} f h e s =
      subst (λ (l : List ℕ). Giving p (swept c p) (k + 1) l w) (set-get_or b k 0) (giving_on f h (s ∙ e) (word_stays f h))

  pub giving_done : {k : ℕ} {b w : List ℕ} → Giving p (swept c p) k b w → 8 * c ≤ k → pool b w p.slots ≡ swept c p
  giving_done {k} {b} {w} f h =
      let s = swept_shape c p good in
      let bits : b ≡ (swept c p).bits =
      ext_get_or 0 b (swept c p).bits (f.bits_long ∙ shape.bits_long ∙ sym s.bits_long)
      (λ j a. f.bits_done j (omega (arith, f.bits_long, shape.bits_long))) in
      let words : w ≡ (swept c p).words =
      ext_get_or 0 w (swept c p).words (f.words_long ∙ shape.words_long ∙ sym s.words_long)
      (λ i a. f.words_done i (omega (arith, f.words_long, shape.words_long))) in
      same_pool bits words (sym (sweeps c p good).slots)
    where
      same_pool : {b b' w w' s s' : List ℕ} → b ≡ b' → w ≡ w' → s ≡ s' → pool b w s ≡ pool b' w' s'
      same_pool x y z = cc

-- ---- the answer

pub gain_answer : (c : ℕ) (p : Pool) {q : Pool} {n m : ℕ} → n ≡ m → m ≡ empty_from p 0 (512 * c) → q ≡ swept c p
    → leaves (gained 0 n) q ≡ leaves (gained 0 (empty_from p 0 (512 * c))) (swept c p)
gain_answer c p e f g = cc
