-- What a sweep does to a good pool, run by run. Assumes nothing.
use mathlib.Core.Path.{◌≡◌, refl, sym, ap, ap₂, ◌∙◌, subst}
use mathlib.Core.Logic.{◌≢◌, inl, inr, by_cases}
use mathlib.Core.Bool.{Bool, true, false, cond, false≢true}
use Prim.Native.Nat.{ℕ, zero, suc, ◌+◌, ◌-◌, ◌*◌, ◌≤◌, ◌<◌}
use native.Mathlib.Decide.{ℕ_discrete, dec_lt}
use native.Mathlib.Omega.{arith}
use lib.ListN.{length, get_or}
use borrow.Author.Tests.{eqb-true}
use Rattle.refusals.proofs.CallLaws.{served}
use Rattle.bitrow.specs.Row.{bit_at, is_set, put_bits, count_bits}
use Rattle.bitrow.proofs.Ext.{Words, put_bits_words}
use Rattle.bitrow.proofs.Counts.{count_clear}
use Rattle.records.specs.declared.Kind.{Kind}
use Rattle.records.specs.declared.Kind.TheVariants.{Edge, Free, Damaged, Large, Class, Inner}
use Rattle.records.specs.Kinds.{zeros, begins, behind, inner_words, span_of}
use Rattle.records.specs.Pool.{Pool, kind_at, slot_at}
use Rattle.records.specs.Sound.{all, idle}
use Rattle.records.specs.Calls.{admit_of, leaves}
use Rattle.records.proofs.Flags.{all_at, all_of}
use Rattle.records.proofs.KindLaws.{length_zeros}
use Rattle.records.proofs.WalkLaws.{sound_walks}
use Rattle.records.proofs.RunLaws.{walk_run}
use Rattle.records.proofs.WordLaws.{page_free}
use Rattle.records.proofs.AdmitLaws.{Shape, shaped_lengths}
use Rattle.classes.proofs.ClassLaws.{any_row}
use Rattle.blocks.specs.Blocks.{IsEmpty}
use Rattle.blocks.specs.Stores.{put_run, Good}
use Rattle.blocks.proofs.FlipLaws.{RunFlip, elsewhere}
use Rattle.blocks.proofs.KeepLaws.{good_admit, empty_idle, free_class, give_class}
use Rattle.sweep.specs.Sweep.{empty_at, empty_from, swept_from, swept, gained, sweep_of, InEmpty, Sweeps}

-- ---- the empty run that starts at a page

idle_none : (p : Pool) (g : ℕ) → idle p g ≡ true → (s : ℕ) → s < 512 → slot_at p g s ≡ false
unfolding idle
idle_none p g e s l = go (slot_at p g s) (all_at 512 (λ s. cond (slot_at p g s) false true) e s l)
  where
    go : (t : Bool) → cond t false true ≡ true → t ≡ false
    go true x = absurd (false≢true x)
    go false x = refl

pub none_idle : (p : Pool) (g : ℕ) → ((s : ℕ) → s < 512 → slot_at p g s ≡ false) → idle p g ≡ true
unfolding idle
none_idle p g h = all_of 512 (λ s. cond (slot_at p g s) false true) (λ s l. ap (λ (t : Bool). cond t false true) (h s l))

page_empty : (p : Pool) (g : ℕ) {k : Kind} → kind_at p g ≡ k → empty_at p g ≡ begins k 0 (λ n. 0) (λ b. cond (idle p g) (suc (behind b)) 0)
unfolding empty_at
page_empty p g e = ap (λ (k : Kind). begins k 0 (λ n. 0) (λ b. cond (idle p g) (suc (behind b)) 0)) e

-- there is none, or one
data AtPage (c : ℕ) (p : Pool) (g : ℕ) : Type 0 where
  none : empty_at p g ≡ 0 → AtPage c p g
  some : (b : ℕ) → IsEmpty c p g b → empty_at p g ≡ suc (behind b) → AtPage c p g

pub idle_empty : (c : ℕ) (p : Pool) (g b : ℕ) → g < 512 * c → kind_at p g ≡ Class b → idle p g ≡ true → IsEmpty c p g b
idle_empty c p g b l e i = record { inside = l; kind = e; idle = λ s m. idle_none p g i s (omega (arith, (any_row b).slots_most)) }

at_page : (c : ℕ) (p : Pool) (g : ℕ) → g < 512 * c → AtPage c p g
at_page c p g l = go (kind_at p g) refl
  where
    by_slots : (b : ℕ) (v : Bool) → idle p g ≡ v → kind_at p g ≡ Class b → AtPage c p g
    by_slots b true i e =
        some b (idle_empty c p g b l e i) (page_empty p g e ∙ ap (λ (v : Bool). cond v (suc (behind b)) 0) i)
    by_slots b false i e = none (page_empty p g e ∙ ap (λ (v : Bool). cond v (suc (behind b)) 0) i)

    go : (k : Kind) → kind_at p g ≡ k → AtPage c p g
    go Edge e = none (page_empty p g e)
    go Free e = none (page_empty p g e)
    go Damaged e = none (page_empty p g e)
    go (Large k) e = none (page_empty p g e)
    go (Class b) e = by_slots b (idle p g) refl e
    go (Inner w) e = none (page_empty p g e)

empty_here : (c : ℕ) (p : Pool) → Good c p → (g b : ℕ) → IsEmpty c p g b → empty_at p g ≡ suc (behind b)
empty_here c p h g b x =
    page_empty p g x.kind ∙ ap (λ (v : Bool). cond v (suc (behind b)) 0) (none_idle p g (empty_idle c p h g b x))

-- a pool in which none starts at any page
none_left : (c : ℕ) (p : Pool) → Good c p → ((f : ℕ) → f < 512 * c → empty_at p f ≡ 0) → (g b : ℕ) → IsEmpty c p g b → ⊥
none_left c p h e g b x = let a = empty_here c p h g b x in let z = e g x.inside in omega arith

-- ---- the pages of an empty run

-- its first page begins it, and the others go on with it
pub data Part (c : ℕ) (p : Pool) (i : ℕ) : Type 0 where
  starts : (b : ℕ) → kind_at p i ≡ Class b → Part c p i
  goes_on : (w : ℕ) → kind_at p i ≡ Inner w → Part c p i

pub part : (c : ℕ) (p : Pool) → Good c p → (i : ℕ) → InEmpty c p i → Part c p i
part c p h i x =
    let l = x.low in let m = x.high in
    let span : span_of (kind_at p x.first) ≡ suc (behind x.class) = ap span_of x.is.kind in
    let w = walk_run (kind_at p) (512 * c) x.first (sound_walks c p h.whole).walks x.is.inside (omega arith) in
    by_cases (ℕ_discrete i x.first) (λ e. starts x.class (ap (kind_at p) e ∙ x.is.kind))
    (λ e. goes_on (get_or w.due (i - suc x.first) 0) (w.rest i (omega arith) (omega arith)))

pub not_free : {c : ℕ} {p : Pool} {i : ℕ} → Part c p i → kind_at p i ≢ Free
not_free (starts b e) f = let z : ◌≡◌ {A = ℕ} 0 1 = cc in omega arith
not_free (goes_on w e) f = let z : ◌≡◌ {A = ℕ} 0 1 = cc in omega arith

-- ---- one run given back

module _ (c : ℕ) (p : Pool) (h : Good c p) (g b : ℕ) (x : IsEmpty c p g b) where
  abbrev freed : Pool
  freed = put_run 0 p g (zeros (suc (behind b)))

  flip : RunFlip c freed p g (behind b) (Class b) (inner_words b 1 (behind b))
  flip = free_class c p h g b x

  idle_same : (f : ℕ) → idle freed f ≡ idle p f
  unfolding idle
  idle_same f = ap (all 512) (λ i s. cond (flip.same f s i) false true)

  -- it is the one at page g that is gone
  empty_gone : empty_at freed g ≡ 0
  empty_gone = page_empty freed g (flip.were g (omega arith) (omega arith))

  empty_other : (f : ℕ) → f ≢ g → empty_at freed f ≡ empty_at p f
  unfolding empty_at
  empty_other f n =
      elsewhere flip (λ (k : Kind). begins k 0 (λ n. 0) (λ b. cond (idle freed f) (suc (behind b)) 0)) (λ w. refl) f n
      ∙ ap (λ (v : Bool). begins (kind_at p f) 0 (λ n. 0) (λ b. cond v (suc (behind b)) 0)) (idle_same f)

  from_other : (n f : ℕ) → g < f → empty_from freed f n ≡ empty_from p f n
  unfolding empty_from
  from_other zero f l = refl
  from_other (suc n) f l = ap₂ (λ (u v : ℕ). u + v) (empty_other f (omega arith)) (from_other n (suc f) (omega arith))

  -- another empty run stands in both
  still : (f d : ℕ) → IsEmpty c p f d → f ≢ g → IsEmpty c freed f d
  still f d y n =
      record {
        inside = y.inside;
        kind = by_cases (dec_lt f g) (λ a. flip.others f (inl a) ∙ y.kind)
            (λ a. by_cases (dec_lt f (g + suc (behind b)))
            (λ m. absurd (inner_first (get_or (inner_words b 1 (behind b)) (f - suc g) 0) y.kind (ap (kind_at p) (omega arith) ∙ flip.rest (f - suc g) (omega arith))))
            (λ m. flip.others f (inr (omega arith)) ∙ y.kind));
        idle = λ s l. flip.same f s ∙ y.idle s l;
      }
    where
      inner_first : (w : ℕ) → kind_at p f ≡ Class d → kind_at p f ≡ Inner w → ⊥
      inner_first w u v = let z : ◌≡◌ {A = ℕ} 0 1 = cc in omega arith

  stood : (f d : ℕ) → IsEmpty c freed f d → IsEmpty c p f d
  stood f d y =
      record {
        inside = y.inside;
        kind = by_cases (dec_lt f g) (λ a. sym (flip.others f (inl a)) ∙ y.kind)
            (λ a. by_cases (dec_lt f (g + suc (behind b))) (λ m. absurd (free_first y.kind (flip.were f (omega arith) (omega arith))))
            (λ m. sym (flip.others f (inr (omega arith))) ∙ y.kind));
        idle = λ s l. sym (flip.same f s) ∙ y.idle s l;
      }
    where
      free_first : kind_at freed f ≡ Class d → kind_at freed f ≡ Free → ⊥
      free_first u v = let z : ◌≡◌ {A = ℕ} 0 1 = cc in omega arith

  -- what a sweep of the rest comes to
  sweeps_on : {q : Pool} → Good c freed → Sweeps c freed q → Sweeps c p q
  unfolding put_run
  sweeps_on {q} k s =
      record {
        stays = record { good = s.stays.good; same = s.stays.same ∙ (give_class c p h g b x).same };
        slots = s.slots;
        freed = λ i y. by_cases (ℕ_discrete y.first g) (own i y)
            (λ n. s.freed i (record { first = y.first; class = y.class; is = still y.first y.class y.is n; low = y.low; high = y.high }));
        kept = λ i l n. s.kept i l (λ y. n (was i y)) ∙ outside i n;
        none = s.none;
      }
    where
      was : (i : ℕ) → InEmpty c freed i → InEmpty c p i
      was i y = record { first = y.first; class = y.class; is = stood y.first y.class y.is; low = y.low; high = y.high }

      here : (i : ℕ) → g ≤ i → i < g + suc (behind b) → InEmpty c p i
      here i l m = record { first = g; class = b; is = x; low = l; high = m }

      own : (i : ℕ) (y : InEmpty c p i) → y.first ≡ g → kind_at q i ≡ Free
      own i y e =
          let l = y.low in let m = y.high in
          let span : suc (behind y.class) ≡ suc (behind b) = sym (ap span_of y.is.kind) ∙ ap (λ (f : ℕ). span_of (kind_at p f)) e ∙ ap span_of x.kind in
          let w = flip.were i (omega arith) (omega arith) in
          let z = flip.fits in
          s.kept i (omega arith) (λ v. not_free (part c freed k i v) w) ∙ w

      outside : (i : ℕ) → (InEmpty c p i → ⊥) → kind_at freed i ≡ kind_at p i
      outside i n =
          by_cases (dec_lt i g) (λ a. flip.others i (inl a))
          (λ a. by_cases (dec_lt i (g + suc (behind b))) (λ m. absurd (n (here i (omega arith) m))) (λ m. flip.others i (inr (omega arith))))

  -- its pages had the bit 1
  bit_one : (i : ℕ) → g ≤ i → i < g + suc (behind b) → bit_at p.bits i ≡ 1
  unfolding is_set
  bit_one i l m =
      let z = flip.fits in
      go (is_set p.bits i) refl (λ e. not_free (part c p h i (record { first = g; class = b; is = x; low = l; high = m }))
      (page_free c p h.whole i (omega arith) e))
    where
      go : (v : Bool) → is_set p.bits i ≡ v → (is_set p.bits i ≡ false → ⊥) → bit_at p.bits i ≡ 1
      go true e n = eqb-true (bit_at p.bits i) 1 e
      go false e n = absurd (n e)

  counted : count_bits freed.bits 0 (512 * c) + suc (behind b) ≡ count_bits p.bits 0 (512 * c)
  unfolding put_run
  counted =
      let shape : Shape c p = shaped_lengths c _ _ _ h.shape in
      let long = shape.bits_long in let z = flip.fits in
      ap (λ (n : ℕ). count_bits (put_bits 0 p.bits g n) 0 (512 * c) + suc (behind b)) (length_zeros (suc (behind b)))
      ∙ count_clear p.bits g (suc (behind b)) (512 * c) z (omega arith) bit_one

  freed_words : Words p.bits → Words freed.bits
  unfolding put_run
  freed_words w =
      let shape : Shape c p = shaped_lengths c _ _ _ h.shape in
      let long = shape.bits_long in let z = flip.fits in let m = length_zeros (suc (behind b)) in
      put_bits_words 0 (length (zeros (suc (behind b)))) p.bits g (omega arith) w

-- ---- all of them

-- with the pages that they had; page bits stay words of 64 bits
record Swept (c : ℕ) (p q : Pool) (n : ℕ) : Type 0 where
  sweeps : Sweeps c p q
  words : Words p.bits → Words q.bits
  count : count_bits q.bits 0 (512 * c) + n ≡ count_bits p.bits 0 (512 * c)

nothing_put : (p : Pool) (g n : ℕ) → n ≡ 0 → put_run 0 p g (zeros n) ≡ p
unfolding put_run put_bits
nothing_put p g n e = ap (λ (m : ℕ). put_run 0 p g (zeros m)) e

sweep_from : (c n g : ℕ) (p : Pool) → g + n ≡ 512 * c → Good c p → ((f : ℕ) → f < g → empty_at p f ≡ 0)
    → Swept c p (swept_from p g n) (empty_from p g n)
unfolding swept_from empty_from
sweep_from c zero g p e h before =
    let none = none_left c p h (λ f l. before f (omega arith)) in
    record {
      sweeps =
          record {
            stays = record { good = h; same = refl };
            slots = refl;
            freed = λ i y. absurd (none y.first y.class y.is);
            kept = λ i l y. refl;
            none = none;
          };
      words = λ w. w;
      count = omega arith;
    }
sweep_from c (suc n) g p e h before =
    go (at_page c p g (omega arith)) (λ q k b. sweep_from c n (suc g) q (omega arith) k b)
  where
    go : AtPage c p g
        → ((q : Pool) → Good c q → ((f : ℕ) → f < suc g → empty_at q f ≡ 0) → Swept c q (swept_from q (suc g) n) (empty_from q (suc g) n))
        → Swept c p (swept_from (put_run 0 p g (zeros (empty_at p g))) (suc g) n) (empty_at p g + empty_from p (suc g) n)
    go (none z) later =
        let r = later p h (λ f l. by_cases (ℕ_discrete f g) (λ d. ap (empty_at p) d ∙ z) (λ d. before f (omega arith))) in
        subst (λ (q : Pool). Swept c p (swept_from q (suc g) n) (empty_at p g + empty_from p (suc g) n)) (sym (nothing_put p g (empty_at p g) z))
        (record { sweeps = r.sweeps; words = r.words; count = omega (arith, r.count) })
    go (some b x z) later =
        let k = (give_class c p h g b x).good in
        let r =
        later (freed c p h g b x) k
        (λ f l. by_cases (ℕ_discrete f g) (λ d. ap (empty_at (freed c p h g b x)) d ∙ empty_gone c p h g b x)
        (λ d. empty_other c p h g b x f d ∙ before f (omega arith))) in
        subst (λ (m : ℕ). Swept c p (swept_from (put_run 0 p g (zeros m)) (suc g) n) (m + empty_from p (suc g) n)) (sym z)
        (record {
          sweeps = sweeps_on c p h g b x k r.sweeps;
          words = λ w. r.words (freed_words c p h g b x w);
          count = omega (arith, r.count, counted c p h g b x, from_other c p h g b x n (suc g) (omega arith));
        })

module _ (c : ℕ) (p : Pool) (h : Good c p) where
  sweep_all : Swept c p (swept c p) (empty_from p 0 (512 * c))
  unfolding swept
  sweep_all = sweep_from c (512 * c) 0 p (omega arith) h (λ f l. absurd (omega arith))

  pub sweeps : Sweeps c p (swept c p)
  sweeps = sweep_all.sweeps

  pub swept_words : Words p.bits → Words (swept c p).bits
  swept_words = sweep_all.words

  pub sweep_count : count_bits (swept c p).bits 0 (512 * c) + empty_from p 0 (512 * c) ≡ count_bits p.bits 0 (512 * c)
  sweep_count = sweep_all.count

-- ---- the call

pub sweep_by : (c : ℕ) (p : Pool) → Good c p → sweep_of c p ≡ leaves (gained 0 (empty_from p 0 (512 * c))) (swept c p)
unfolding sweep_of
sweep_by c p h = sym (served (admit_of c p) 0 (λ r. leaves (gained r 0) p) _ (sym (good_admit c p h)) refl)

-- a pool without empty runs stays as it is
idle_from : (n g : ℕ) (p : Pool) → empty_from p g n ≡ 0 → swept_from p g n ≡ p
unfolding empty_from swept_from
idle_from zero g p e = refl
idle_from (suc n) g p e =
    ap (λ (q : Pool). swept_from q (suc g) n) (nothing_put p g (empty_at p g) (omega arith)) ∙ idle_from n (suc g) p (omega arith)

pub sweep_idle : (c : ℕ) (p : Pool) → empty_from p 0 (512 * c) ≡ 0 → swept c p ≡ p
unfolding swept
sweep_idle c p e = idle_from (512 * c) 0 p e
