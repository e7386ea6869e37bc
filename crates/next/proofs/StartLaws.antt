-- Where the search for a place starts: what comes before lies below the place, what comes from there on at or above it. Assumes nothing.
use mathlib.Core.Path.{◌≡◌, refl, sym, ap, ◌∙◌, subst}
use mathlib.Core.Logic.{◌≢◌, by_cases}
use mathlib.Core.Bool.{true}
use mathlib.Core.Option.{some-injective}
use Rattle.std.specs.Prelude.{None}
use mathlib.Core.List.{List, [], ◌++◌, append-nil, append_assoc}
use Prim.Native.Nat.{ℕ, zero, suc, ◌+◌, ◌-◌, ◌*◌, ◌/◌, ◌%◌, ◌≤◌, ◌<◌}
use native.Mathlib.Decide.{dec_lt, dec_le}
use native.Mathlib.Nat.{mul-le-mul_right, div-add-mod', mod-lt}
use native.Mathlib.Omega.{arith}
use lib.ListN.{get_or}
use Rattle.classes.specs.Classes.{size, slots}
use Rattle.classes.proofs.ClassLaws.{any_row}
use Rattle.records.specs.declared.Kind.{Kind}
use Rattle.records.specs.declared.Kind.TheVariants.{Edge, Free, Damaged, Large, Class, Inner}
use Rattle.records.specs.Kinds.{behind, inner_word, inner_words, span_of}
use Rattle.records.specs.Pool.{Pool, kind_at, slot_at}
use Rattle.records.specs.Sound.{step, sound}
use Rattle.records.specs.Calls.{admit_of}
use Rattle.records.specs.Runs.{InRun, LiesBy, Lies}
use Rattle.records.proofs.KindLaws.{get_or_inner}
use Rattle.records.proofs.WalkLaws.{walk, sound_walks}
use Rattle.records.proofs.RunLaws.{walk_run, class_at_low, sound_runs}
use Rattle.records.proofs.WordLaws.{page_edge}
use Rattle.records.proofs.AdmitLaws.{admitted}
use Rattle.blocks.specs.Blocks.{Block, slot_block, flat, when, live, page_blocks}
use Rattle.blocks.proofs.FlatLaws.{flat_split}
use Rattle.blocks.proofs.PageLaws.{kind_blocks}
use Rattle.next.specs.Next.{first_from}
use Rattle.next.specs.Walk.{head, blocks_from, rest, Ahead, Least, Started}
use Rattle.next.proofs.ListLaws.{Skips, skip_nil, skip_flat, skip_all, Heads, head_nil, head_flat, head_all}
use Rattle.next.proofs.PageLaws.{slots_below, slots_above, pool_below, pool_above, blocks_from_0}

-- the blocks of page f in two parts: those below the place, and those from slot s on
record Cut (p : Pool) (q f s : ℕ) : Type 0 where
  low : List Block
  parts : page_blocks p f ≡ low ++ blocks_from f s (kind_at p f) (slot_at p f)
  skips : Skips q low
  heads : Heads q (blocks_from f s (kind_at p f) (slot_at p f))

-- nothing is cut off
uncut : (p : Pool) (q f : ℕ) → q ≤ 4096 * f → Cut p q f 0
uncut p q f h =
    let e = blocks_from_0 f (kind_at p f) (slot_at p f) ∙ kind_blocks p f (kind_at p f) refl in
    record {
      low = [];
      parts = sym e;
      skips = skip_nil q;
      heads = subst (Heads q) (sym e) (pool_above p q f h);
    }

module _ (c : ℕ) (p : Pool) (q : ℕ) where
  ahead_from : (f s : ℕ) → ((i : ℕ) → i < f → i < 512 * c → Skips q (page_blocks p i)) → (f < 512 * c → Cut p q f s)
      → ((i : ℕ) → f < i → i < 512 * c → Heads q (page_blocks p i)) → Ahead c p q f s
  unfolding live rest flat page_blocks
  ahead_from f s before at after = record { same = go (512 * c - f) refl }
    where
      go : (m : ℕ) → 512 * c - f ≡ m → first_from q (flat (page_blocks p) 0 (512 * c)) ≡ head (rest p f s m)
      go zero e = skip_all q (flat (page_blocks p) 0 (512 * c)) (skip_flat q (page_blocks p) 0 (512 * c) (λ i x y. before i (omega arith) (omega arith)))
      go (suc n) e =
          let u = at (omega arith) in
          ap (first_from q) (flat_split (page_blocks p) f (suc n) (512 * c) 0 f (omega arith) (omega arith))
          ∙ skip_flat q (page_blocks p) 0 f (λ i x y. before i (omega arith) (omega arith)) (flat (page_blocks p) f (suc n))
          ∙ ap (λ (l : List Block). first_from q (l ++ flat (page_blocks p) (suc f) n)) u.parts
          ∙ ap (first_from q) (append_assoc u.low (blocks_from f s (kind_at p f) (slot_at p f)) (flat (page_blocks p) (suc f) n))
          ∙ u.skips (blocks_from f s (kind_at p f) (slot_at p f) ++ flat (page_blocks p) (suc f) n)
          ∙ u.heads (flat (page_blocks p) (suc f) n)
          (head_all q (flat (page_blocks p) (suc f) n) (head_flat q (page_blocks p) (suc f) n (λ i x y. after i (omega arith) (omega arith))))

  -- every page lies before the place
  pub none_from : ((i : ℕ) → i < 512 * c → Skips q (page_blocks p i)) → None ≡ first_from q (live c p)
  unfolding live head page_blocks
  none_from h = sym (skip_all q (flat (page_blocks p) 0 (512 * c)) (skip_flat q (page_blocks p) 0 (512 * c) (λ i x y. h i (omega arith))))

-- ---- the slot of a place in a class run

pub least : (z off s : ℕ) → 1 ≤ z → s ≡ (off + (z - 1)) / z → Least z off s
least z off s h e =
    let a = div-add-mod' (off + (z - 1)) z in
    let b = mod-lt (off + (z - 1)) h in
    let r : s * z + (off + (z - 1)) % z ≡ off + (z - 1) = ap (λ (x : ℕ). x * z + (off + (z - 1)) % z) e ∙ a in
    record {
      below = λ j l. let m = mul-le-mul_right {m = suc j} {n = s} z l in omega arith;
      above = λ j l. let m = mul-le-mul_right {m = s} {n = j} z l in omega arith;
    }

-- the slots of a class run at page f, cut there
cut_at : (p : Pool) (q f b s : ℕ) → kind_at p f ≡ Class b → 4096 * f ≤ q → Least (size b) (q - 4096 * f) s → Cut p q f s
unfolding flat
cut_at p q f b s e h l = by_cases (dec_le s (slots b)) some none
  where
    slot : ℕ → List Block
    slot i = when (slot_at p f i) (slot_block f b i)

    made : (low : List Block) → flat slot 0 (slots b) ≡ low ++ flat slot s (slots b - s) → Skips q low → Cut p q f s
    made low x y =
        record {
          low = low;
          parts = sym (kind_blocks p f (Class b) e) ∙ x ∙ ap (λ (k : Kind). low ++ blocks_from f s k (slot_at p f)) (sym e);
          skips = y;
          heads = subst (λ (k : Kind). Heads q (blocks_from f s k (slot_at p f))) (sym e)
              (slots_above q f b (slot_at p f) s (slots b - s) (λ j u v. let w = l.above j u in omega arith));
        }

    some : s ≤ slots b → Cut p q f s
    some x =
        made (flat slot 0 s) (flat_split slot s (slots b - s) (slots b) 0 s (omega arith) (omega arith))
        (slots_below q f b (slot_at p f) 0 s (λ j u v. let w = l.below j (omega arith) in omega arith))

    none : (s ≤ slots b → ⊥) → Cut p q f s
    none x =
        let z : slots b - s ≡ 0 = omega arith in
        made (flat slot 0 (slots b)) (sym (append-nil (flat slot 0 (slots b))) ∙ ap (λ (n : ℕ). flat slot 0 (slots b) ++ flat slot s n) (sym z))
        (slots_below q f b (slot_at p f) 0 (slots b) (λ j u v. let w = l.below j (omega arith) in omega arith))

-- ---- sound records

behind_few : (b : ℕ) → behind b ≤ 7
unfolding behind
behind_few b = let h = (any_row b).pages_most in omega arith

-- a page of no class run
abbrev pub Alone : Kind → Type 0
Alone Edge = Unit {0}
Alone Free = Unit {0}
Alone Damaged = Unit {0}
Alone (Large k) = Unit {0}
Alone (Class b) = ⊥
Alone (Inner w) = w ≡ 0

-- what a match tells where it has an arm for class runs and one for page 0, and one for all other kinds
pub record Other (p : Pool) (g : ℕ) : Type 0 where
  pub alone : Alone (kind_at p g)
  pub off : kind_at p g ≢ Edge

pub others_alone : {p : Pool} {g f : ℕ} (k : Kind) → ((b : ℕ) → k ≢ Class b) → k ≢ Edge → Lies p g f k → Other p g
others_alone {p} {g} {f} k d h r = go k d h r.is r.by
  where
    made : (j : Kind) → j ≡ kind_at p f → f ≡ g → Alone j → j ≢ Edge → Other p g
    made j e s a n = let x : j ≡ kind_at p g = e ∙ ap (kind_at p) s in record { alone = subst Alone x a; off = λ y. n (x ∙ y) }

    go : (j : Kind) → ((b : ℕ) → j ≢ Class b) → j ≢ Edge → j ≡ kind_at p f → LiesBy p g f j → Other p g
    go Edge d x e s = absurd (x refl)
    go Free d x e s = made Free e s tt (λ y. let z : ◌≡◌ {A = ℕ} 0 1 = cc in omega arith)
    go Damaged d x e s = made Damaged e s tt (λ y. let z : ◌≡◌ {A = ℕ} 0 1 = cc in omega arith)
    go (Large n) d x e s = made (Large n) e s tt (λ y. let z : ◌≡◌ {A = ℕ} 0 1 = cc in omega arith)
    go (Class b) d x e s = absurd (d b refl)
    go (Inner w) d x e s = made (Inner w) e s.0 s.1 (λ y. let z : ◌≡◌ {A = ℕ} 0 1 = cc in omega arith)

module _ (c : ℕ) (p : Pool) (ok : admit_of c p ≡ 0) (q : ℕ) where
  whole : sound c p ≡ true
  whole = (admitted c p ok).whole

  steps : walk (kind_at p) [] 0 (512 * c) ≡ true
  steps = (sound_walks c p whole).walks

  -- no block lies behind the pool
  pub none_outside : 512 * c ≤ q / 4096 → None ≡ first_from q (live c p)
  none_outside h =
      none_from c p q
      (λ i l. pool_below p q i (omega arith)
      (λ b e. let s : span_of (kind_at p i) ≡ suc (behind b) = ap span_of e in
      let w = (walk_run (kind_at p) (512 * c) i steps l (omega arith)).ends in omega arith))

  module _ (l : q / 4096 < 512 * c) where
    -- the word of a page that a class run goes over is not 0
    over_inner : (i b : ℕ) → kind_at p i ≡ Class b → i < q / 4096 → q / 4096 < i + suc (behind b)
        → kind_at p (q / 4096) ≡ Inner (inner_word b (1 + (q / 4096 - suc i)))
    over_inner i b e x y =
        let s : span_of (kind_at p i) ≡ suc (behind b) = ap span_of e in
        let w = walk_run (kind_at p) (512 * c) i steps (omega arith) (omega arith) in
        let z : inner_words b 1 (behind b) ≡ w.due = some-injective _ _ (ap (step []) (sym e) ∙ w.begins) in
        w.rest (q / 4096) x (omega arith) ∙ ap (λ (l : List ℕ). Inner (get_or l (q / 4096 - suc i) 0)) (sym z)
        ∙ ap Inner (get_or_inner b 1 (behind b) (q / 4096 - suc i) (omega arith))

    -- the pages before, where the place's page is of no class run
    before : Alone (kind_at p (q / 4096)) → (i : ℕ) → i < q / 4096 → Skips q (page_blocks p i)
    before h i x =
        pool_below p q i (omega arith)
        (λ b e. by_cases (dec_lt (q / 4096) (i + suc (behind b)))
        (λ y. let z : inner_word b (1 + (q / 4096 - suc i)) ≡ 0 = subst Alone (over_inner i b e x y) h in absurd (omega arith)) (λ y. omega arith))

    behind_start : (g : ℕ) → g ≡ q / 4096 + 1 → Alone (kind_at p (q / 4096)) → Skips q (page_blocks p (q / 4096)) → Started c p q g 0
    behind_start g r h k =
        record {
          low = omega arith;
          high = omega arith;
          ahead = ahead_from c p q g 0
              (λ i x y. by_cases (dec_lt i (q / 4096)) (before h i)
              (λ z. let e : q / 4096 ≡ i = omega arith in subst (λ (j : ℕ). Skips q (page_blocks p j)) e k))
              (λ x. uncut p q g (omega arith)) (λ i x y. pool_above p q i (omega arith));
        }

    -- page 0 of a chunk
    pub start_edge : {f g : ℕ} → g ≡ q / 4096 + 1 → Lies p (q / 4096) f Edge → Started c p q g 0
    start_edge {f} {g} r e =
        let k : Edge ≡ kind_at p (q / 4096) = e.is ∙ ap (kind_at p) e.by in
        behind_start g r (subst Alone k tt) (subst (Skips q) (kind_blocks p (q / 4096) Edge (sym k)) (skip_nil q))

    -- inside a page of no class run
    pub start_behind : {g : ℕ} → g ≡ q / 4096 + 1 → Alone (kind_at p (q / 4096)) → q % 4096 ≢ 0 → Started c p q g 0
    start_behind {g} r h z = behind_start g r h (pool_below p q (q / 4096) (omega arith) (λ b e. absurd (subst Alone e h)))

    -- the first byte of such a page, which is not page 0
    pub start_here : Alone (kind_at p (q / 4096)) → kind_at p (q / 4096) ≢ Edge → q % 4096 ≡ 0 → Started c p q (q / 4096) 0
    start_here h n z =
        let o : q / 4096 % 512 ≢ 0 = λ e. n (page_edge c p whole (q / 4096) l e) in
        record {
          low = by_cases (dec_lt (512 * (q / 4096 / 512)) (q / 4096)) (λ x. x) (λ x. absurd (o (omega arith)));
          high = omega arith;
          ahead = ahead_from c p q (q / 4096) 0 (λ i x y. before h i x) (λ x. uncut p q (q / 4096) (omega arith))
              (λ i x y. pool_above p q i (omega arith));
        }

    -- a page of a class run that starts at page f
    start_class : (f b s : ℕ) → kind_at p f ≡ Class b → InRun p f (q / 4096) → Least (size b) (q - 4096 * f) s → Started c p q f s
    start_class f b s e r h =
        let x = r.low in let y = r.high in
        let runs = sound_runs c p whole in
        let m : f < 512 * c = omega arith in
        let n = runs.inside f (q / 4096) m r in
        let span : span_of (kind_at p f) ≡ suc (behind b) = ap span_of e in
        let o = runs.off f f m (record { low = omega arith; high = omega arith }) in
        let w = walk_run (kind_at p) (512 * c) f steps m (omega arith) in
        record {
          low = omega arith;
          high = omega arith;
          ahead = ahead_from c p q f s
              (λ i u v. pool_below p q i (omega arith)
              (λ a k. by_cases (dec_lt (q / 4096) (i + suc (behind a)))
              (λ t. let d : span_of (kind_at p i) ≡ suc (behind a) = ap span_of k in
              let same = runs.apart i f (q / 4096) v m (record { low = omega arith; high = omega arith }) r in absurd (omega arith))
              (λ t. omega arith)))
              (λ u. cut_at p q f b s e (omega arith) h)
              (λ i u v. by_cases (dec_le i (q / 4096))
              (λ t. subst (Heads q) (kind_blocks p i _ (w.rest i u (omega arith))) (head_nil q))
              (λ t. pool_above p q i (omega arith)));
        }

    -- a page of a class run, by what it lies in
    pub start_run : {f b : ℕ} → Lies p (q / 4096) f (Class b)
        → (b < 30) × (f ≤ q / 4096) × (q - 4096 * f < 65536) × ((s : ℕ) → Least (size b) (q - 4096 * f) s → Started c p q f s)
    start_run {f} {b} r =
        let low = r.by.low in let high = r.by.high in
        let span : suc (behind b) ≡ span_of (kind_at p f) = ap span_of r.is in
        let few = behind_few b in
        (class_at_low p f b (sym r.is), omega arith, omega arith, λ s h. start_class f b s (sym r.is) r.by h)
