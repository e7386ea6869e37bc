-- Each store keeps a pool good, and puts one block into its live blocks or takes one out. Assumes nothing.
use Rattle.std.proofs.Common.{◌≡◌, ℕ, suc, ◌+◌, ◌-◌, ◌*◌, ◌%◌, ◌<◌, ◌≤◌, Bool, true, false, cond, ltb, List, [], ◌∷◌, length, get_or, sym, refl, ap, ◌∙◌, subst, inl, inr, ⊎_elim, arith, ltb-true}
use mathlib.Core.Logic.{by_cases}
use mathlib.Core.Option.{some, none-ne-some, some-injective}
use native.Mathlib.Decide.{ℕ_discrete, dec_lt}
use Rattle.classes.specs.Classes.{slots}
use Rattle.classes.proofs.ClassLaws.{any_row, row_facts}
use Rattle.records.specs.declared.Kind.{Kind}
use Rattle.records.specs.declared.Kind.TheVariants.{Free, Large, Class, Inner}
use Rattle.records.specs.Kinds.{large_word, class_word, kind_of, zeros, behind, inner_words, words_of, slots_of, span_of}
use Rattle.records.specs.Pool.{Pool, kind_at, slot_at}
use Rattle.records.specs.Sound.{named, clean, step}
use Rattle.records.specs.Calls.{fit, admit_of, Left, fresh_pool, fresh_of}
use Rattle.records.proofs.Flags.{all_at}
use Rattle.records.proofs.KindLaws.{length_zeros, get_or_zeros, length_inner, get_or_inner, kind_free, kind_inner, kind_zero, kind_class, kind_large}
use Rattle.records.proofs.WalkLaws.{walk, walk_next, Sound, sound_walks, walk_found, Begins, walk_at}
use Rattle.records.proofs.RunLaws.{Mid, mid_off, walk_run}
use Rattle.records.proofs.FreshLaws.{fresh_edge, fresh_free, fresh_sound, fresh_fit, fresh_served}
use Rattle.records.proofs.AdmitLaws.{Shape, shaped_lengths, lengths_shaped, admit_fit, admitted}
use Rattle.blocks.specs.Blocks.{Block, slot_block, run_block, IsSlot, IsLarge, IsEmpty, when, blocks_at, live, page_blocks, Ins, here}
use Rattle.blocks.specs.Stores.{put_run, put_slot, Good, Gains, Loses, Stays}
use Rattle.blocks.proofs.FlatLaws.{flat_nil}
use Rattle.blocks.proofs.StoreLaws.{free_off, run_fit, run_slots, run_out, run_in, slot_fit, slot_kinds, slot_same, slot_other}
use Rattle.blocks.proofs.FlipLaws.{alike_good, alike_back, gains, loses, RunFlip, run_alike, run_ins, run_same, SlotFlip, slot_alike, slot_ins}

-- a pool is good exactly where the check answers 0
pub admit_good : (c : ℕ) (p : Pool) → admit_of c p ≡ 0 → Good c p
admit_good c p ok = let a = admitted c p ok in record { shape = sym (lengths_shaped c _ _ _ a.shape); whole = a.whole }

pub good_admit : (c : ℕ) (p : Pool) → Good c p → admit_of c p ≡ 0
good_admit c p h = sym (admit_fit c p h.shape true (sym h.whole))

-- no bit is set that names no slot
pub bare : (p : Pool) (g : ℕ) → clean p g ≡ true → (s : ℕ) → slots_of (kind_at p g) ≤ s → s < 512 → slot_at p g s ≡ false
unfolding clean named
bare p g e s z l = go (slot_at p g s) (all_at 512 (named p g) e s l)
  where
    go : (t : Bool) → cond t (ltb s (slots_of (kind_at p g))) true ≡ true → t ≡ false
    go true x = absurd (omega (arith, ltb-true s (slots_of (kind_at p g)) x))
    go false x = refl

-- a class run begins no block where no slot is taken
class_none : (p : Pool) (g b : ℕ) → ((s : ℕ) → s < slots b → slot_at p g s ≡ false) → blocks_at g (Class b) (slot_at p g) ≡ []
class_none p g b none =
    flat_nil (λ s. when (slot_at p g s) (slot_block g b s)) 0 (slots b)
    (λ s x y. ap (λ (t : Bool). when t (slot_block g b s)) (none s (omega arith)))

-- a page that begins a run is none inside a run
large_begins : (k : ℕ) → Begins (Large k)
large_begins k w ws t x = none-ne-some t x

class_begins : (b : ℕ) → Begins (Class b)
class_begins b w ws t x = none-ne-some t x

module _ (c : ℕ) (p : Pool) (h : Good c p) where
  shape : Shape c p
  shape = shaped_lengths c (length p.bits) (length p.words) (length p.slots) h.shape

  records : Sound p [] 0 (512 * c)
  records = sound_walks c p h.whole

  pub idle_at : (g : ℕ) → g < 512 * c → slots_of (kind_at p g) ≡ 0 → (s : ℕ) → s < 512 → slot_at p g s ≡ false
  idle_at g l z s = bare p g (records.tidy g (omega arith) (omega arith)) s (omega arith)

  -- a run ends inside the pool
  pub run_whole : (g : ℕ) → g < 512 * c → g + span_of (kind_at p g) ≤ 512 * c
  run_whole g l =
      by_cases (dec_lt 0 (span_of (kind_at p g))) (λ s. (walk_run (kind_at p) (512 * c) g records.walks l s).ends) (λ s. omega arith)

  -- ---- runs

  -- free pages get a run
  take_run : (g n w : ℕ) (head : Kind) (ws : List ℕ) → step [] head ≡ some ws → Begins head → length ws ≡ n → kind_of false true w ≡ head
      → ((k : ℕ) → k < n → kind_of false true (get_or ws k 0) ≡ Inner (get_or ws k 0)) → g + suc n ≤ 512 * c
      → ((i : ℕ) → g ≤ i → i < g + suc n → kind_at p i ≡ Free) → RunFlip c p (put_run 1 p g (w ∷ ws)) g n head ws
  take_run g n w head ws o b len e f fits were =
      record {
        shape = run_fit c 1 p g (w ∷ ws);
        opens = o;
        begins = b;
        long = len;
        fits = fits;
        were = were;
        first = stored 0 g (omega arith) (omega arith) ∙ e;
        rest = λ k l. stored (suc k) (suc g + k) (omega arith) (omega arith) ∙ f k l;
        others = λ i x. sym (run_out c 1 p g (w ∷ ws) (omega arith) shape (omega arith) i (⊎_elim inl (λ a. inr (omega arith)) x));
        same = λ i s. sym (run_slots c 1 p g (w ∷ ws) i s);
        idle = idle_at g (omega arith) (ap slots_of (were g (omega arith) (omega arith)));
      }
    where
      stored : (k i : ℕ) → g + k ≡ i → k < suc n → kind_at (put_run 1 p g (w ∷ ws)) i ≡ kind_of false true (get_or (w ∷ ws) k 0)
      stored k i x l =
          run_in c 1 p g (w ∷ ws) (omega arith) shape (omega arith) k i x (omega arith) (free_off p i (were i (omega arith) (omega arith)))

  -- a run's pages get free
  give_run : (g n : ℕ) (head : Kind) (ws : List ℕ) → step [] head ≡ some ws → Begins head → length ws ≡ n → Mid head → g < 512 * c
      → kind_at p g ≡ head → ((s : ℕ) → s < 512 → slot_at p g s ≡ false) → RunFlip c (put_run 0 p g (zeros (suc n))) p g n head ws
  give_run g n head ws o b len mid l e idle =
      let m : ℕ = 512 * c - suc g in
      let w = walk_at (kind_at p) g [] 0 (512 * c) g m (omega arith) (omega arith) (subst Begins (sym e) b) records.walks in
      let s = walk_next (kind_at p) [] g m w in
      let z : s.due ≡ ws = some-injective s.due ws (sym s.steps ∙ ap (step []) e ∙ o) in
      let (a, f) = walk_found (kind_at p) ws (suc g) m (subst (λ (u : List ℕ). walk (kind_at p) u (suc g) m ≡ true) z s.walks) in
      made (omega arith) (λ i x. f i (omega arith))
    where
      made : g + suc n ≤ 512 * c → ((i : ℕ) → i < n → kind_at p (suc g + i) ≡ Inner (get_or ws i 0))
          → RunFlip c (put_run 0 p g (zeros (suc n))) p g n head ws
      made fits rest =
          let many = length_zeros (suc n) in
          record {
            shape = sym (run_fit c 0 p g (zeros (suc n)));
            opens = o;
            begins = b;
            long = len;
            fits = fits;
            were =
                λ i x y.
                run_in c 0 p g (zeros (suc n)) (omega arith) shape (omega arith) (i - g) i (omega arith) (omega arith) (mid_off p i (inside i x y))
                ∙ ap (kind_of false false) (get_or_zeros (suc n) (i - g)) ∙ kind_free;
            first = e;
            rest = rest;
            others = λ i x. run_out c 0 p g (zeros (suc n)) (omega arith) shape (omega arith) i (⊎_elim inl (λ a. inr (omega arith)) x);
            same = λ i s. run_slots c 0 p g (zeros (suc n)) i s;
            idle = λ s x. run_slots c 0 p g (zeros (suc n)) g s ∙ idle s x;
          }
        where
          inside : (i : ℕ) → g ≤ i → i < g + suc n → Mid (kind_at p i)
          inside i x y =
              by_cases (ℕ_discrete i g) (λ q. subst Mid (sym (ap (kind_at p) q ∙ e)) mid)
              (λ q.
              let r : i ≡ suc g + (i - suc g) = omega arith in
              subst Mid (sym (ap (kind_at p) r ∙ rest (i - suc g) (omega arith))) tt)

  pub take_large : (g k : ℕ) → k < 511 → g + suc k ≤ 512 * c → ((i : ℕ) → g ≤ i → i < g + suc k → kind_at p i ≡ Free)
      → RunFlip c p (put_run 1 p g (words_of (Large k))) g k (Large k) (zeros k)
  take_large g k l fits were =
      take_run g k (large_word (suc k)) (Large k) (zeros k) refl (large_begins k) (length_zeros k)
      (kind_large (large_word (suc k)) (omega arith) (omega arith) ∙ ap Large (omega arith))
      (λ i x. kind_zero (get_or (zeros k) i 0) (get_or_zeros k i)) fits were

  pub free_large : (g k : ℕ) → IsLarge c p g k → RunFlip c (put_run 0 p g (zeros (suc k))) p g k (Large k) (zeros k)
  free_large g k r =
      give_run g k (Large k) (zeros k) refl (large_begins k) (length_zeros k) tt r.inside r.kind (idle_at g r.inside (ap slots_of r.kind))

  pub put_large : (g k : ℕ) → k < 511 → g + suc k ≤ 512 * c → ((i : ℕ) → g ≤ i → i < g + suc k → kind_at p i ≡ Free)
      → Gains c p (put_run 1 p g (words_of (Large k))) (run_block g k)
  put_large g k l fits were = let f = take_large g k l fits were in gains (run_alike f) (run_ins f (run_block g k) here) h

  pub give_large : (g k : ℕ) → IsLarge c p g k → Loses c p (put_run 0 p g (zeros (suc k))) (run_block g k)
  give_large g k r = let f = free_large g k r in loses (run_alike f) (run_ins f (run_block g k) here) h

  -- ---- slots

  pub put_slot_lem : (g b s : ℕ) → IsSlot c p g b s false → Gains c p (put_slot 1 p g s) (slot_block g b s)
  put_slot_lem g b s x =
      let l = x.inside in let n = x.slot in
      let few = (any_row b).slots_most in
      let f : SlotFlip c p (put_slot 1 p g s) g b s =
      record {
        shape = slot_fit c 1 p g s;
        inside = l;
        run = x.kind;
        slot = n;
        kinds = λ i. sym (slot_kinds c 1 p g s i);
        was = x.bit;
        now = slot_same c 1 p g s (omega arith) shape l (omega arith);
        others = λ i j d. sym (slot_other c 1 p g s (omega arith) shape l (omega arith) i j d);
      } in
      gains (slot_alike f) (slot_ins f) h

  pub give_slot : (g b s : ℕ) → IsSlot c p g b s true → Loses c p (put_slot 0 p g s) (slot_block g b s)
  give_slot g b s x =
      let l = x.inside in let n = x.slot in
      let few = (any_row b).slots_most in
      let f : SlotFlip c (put_slot 0 p g s) p g b s =
      record {
        shape = sym (slot_fit c 0 p g s);
        inside = l;
        run = slot_kinds c 0 p g s g ∙ x.kind;
        slot = n;
        kinds = slot_kinds c 0 p g s;
        was = slot_same c 0 p g s (omega arith) shape l (omega arith);
        now = x.bit;
        others = slot_other c 0 p g s (omega arith) shape l (omega arith);
      } in
      loses (slot_alike f) (slot_ins f) h

  -- ---- a new run of a class

  pub take_class : (g b : ℕ) → b < 30 → g + suc (behind b) ≤ 512 * c → ((i : ℕ) → g ≤ i → i < g + suc (behind b) → kind_at p i ≡ Free)
      → RunFlip c p (put_run 1 p g (words_of (Class b))) g (behind b) (Class b) (inner_words b 1 (behind b))
  take_class g b l fits were =
      take_run g (behind b) (class_word b) (Class b) (inner_words b 1 (behind b)) refl (class_begins b) (length_inner b 1 (behind b))
      (kind_class (class_word b) (omega arith) (omega arith) ∙ ap Class (omega arith))
      (λ i x. kind_inner (get_or (inner_words b 1 (behind b)) i 0) (omega (arith, get_or_inner b 1 (behind b) i x))) fits were

  -- ---- an empty run

  pub empty_idle : (g b : ℕ) → IsEmpty c p g b → (s : ℕ) → s < 512 → slot_at p g s ≡ false
  empty_idle g b x s l =
      let z : slots_of (kind_at p g) ≡ slots b = ap slots_of x.kind in
      let i = x.inside in
      by_cases (dec_lt s (slots b)) (x.idle s) (λ m. bare p g (records.tidy g (omega arith) (omega arith)) s (omega arith) l)

  pub free_class : (g b : ℕ) → IsEmpty c p g b
      → RunFlip c (put_run 0 p g (zeros (suc (behind b)))) p g (behind b) (Class b) (inner_words b 1 (behind b))
  free_class g b x =
      give_run g (behind b) (Class b) (inner_words b 1 (behind b)) refl (class_begins b) (length_inner b 1 (behind b)) tt x.inside x.kind
      (empty_idle g b x)

  -- it began no block
  pub give_class : (g b : ℕ) → IsEmpty c p g b → Stays c p (put_run 0 p g (zeros (suc (behind b))))
  give_class g b x =
      let f = free_class g b x in
      record { good = alike_good (alike_back (run_alike f)) h; same = run_same f (class_none p g b x.idle) }

-- its slots are free, so it begins no block; then slot 0 is taken
pub put_class : (c : ℕ) (p : Pool) → Good c p → (g b : ℕ) → b < 30 → g + suc (behind b) ≤ 512 * c
    → ((i : ℕ) → g ≤ i → i < g + suc (behind b) → kind_at p i ≡ Free)
    → Gains c p (put_slot 1 (put_run 1 p g (words_of (Class b))) g 0) (slot_block g b 0)
put_class c p h g b l fits were =
    let q : Pool = put_run 1 p g (words_of (Class b)) in
    let f = take_class c p h g b l fits were in
    let few = (any_row b).slots_most in
    let none : (s : ℕ) → s < 512 → slot_at q g s ≡ false = λ s x. sym (f.same g s) ∙ f.idle s x in
    let same : live c p ≡ live c q =
    run_same f (class_none q g b (λ s x. none s (omega arith))) in
    let r =
    put_slot_lem c q (alike_good (run_alike f) h) g b 0
    (record { inside = omega arith; kind = f.first; slot = omega (arith, (row_facts b l).slots_least); bit = none 0 (omega arith) }) in
    record { good = r.good; more = subst (λ (x : List Block). Ins (slot_block g b 0) x (live c (put_slot 1 q g 0))) (sym same) r.more }

-- ---- fresh records

pub fresh_empty : (c : ℕ) → live c (fresh_pool c) ≡ []
unfolding live page_blocks
fresh_empty c =
    flat_nil (λ g. blocks_at g (kind_at (fresh_pool c) g) (slot_at (fresh_pool c) g)) 0 (512 * c)
    (λ g a l. by_cases (ℕ_discrete (g % 512) 0)
    (λ e. ap (λ (k : Kind). blocks_at g k (slot_at (fresh_pool c) g)) (fresh_edge c g (omega arith) e))
    (λ e. ap (λ (k : Kind). blocks_at g k (slot_at (fresh_pool c) g)) (fresh_free c g (omega arith) e)))

-- a fresh call that is served leaves them, whatever there was
pub fresh_good : (c : ℕ) (p : Pool) → fit c p ≡ true → Good c (fresh_of c p).left
fresh_good c p e =
    let s : Shape c p = shaped_lengths c _ _ _ e in
    subst (λ (x : Left ℕ Pool). Good c x.left) (sym (fresh_served c p e))
    (record { shape = fresh_fit c s.some_chunk s.few; whole = fresh_sound c })
