-- Two pools that differ by one run, or by one slot: both are good or none is, and the one has one live block more. A call that takes
-- goes from the first to the second, and one that gives back goes the other way. Assumes nothing.
use Rattle.std.proofs.Common.{◌≡◌, ℕ, zero, suc, ◌+◌, ◌-◌, ◌*◌, ◌<◌, ◌≤◌, Bool, true, false, cond, ◌&&◌, ltb, ◌≢◌, ◌⊎◌, List, [], ◌∷◌, length, get_or, sym, refl, ap, ◌∙◌, subst, ap₂, inl, inr, arith, lt-ltb}
use mathlib.Core.Logic.{by_cases}
use mathlib.Core.Option.{some, none-ne-some}
use native.Mathlib.Decide.{ℕ_discrete, dec_lt, dec_le}
use Rattle.classes.specs.Classes.{slots}
use Rattle.classes.proofs.ClassLaws.{any_row}
use Rattle.records.specs.declared.Kind.{Kind}
use Rattle.records.specs.declared.Kind.TheVariants.{Free, Class, Inner}
use Rattle.records.specs.Kinds.{slots_of}
use Rattle.records.specs.Pool.{Pool, kind_at, slot_at}
use Rattle.records.specs.Sound.{all, named, clean, step, sound}
use Rattle.records.specs.Calls.{fit}
use Rattle.records.proofs.Flags.{flag_eq}
use Rattle.records.proofs.WalkLaws.{walk, walk_step, sound_walks, walks_sound, Begins}
use Rattle.blocks.specs.Blocks.{Block, slot_block, when, blocks_at, live, page_blocks, Ins, here}
use Rattle.blocks.specs.Stores.{Good, Gains, Loses}
use Rattle.blocks.proofs.FlatLaws.{flat_same, flat_ins, blocks_same}
use Rattle.blocks.proofs.SeamLaws.{walk_agree, walk_same, walk_stuck, walk_free, walk_inner}

-- ---- what both kinds of change come to

-- p and q are as good as each other
pub record Alike (c : ℕ) (p q : Pool) : Type 0 where
  pub shape : fit c p ≡ fit c q
  pub whole : sound c p ≡ sound c q

pub alike_good : {c : ℕ} {p q : Pool} → Alike c p q → Good c p → Good c q
alike_good a h = record { shape = sym a.shape ∙ h.shape; whole = sym a.whole ∙ h.whole }

pub alike_back : {c : ℕ} {p q : Pool} → Alike c p q → Alike c q p
alike_back a = record { shape = sym a.shape; whole = sym a.whole }

pub gains : {c : ℕ} {p q : Pool} {b : Block} → Alike c p q → Ins b (live c p) (live c q) → Good c p → Gains c p q b
gains a i h = record { good = alike_good a h; more = i }

pub loses : {c : ℕ} {p q : Pool} {b : Block} → Alike c p q → Ins b (live c p) (live c q) → Good c q → Loses c q p b
loses a i h = record { good = alike_good (alike_back a) h; less = i }

all_same : (n : ℕ) (f f' : ℕ → Bool) → ((i : ℕ) → i < n → f i ≡ f' i) → all n f ≡ all n f'
unfolding all
all_same zero f f' h = refl
all_same (suc n) f f' h = ap₂ ◌&&◌ (h n (omega arith)) (all_same n f f' (λ i l. h i (omega arith)))

-- pools whose walks answer the same, and whose slot bits are as well named
module _ (c : ℕ) (p q : Pool) (w : walk (kind_at p) [] 0 (512 * c) ≡ walk (kind_at q) [] 0 (512 * c))
    (n : (i s : ℕ) → i < 512 * c → s < 512 → named p i s ≡ named q i s) where
  clean_same : (i : ℕ) → i < 512 * c → clean p i ≡ clean q i
  unfolding clean
  clean_same i l = all_same 512 (named p i) (named q i) (λ s m. n i s l m)

  sound_same : sound c p ≡ sound c q
  sound_same =
      flag_eq (sound c p) (sound c q)
      (λ e. let s = sound_walks c p e in
      walks_sound c q (record { walks = sym w ∙ s.walks; tidy = λ i a b. sym (clean_same i (omega arith)) ∙ s.tidy i a b }))
      (λ e. let s = sound_walks c q e in
      walks_sound c p (record { walks = w ∙ s.walks; tidy = λ i a b. clean_same i (omega arith) ∙ s.tidy i a b }))

-- ---- one run

-- the n + 1 pages from g on are free in p; in q they are a run that starts with the page `head` and goes on with the words ws
pub record RunFlip (c : ℕ) (p q : Pool) (g n : ℕ) (head : Kind) (ws : List ℕ) : Type 0 where
  pub shape : fit c p ≡ fit c q
  pub opens : step [] head ≡ some ws
  pub begins : Begins head
  pub long : length ws ≡ n
  pub fits : g + suc n ≤ 512 * c
  pub were : (i : ℕ) → g ≤ i → i < g + suc n → kind_at p i ≡ Free
  pub first : kind_at q g ≡ head
  pub rest : (i : ℕ) → i < n → kind_at q (suc g + i) ≡ Inner (get_or ws i 0)
  pub others : (i : ℕ) → (i < g) ⊎ (g + suc n ≤ i) → kind_at p i ≡ kind_at q i
  pub same : (i s : ℕ) → slot_at p i s ≡ slot_at q i s
  -- no slot is taken at the run's first page
  pub idle : (s : ℕ) → s < 512 → slot_at p g s ≡ false

module _ {c : ℕ} {p q : Pool} {g n : ℕ} {head : Kind} {ws : List ℕ} (f : RunFlip c p q g n head ws) where
  were_free : kind_at p g ≡ Free
  were_free = f.were g (omega arith) (omega arith)

  -- the walks from page g on
  seam : (m : ℕ) → g + suc m ≡ 512 * c → (t : List ℕ) → walk (kind_at p) t g (suc m) ≡ walk (kind_at q) t g (suc m)
  seam m e [] =
      let l = f.long in let b = f.fits in
      walk_free (kind_at p) (suc n) g (suc m) (g + suc n) (m - n) (omega arith) (omega arith) f.were
      ∙ walk_same (kind_at p) (kind_at q) [] (g + suc n) (m - n) (λ i a. f.others i (inr a))
      ∙ sym (walk_inner (kind_at q) ws (suc g) m (g + suc n) (m - n) (omega arith) (omega arith) (λ i a. f.rest i (omega arith)))
      ∙ sym (walk_step (kind_at q) [] ws g m (ap (step []) f.first ∙ f.opens))
  seam m e (w ∷ vs) =
      walk_stuck (kind_at p) w vs g m (subst Begins (sym were_free) (λ v us t x. none-ne-some t x))
      ∙ sym (walk_stuck (kind_at q) w vs g m (subst Begins (sym f.first) f.begins))

  run_walks : walk (kind_at p) [] 0 (512 * c) ≡ walk (kind_at q) [] 0 (512 * c)
  run_walks =
      let b = f.fits in let m : ℕ = 512 * c - suc g in
      walk_agree (kind_at p) (kind_at q) g (suc m) (seam m (omega arith)) g [] 0 (512 * c) (omega arith) (omega arith)
      (λ j a d. f.others j (inl d))

  -- what does not tell a free page from one inside a run does not tell the other pages of p and q apart
  pub elsewhere : {A : Type 0} (F : Kind → A) → ((w : ℕ) → F Free ≡ F (Inner w)) → (i : ℕ) → i ≢ g → F (kind_at p i) ≡ F (kind_at q i)
  elsewhere F h i d =
      by_cases (dec_lt i g) (λ a. ap F (f.others i (inl a)))
      (λ a. by_cases (dec_le (g + suc n) i) (λ b. ap F (f.others i (inr b)))
      (λ b.
      let r : i ≡ suc g + (i - suc g) = omega arith in
      ap F (f.were i (omega arith) (omega arith)) ∙ h (get_or ws (i - suc g) 0)
      ∙ sym (ap F (ap (kind_at q) r ∙ f.rest (i - suc g) (omega arith)))))

  run_named : (i s : ℕ) → i < 512 * c → s < 512 → named p i s ≡ named q i s
  unfolding named
  run_named i s l m =
      by_cases (ℕ_discrete i g)
      (λ e. rw (e, ← f.same g s, f.idle s m))
      (λ e. ap₂ (λ (t : Bool) (k : ℕ). cond t (ltb s k) true) (f.same i s) (elsewhere slots_of (λ w. refl) i e))

  pub run_alike : Alike c p q
  run_alike = record { shape = f.shape; whole = sound_same c p q run_walks run_named }

  run_others : (i : ℕ) → i ≢ g → blocks_at i (kind_at p i) (slot_at p i) ≡ blocks_at i (kind_at q i) (slot_at q i)
  run_others i d =
      blocks_same i (kind_at p i) (slot_at p i) (slot_at q i) (λ s l. f.same i s)
      ∙ elsewhere (λ (k : Kind). blocks_at i k (slot_at q i)) (λ w. refl) i d

  -- the run begins a block, or none
  pub run_ins : (b : Block) → Ins b [] (blocks_at g head (slot_at q g)) → Ins b (live c p) (live c q)
  unfolding live page_blocks
  run_ins b h =
      let z = f.fits in
      flat_ins (λ i. blocks_at i (kind_at p i) (slot_at p i)) (λ i. blocks_at i (kind_at q i) (slot_at q i)) b g 0 (512 * c)
      (omega arith) (omega arith) (rw (were_free, f.first) h) (λ i d a l. run_others i d)

  pub run_same : blocks_at g head (slot_at q g) ≡ [] → live c p ≡ live c q
  unfolding live page_blocks
  run_same h =
      flat_same (λ i. blocks_at i (kind_at p i) (slot_at p i)) (λ i. blocks_at i (kind_at q i) (slot_at q i)) 0 (512 * c)
      (λ i a l. by_cases (ℕ_discrete i g) (λ e. rw (e, were_free, f.first, h)) (run_others i))

-- ---- one slot

-- slot s of the run of class b that starts at page g is free in p and taken in q
pub record SlotFlip (c : ℕ) (p q : Pool) (g b s : ℕ) : Type 0 where
  pub shape : fit c p ≡ fit c q
  pub inside : g < 512 * c
  pub run : kind_at p g ≡ Class b
  pub slot : s < slots b
  pub kinds : (i : ℕ) → kind_at p i ≡ kind_at q i
  pub was : slot_at p g s ≡ false
  pub now : slot_at q g s ≡ true
  pub others : (i j : ℕ) → 512 * i + j ≢ 512 * g + s → slot_at p i j ≡ slot_at q i j

module _ {c : ℕ} {p q : Pool} {g b s : ℕ} (f : SlotFlip c p q g b s) where
  near : s < 512
  near = let l = f.slot in let m = (any_row b).slots_most in omega arith

  slot_named : (i j : ℕ) → i < 512 * c → j < 512 → named p i j ≡ named q i j
  unfolding named
  slot_named i j l m =
      by_cases (ℕ_discrete (512 * i + j) (512 * g + s))
      (λ e.
      let n = near in
      let page : i ≡ g = omega arith in let place : j ≡ s = omega arith in
      rw (page, place, ← f.kinds g, f.run, f.was, f.now, lt-ltb s (slots b) f.slot))
      (λ e. ap₂ (λ (t : Bool) (k : Kind). cond t (ltb j (slots_of k)) true) (f.others i j e) (f.kinds i))

  pub slot_alike : Alike c p q
  slot_alike =
      record {
        shape = f.shape;
        whole = sound_same c p q (walk_same (kind_at p) (kind_at q) [] 0 (512 * c) (λ i a. f.kinds i)) slot_named;
      }

  when_flip : (x : Block) (t t' : Bool) → t ≡ false → t' ≡ true → Ins x (when t x) (when t' x)
  when_flip x t t' e e' = rw (e, e') here

  pub slot_ins : Ins (slot_block g b s) (live c p) (live c q)
  unfolding live page_blocks
  slot_ins =
      let z = f.inside in let l = f.slot in let few = (any_row b).slots_most in
      flat_ins (λ i. blocks_at i (kind_at p i) (slot_at p i)) (λ i. blocks_at i (kind_at q i) (slot_at q i)) (slot_block g b s) g 0 (512 * c)
      (omega arith) (omega arith)
      (rw (← f.kinds g, f.run)
      (flat_ins (λ j. when (slot_at p g j) (slot_block g b j)) (λ j. when (slot_at q g j) (slot_block g b j)) (slot_block g b s) s 0 (slots b)
      (omega arith) (omega arith) (when_flip (slot_block g b s) (slot_at p g s) (slot_at q g s) f.was f.now)
      (λ j d a m. ap (λ (t : Bool). when t (slot_block g b j)) (f.others g j (λ e. d (omega arith))))))
      (λ i d a m. ap (λ (k : Kind). blocks_at i k (slot_at p i)) (f.kinds i)
      ∙ blocks_same i (kind_at q i) (slot_at p i) (slot_at q i) (λ j n. f.others i j (λ e. d (omega arith))))
