-- The pages one after the other: turns of the check's loops, and its answer. Assumes nothing.
use mathlib.Core.Path.{◌≡◌, refl, sym, ap, ap₂, ◌∙◌}
use mathlib.Core.Logic.{◌≢◌, by_cases}
use mathlib.Core.Bool.{Bool, true, false, cond, ◌&&◌, and-false}
use mathlib.Core.Option.{Option, none, some}
use mathlib.Core.List.{List, []}
use Prim.Native.Nat.{ℕ, zero, suc, ◌+◌, ◌*◌, ◌-◌, ◌%◌, ◌/◌, ◌^◌, ◌<◌}
use native.Mathlib.Decide.{ℕ_discrete}
use native.Mathlib.Nat.{mul-mod_right}
use native.Mathlib.Omega.{arith}
use lib.Dec.{eqb}
use lib.ListN.{get_or}
use lib.Bits.{bit_or}
use lib.Pow.{shr-shr}
use borrow.Author.Tests.{eq-eqb, ne_eqb, eqb-true}
use Rattle.bitrow.specs.Row.{bit, bit_at, is_set}
use Rattle.bitrow.proofs.Words.{bit_of_zero}
use Rattle.records.specs.declared.Kind.{Kind}
use Rattle.records.specs.declared.Kind.TheVariants.{Edge, Free, Damaged, Large}
use Rattle.records.specs.Kinds.{kind_of, slots_of}
use Rattle.records.specs.Pool.{Pool, is_edge, kind_at}
use Rattle.records.specs.Sound.{clean, step, follow, sound_from, sound}
use Rattle.records.specs.Calls.{fit, admit_of}
use Rattle.records.proofs.Flags.{cond_eq, cond_ne, eq_cases}
use Rattle.records.proofs.SlotLaws.{or_none, page_clean}
use Rattle.records.proofs.KindLaws.{kind_large}
use Rattle.records.proofs.WalkLaws.{sound_step}
use Rattle.records.proofs.AdmitLaws.{admit_fit}
use Rattle.records.specs.Slots.{slots_clear}
use Rattle.admit.specs.Pages.{coming, Ready, Stuck, Paged, Wrong, Checked}
use Rattle.admit.proofs.Steps.{ready_none}

-- ---- the answer so far: stray slot bits make it false

abbrev pub held : ℕ → Bool → Bool
held acc v = cond (eqb acc 0) v false

held_or : (acc x : ℕ) (a v : Bool) → eqb x 0 ≡ a → held (bit_or acc x) v ≡ held acc (a && v)
held_or acc x a v e = ap (λ (t : Bool). cond t v false) (or_none acc x ∙ ap (λ (t : Bool). t && eqb acc 0) e) ∙ go a (eqb acc 0)
  where
    go : (a b : Bool) → cond (a && b) v false ≡ cond b (a && v) false
    go true b = refl
    go false true = refl
    go false false = refl

held_false : (acc : ℕ) → held acc false ≡ false
held_false acc = go (eqb acc 0)
  where
    go : (b : Bool) → cond b false false ≡ false
    go true = refl
    go false = refl

-- one page, by what it leaves due
page_step : (p : Pool) (st : List ℕ) (g n : ℕ) (o : Option (List ℕ)) → step st (kind_at p g) ≡ o
    → sound_from p st g (suc n) ≡ clean p g && follow o (λ u. sound_from p u (suc g) n)
page_step p st g n o e = sound_step p st g n ∙ ap (λ (q : Option (List ℕ)). clean p g && follow q (λ u. sound_from p u (suc g) n)) e

-- ---- page 0 of a chunk goes on as a large run of one page

edge_as : (v t : Bool) (w left due : ℕ) → (v ≡ true → (left ≡ 0) × (w ≡ 0x40000001))
    → (step (coming due left) (kind_of v t w) ≡ step (coming due left) (kind_of false t w)) × (slots_of (kind_of v t w) ≡ slots_of (kind_of false t w))
unfolding coming
edge_as false t w left due h = (refl, refl)
edge_as true true w left due h =
    let (l, e) = h refl in
    let k : kind_of true true w ≡ Edge = cond_eq w 0x40000001 Edge Damaged e in
    let z : w - 0x40000001 ≡ 0 = omega arith in
    let q : kind_of false true w ≡ Large 0 = kind_large w (omega arith) (omega arith) ∙ ap Large z in
    (ap₂ (λ (n : ℕ) (x : Kind). step (coming due n) x) l k ∙ sym (ap₂ (λ (n : ℕ) (x : Kind). step (coming due n) x) l q), ap slots_of k ∙ sym (ap slots_of q))
edge_as true false w left due h =
    let (l, e) = h refl in
    let q : kind_of false false w ≡ Damaged = cond_ne w 0 Free Damaged (omega arith) in
    (ap (step (coming due left)) (sym q), sym (ap slots_of q))

-- page g, whose word and bit were read
module _ (p : Pool) (g left due w : ℕ) (t : Bool) (bound : (i : ℕ) → get_or p.slots i 0 < 2 ^ 64)
    (we : w ≡ get_or p.words g 0) (te : t ≡ is_set p.bits g) (first : g % 512 ≡ 0 → (left ≡ 0) × (w ≡ 0x40000001)) where
  kind : kind_at p g ≡ kind_of (is_edge g) t w
  unfolding kind_at
  kind = sym (ap₂ (kind_of (is_edge g)) te we)

  as_edge : is_edge g ≡ true → (left ≡ 0) × (w ≡ 0x40000001)
  unfolding is_edge
  as_edge e = first (eqb-true (g % 512) 0 e)

  stepped : step (coming due left) (kind_at p g) ≡ step (coming due left) (kind_of false t w)
  stepped = ap (step (coming due left)) kind ∙ (edge_as (is_edge g) t w left due as_edge).0

  pub page_off : Stuck left due w t → (acc n : ℕ) → false ≡ held acc (sound_from p (coming due left) g (suc n))
  page_off s acc n = sym (ap (held acc) (page_step p (coming due left) g n none (stepped ∙ s.stops) ∙ and-false (clean p g)) ∙ held_false acc)

  module _ {left' due' x : ℕ} (s : Paged p.slots g left due w t left' due' x) where
    strayed : eqb x 0 ≡ clean p g
    strayed =
        s.strays ∙ ap (slots_clear p.slots g) (sym (ap slots_of kind ∙ (edge_as (is_edge g) t w left due as_edge).1)) ∙ page_clean p g bound

    pub page_on : (acc n : ℕ) → held (bit_or acc x) (sound_from p (coming due' left') (suc g) n) ≡ held acc (sound_from p (coming due left) g (suc n))
    page_on acc n =
        held_or acc x (clean p g) (sound_from p (coming due' left') (suc g) n) strayed
        ∙ ap (held acc) (sym (page_step p (coming due left) g n (some (coming due' left')) (stepped ∙ s.moves)))

-- ---- the page bits, read from one word shifted once a page

bit_read : (bs : List ℕ) (i q bw : ℕ) → q < 64 → bw ≡ get_or bs i 0 / 2 ^ q → eqb (bw % 2) 1 ≡ is_set bs (64 * i + q)
unfolding is_set bit_at bit
bit_read bs i q bw h e =
    let a : (64 * i + q) / 64 ≡ i = omega arith in
    let b : (64 * i + q) % 64 ≡ q = omega arith in
    rw (a, b) (ap (λ (y : ℕ). eqb (y % 2) 1) e)

bits_next : (x q bw : ℕ) → bw ≡ x / 2 ^ q → bw / 2 ≡ x / 2 ^ (q + 1)
bits_next x q bw e = ap (λ (y : ℕ). y / 2) e ∙ shr-shr x q 1

-- a page 0 stands only at the start of every eighth word
edge_word_lem : (i q : ℕ) → (64 * i + q) % 512 ≡ 0 → q < 64 → i % 8 ≡ 0
edge_word_lem i q z h = let k : i ≡ 8 * ((64 * i + q) / 512) = omega arith in ap (λ (x : ℕ). x % 8) k ∙ mul-mod_right 8 ((64 * i + q) / 512)

-- ---- a block of 64 pages

-- q pages of block i are behind
pub record Walked (p : Pool) (i left due q l d acc bw : ℕ) : Type 0 where
  pub ready : Ready l d
  pub bits : bw ≡ get_or p.bits i 0 / 2 ^ q
  pub first : (64 * i + q) % 512 ≡ 0 → q < 64 → (l ≡ 0) × (get_or p.words (64 * i + q) 0 ≡ 0x40000001)
  pub says : (m : ℕ) → held acc (sound_from p (coming d l) (64 * i + q) (64 - q + m)) ≡ sound_from p (coming due left) (64 * i) (64 + m)

-- all 64 are
block_done : (p : Pool) (i q acc : ℕ) (st : List ℕ) (m : ℕ) → q ≡ 64 → held acc (sound_from p st (64 * i + 64) m) ≡ held acc (sound_from p st (64 * i + q) (64 - q + m))
block_done p i q acc st m e =
    let a : 64 * i + 64 ≡ 64 * i + q = omega arith in let b : m ≡ 64 - q + m = omega arith in
    ap₂ (λ (g n : ℕ). held acc (sound_from p st g n)) a b

module _ {p : Pool} {i left due q l d acc bw : ℕ} (h : Walked p i left due q l d acc bw) (lt : q < 64) (bound : (j : ℕ) → get_or p.slots j 0 < 2 ^ 64) where
  bit_was : eqb (bw % 2) 1 ≡ is_set p.bits (64 * i + q)
  bit_was = bit_read p.bits i q bw lt h.bits

  -- the same number of pages, one of them named
  one_more : (m : ℕ) → held acc (sound_from p (coming d l) (64 * i + q) (suc (64 - (q + 1) + m))) ≡ sound_from p (coming due left) (64 * i) (64 + m)
  one_more m = let r : suc (64 - (q + 1) + m) ≡ 64 - q + m = omega arith in ap (λ (n : ℕ). held acc (sound_from p (coming d l) (64 * i + q) n)) r ∙ h.says m

  pub walked_off : Stuck l d (get_or p.words (64 * i + q) 0) (eqb (bw % 2) 1) → Wrong p i left due
  walked_off s =
      record {
        says =
            λ m.
            page_off p (64 * i + q) l d (get_or p.words (64 * i + q) 0) (eqb (bw % 2) 1) bound refl bit_was (λ z. h.first z lt) s acc (64 - (q + 1) + m)
            ∙ one_more m;
      }

  pub walked_on : {l' d' x : ℕ} → Paged p.slots (64 * i + q) l d (get_or p.words (64 * i + q) 0) (eqb (bw % 2) 1) l' d' x
      → Walked p i left due (q + 1) l' d' (bit_or acc x) (bw / 2)
  walked_on {l'} {d'} {x} s =
      record {
        ready = s.ready;
        bits = bits_next (get_or p.bits i 0) q bw h.bits;
        first = λ z k. absurd (omega arith);
        says =
            λ m.
            let a : 64 * i + (q + 1) ≡ suc (64 * i + q) = omega arith in
            ap (λ (g : ℕ). held (bit_or acc x) (sound_from p (coming d' l') g (64 - (q + 1) + m))) a
            ∙ page_on p (64 * i + q) l d (get_or p.words (64 * i + q) 0) (eqb (bw % 2) 1) bound refl bit_was (λ z. h.first z lt) s acc (64 - (q + 1) + m)
            ∙ one_more m;
      }

-- a chunk's page 0 is wrong
no_edge : (due n : ℕ) (t : Bool) (w : ℕ) → (n ≡ 0 → w ≡ 0x40000001 → ⊥) → step (coming due n) (kind_of true t w) ≡ none
unfolding coming
no_edge due zero true w f = ap (step []) (cond_ne w 0x40000001 Edge Damaged (f refl))
no_edge due zero false w f = refl
no_edge due (suc n) true w f = eq_cases (λ (k : Kind). step (coming due (suc n)) k ≡ none) w 0x40000001 (λ a. refl) (λ a. refl)
no_edge due (suc n) false w f = refl

pub edge_off : (p : Pool) (i left due : ℕ) → i % 8 ≡ 0 → (left ≡ 0 → get_or p.words (64 * i) 0 ≡ 0x40000001 → ⊥) → Wrong p i left due
unfolding kind_at is_edge
edge_off p i left due z f =
    let e : 64 * i % 512 ≡ 0 = omega arith in
    let k : step (coming due left) (kind_at p (64 * i)) ≡ none =
    ap (λ (v : Bool). step (coming due left) (kind_of v (is_set p.bits (64 * i)) (get_or p.words (64 * i) 0))) (eq-eqb (64 * i % 512) 0 e)
    ∙ no_edge due left (is_set p.bits (64 * i)) (get_or p.words (64 * i) 0) f in
    record {
      says =
          λ m. let r : 64 + m ≡ suc (63 + m) = omega arith in
          sym (ap (sound_from p (coming due left) (64 * i)) r ∙ page_step p (coming due left) (64 * i) (63 + m) none k ∙ and-false (clean p (64 * i)));
    }

-- ---- a block of free pages

-- q pages of block i are behind
pub record Freed (p : Pool) (i q acc : ℕ) : Type 0 where
  pub says : (m : ℕ) → held acc (sound_from p [] (64 * i + q) (64 - q + m)) ≡ sound_from p [] (64 * i) (64 + m)

-- what a free page leaves due, by whether its word is 0
abbrev idle_or : Bool → Option (List ℕ)
idle_or true = some []
idle_or false = none

-- a free page's word decides whether it goes on, and it has no slots
free_word : (w : ℕ) → (step [] (kind_of false false w) ≡ idle_or (eqb w 0)) × (slots_of (kind_of false false w) ≡ 0)
free_word w =
    by_cases (ℕ_discrete w 0)
    (λ e. let k : kind_of false false w ≡ Free = cond_eq w 0 Free Damaged e in
    (ap (step []) k ∙ ap (λ (v : Bool). idle_or v) (sym (eq-eqb w 0 e)), ap slots_of k))
    (λ e. let k : kind_of false false w ≡ Damaged = cond_ne w 0 Free Damaged e in
    (ap (step []) k ∙ ap (λ (v : Bool). idle_or v) (sym (ne_eqb w 0 e)), ap slots_of k))

-- a page with the bit 0, not page 0 of its chunk
module _ (p : Pool) (i q : ℕ) (lt : q < 64) (ne : i % 8 ≢ 0) (zero_bits : get_or p.bits i 0 ≡ 0) (bound : (j : ℕ) → get_or p.slots j 0 < 2 ^ 64) where
  no_bit : is_set p.bits (64 * i + q) ≡ false
  unfolding is_set bit_at
  no_bit =
      let a : (64 * i + q) / 64 ≡ i = omega arith in
      ap (λ (j : ℕ). eqb (bit (get_or p.bits j 0) ((64 * i + q) % 64)) 1) a ∙ ap (λ (w : ℕ). eqb (bit w ((64 * i + q) % 64)) 1) zero_bits
      ∙ ap (λ (y : ℕ). eqb y 1) (bit_of_zero ((64 * i + q) % 64)) ∙ ne_eqb 0 1 (omega arith)

  free_kind : kind_at p (64 * i + q) ≡ kind_of false false (get_or p.words (64 * i + q) 0)
  unfolding kind_at is_edge
  free_kind =
      ap₂ (λ (a b : Bool). kind_of a b (get_or p.words (64 * i + q) 0)) (ne_eqb ((64 * i + q) % 512) 0 (λ z. ne (edge_word_lem i q z lt))) no_bit

  pub freed_on : (acc x w : ℕ) → Freed p i q acc → eqb x 0 ≡ slots_clear p.slots (64 * i + q) 0 → w ≡ get_or p.words (64 * i + q) 0
      → Freed p i (q + 1) (bit_or acc (bit_or x w))
  freed_on acc x w h c e =
      let (s, k) = free_word (get_or p.words (64 * i + q) 0) in
      let d : eqb x 0 ≡ clean p (64 * i + q) =
      c ∙ ap (slots_clear p.slots (64 * i + q)) (sym (ap slots_of free_kind ∙ k)) ∙ page_clean p (64 * i + q) bound in
      let t : step [] (kind_at p (64 * i + q)) ≡ idle_or (eqb w 0) = ap (step []) free_kind ∙ s ∙ ap (λ (v : ℕ). idle_or (eqb v 0)) (sym e) in
      record {
        says =
            λ m.
            let a : 64 * i + (q + 1) ≡ suc (64 * i + q) = omega arith in
            let r : suc (64 - (q + 1) + m) ≡ 64 - q + m = omega arith in
            ap (λ (j : ℕ). held (bit_or acc (bit_or x w)) (sound_from p [] j (64 - (q + 1) + m))) a
            ∙ held_or acc (bit_or x w) (eqb w 0 && eqb x 0) (sound_from p [] (suc (64 * i + q)) (64 - (q + 1) + m)) (or_none x w)
            ∙ ap (held acc)
            (go (eqb w 0) (eqb x 0) (λ u. sound_from p u (suc (64 * i + q)) (64 - (q + 1) + m))
            ∙ ap (λ (v : Bool). v && follow (idle_or (eqb w 0)) (λ u. sound_from p u (suc (64 * i + q)) (64 - (q + 1) + m))) d
            ∙ sym (page_step p [] (64 * i + q) (64 - (q + 1) + m) (idle_or (eqb w 0)) t))
            ∙ ap (λ (j : ℕ). held acc (sound_from p [] (64 * i + q) j)) r ∙ h.says m;
      }
    where
      go : (a b : Bool) (f : List ℕ → Bool) → (a && b) && f [] ≡ b && follow (idle_or a) f
      go true true f = refl
      go true false f = refl
      go false true f = refl
      go false false f = refl

pub freed_done : {p : Pool} {i q acc : ℕ} → Freed p i q acc → q ≡ 64 → acc ≡ 0 → Checked p i 0 0 0 0
unfolding coming
freed_done {p} {i} {q} {acc} h e z = record { says = λ m. sym (cond_eq acc 0 _ false z) ∙ block_done p i q acc [] m e ∙ h.says m; ready = ready_none }

pub freed_wrong : {p : Pool} {i q acc : ℕ} → Freed p i q acc → q ≡ 64 → acc ≢ 0 → Wrong p i 0 0
unfolding coming
freed_wrong {p} {i} {q} {acc} h e z =
    record { says = λ m. sym (cond_ne acc 0 (sound_from p [] (64 * i + 64) m) false z) ∙ block_done p i q acc [] m e ∙ h.says m }

-- between runs the next word is no matter
module _ (p : Pool) (i left due : ℕ) (e : left ≡ 0) where
  idle_as : (m : ℕ) → sound_from p (coming 0 0) (64 * i) (64 + m) ≡ sound_from p (coming due left) (64 * i) (64 + m)
  unfolding coming
  idle_as m = ap (λ (n : ℕ). sound_from p (coming due n) (64 * i) (64 + m)) (sym e)

  pub checked_as : {l d : ℕ} → Checked p i 0 0 l d → Checked p i left due l d
  checked_as s = record { says = λ m. s.says m ∙ idle_as m; ready = s.ready }

  pub wrong_as : Wrong p i 0 0 → Wrong p i left due
  wrong_as s = record { says = λ m. s.says m ∙ idle_as m }

-- ---- all blocks

-- i of n blocks are behind
pub record Blocks (p : Pool) (n i left due : ℕ) : Type 0 where
  pub ready : Ready left due
  pub says : sound_from p (coming due left) (64 * i) (64 * (n - i)) ≡ sound_from p [] 0 (64 * n)

pub blocks_start : (p : Pool) (n : ℕ) → Blocks p n 0 0 0
unfolding coming
blocks_start p n = record { ready = ready_none; says = ap (λ (m : ℕ). sound_from p [] 0 m) (omega arith) }

module _ {p : Pool} {n i left due : ℕ} (h : Blocks p n i left due) (lt : i < n) where
  block_more : sound_from p (coming due left) (64 * i) (64 + 64 * (n - (i + 1))) ≡ sound_from p [] 0 (64 * n)
  block_more = let b : 64 + 64 * (n - (i + 1)) ≡ 64 * (n - i) = omega arith in ap (sound_from p (coming due left) (64 * i)) b ∙ h.says

  pub blocks_off : Wrong p i left due → false ≡ sound_from p [] 0 (64 * n)
  blocks_off s = s.says (64 * (n - (i + 1))) ∙ block_more

sound_end : (p : Pool) (left due g : ℕ) → sound_from p (coming due left) g 0 ≡ eqb left 0
unfolding sound_from coming
sound_end p zero due g = sym (eq-eqb 0 0 refl)
sound_end p (suc left) due g = sym (ne_eqb (suc left) 0 (omega arith))

pub blocks_done : {p : Pool} {n i left due : ℕ} → Blocks p n i left due → i ≡ n → eqb left 0 ≡ sound_from p [] 0 (64 * n)
blocks_done {p} {n} {i} {left} {due} h e =
    let q : 0 ≡ 64 * (n - i) = omega arith in
    sym (sound_end p left due (64 * i)) ∙ ap (sound_from p (coming due left) (64 * i)) q ∙ h.says

-- ---- the answer

pub admit_says : (c : ℕ) (p : Pool) (s v u : Bool) → s ≡ fit c p → s ≡ true → v ≡ sound_from p [] 0 (64 * (8 * c)) → v ≡ u
    → ◌≡◌ {A = ℕ} (cond u 0 2) (admit_of c p)
unfolding sound
admit_says c p s v u f t e w =
    let q : 64 * (8 * c) ≡ 512 * c = omega arith in
    admit_fit c p (sym f ∙ t) u (sym w ∙ e ∙ ap (sound_from p [] 0) q)
