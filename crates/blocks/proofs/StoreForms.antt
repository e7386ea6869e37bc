-- The stores as the code makes them: words and bits one after the other. Assumes nothing.
use Rattle.std.proofs.Common.{◌≡◌, ℕ, suc, ◌+◌, ◌-◌, ◌*◌, ◌/◌, ◌%◌, ◌^◌, ◌<◌, ◌≤◌, List, ◌∷◌, length, get_or, set, sym, refl, ap, ◌∙◌, ap₂, arith, length-set}
use lib.Bits.{bit_or}
use lib.Seq.{sets}
use Rattle.bitrow.specs.Row.{bit, bit_at, Lowest, word_put, put_bit, put_bits}
use Rattle.bitrow.proofs.Lows.{lowest_filled, one_off}
use Rattle.classes.specs.Classes.{pages}
use Rattle.classes.proofs.ClassLaws.{row_facts}
use Rattle.records.specs.declared.Kind.TheVariants.{Class}
use Rattle.records.specs.Kinds.{class_word, inner_word, behind, inner_words, zeros, words_of}
use Rattle.records.specs.Pool.{Pool, pool}
use Rattle.records.proofs.KindLaws.{length_zeros, length_inner}
use Rattle.blocks.specs.Stores.{put_run, put_slot}
use Rattle.blocks.proofs.StoreLaws.{first_stored}

-- ---- the words of a class run

-- those of its pages from page 1 to page k are written
pub record Written (ws ws₀ : List ℕ) (g b n k : ℕ) : Type 0 where
  pub long : length ws ≡ length ws₀
  pub says : sets ws (g + k) (inner_words b k (n - k)) ≡ sets ws₀ (g + 1) (inner_words b 1 (n - 1))

pub written_none : (l : List ℕ) (g b n : ℕ) → Written l l g b n 1
written_none l g b n = record { long = refl; says = refl }

pub written_on : {ws ws₀ : List ℕ} {g b n k : ℕ} → Written ws ws₀ g b n k → k < n → (w : ℕ) → w ≡ inner_word b k
    → Written (set ws (g + k) w) ws₀ g b n (k + 1)
unfolding inner_words
written_on {ws} {ws₀} {g} {b} {n} {k} h l w e =
    let q : g + (k + 1) ≡ suc (g + k) = omega arith in
    let r : n - k ≡ suc (n - (k + 1)) = omega arith in
    let s : k + 1 ≡ suc k = omega arith in
    record {
      long = length-set ws (g + k) w ∙ h.long;
      says =
          ap₂ (λ (i j : ℕ). sets (set ws (g + k) w) i (inner_words b j (n - (k + 1)))) q s
          ∙ ap (λ (x : ℕ). sets (set ws (g + k) x) (suc (g + k)) (inner_words b (suc k) (n - (k + 1)))) e
          ∙ ap (λ (m : ℕ). sets ws (g + k) (inner_words b k m)) (sym r) ∙ h.says;
    }

pub written_all : (l : List ℕ) {ws ws₀ : List ℕ} {g b n k : ℕ} → Written ws ws₀ g b n k → n ≤ k → n ≡ pages b → (w : ℕ) → w ≡ class_word b → ws₀ ≡ set l g w
    → ws ≡ sets l g (words_of (Class b))
unfolding inner_words behind
written_all l {ws} {ws₀} {g} {b} {n} {k} h m e w x f =
    let r : 0 ≡ n - k = omega arith in
    let q : g + 1 ≡ suc g = omega arith in
    ap (λ (x : ℕ). sets ws (g + k) (inner_words b k x)) r ∙ h.says ∙ ap₂ (λ (i x : ℕ). sets ws₀ i (inner_words b 1 (x - 1))) q e
    ∙ ap (λ (y : List ℕ). sets y (suc g) (inner_words b 1 (pages b - 1))) (f ∙ ap (set l g) x)

pub run_pages_lem : {b n : ℕ} → b < 30 → n ≡ pages b → (1 ≤ n) × (n ≤ 7)
run_pages_lem {b} l e = let h = row_facts b l in (omega arith, omega arith)

-- ---- the pool that they leave

pub slot_stored : (v : ℕ) (p : Pool) (g s : ℕ) (ss : List ℕ) → ss ≡ put_bit v p.slots (512 * g + s)
    → pool p.bits p.words ss ≡ put_slot v p g s
unfolding put_slot
slot_stored v p g s ss e = cc

-- one word of slot bits is written
word_stored : (v : ℕ) (p : Pool) (g s i x : ℕ) → i ≡ 8 * g + s / 64 → x ≡ word_put v (get_or p.slots i 0) (s % 64)
    → pool p.bits p.words (set p.slots i x) ≡ put_slot v p g s
unfolding put_bit
word_stored v p g s i x e f =
    let q : i ≡ (512 * g + s) / 64 = omega arith in
    let r : s % 64 ≡ (512 * g + s) % 64 = omega arith in
    slot_stored v p g s (set p.slots i x)
    (ap (set p.slots i) f ∙ ap₂ (λ (j o : ℕ). set p.slots j (word_put v (get_or p.slots j 0) o)) q r)

module _ (p : Pool) (i : ℕ) (fits : get_or p.slots i 0 < 2 ^ 64) where
  abbrev word : ℕ
  word = get_or p.slots i 0

  pub word_filled : (n g k t : ℕ) → n ≡ (word + 1) % 2 ^ 64 → i ≡ 8 * g + k → t < 64 → Lowest 64 word 0 t
      → (bit_or word n ≡ word_put 1 word t) × (pool p.bits p.words (set p.slots i (bit_or word n)) ≡ put_slot 1 p g (64 * k + t))
  word_filled n g k t d e l f =
      let h = ap (bit_or word) d ∙ lowest_filled word t fits l f in
      let r : t ≡ (64 * k + t) % 64 = omega arith in
      (h, word_stored 1 p g (64 * k + t) i (bit_or word n) (omega arith) (h ∙ ap (word_put 1 word) r))

  pub bit_freed : (n g s : ℕ) → i ≡ 8 * g + s / 64 → n ≡ 2 ^ (s % 64) → bit_at p.slots (512 * g + s) ≡ 1
      → pool p.bits p.words (set p.slots i (word - n)) ≡ put_slot 0 p g s
  unfolding bit_at
  bit_freed n g s e f b =
      let q : (512 * g + s) / 64 ≡ i = omega arith in
      let r : (512 * g + s) % 64 ≡ s % 64 = omega arith in
      let one : bit word (s % 64) ≡ 1 = sym (ap₂ (λ (j o : ℕ). bit (get_or p.slots j 0) o) q r) ∙ b in
      word_stored 0 p g s i (word - n) e (ap (λ (x : ℕ). word - x) f ∙ one_off word (s % 64) fits (omega arith) one)

-- a class run has as many words as pages
pub class_long : (b : ℕ) → b < 30 → length (words_of (Class b)) ≡ pages b
unfolding behind
class_long b l = let h = row_facts b l in ap suc (length_inner b 1 (pages b - 1)) ∙ omega arith

pub class_stored : (p : Pool) (g b n : ℕ) → b < 30 → n ≡ pages b → (bs ws : List ℕ) → bs ≡ put_bits 1 p.bits g n
    → ws ≡ sets p.words g (words_of (Class b)) → pool bs ws p.slots ≡ put_run 1 p g (words_of (Class b))
unfolding put_run
class_stored p g b n l e bs ws x y =
    let r : bs ≡ put_bits 1 p.bits g (length (words_of (Class b))) = x ∙ ap (put_bits 1 p.bits g) (e ∙ sym (class_long b l)) in cc

-- a run whose pages behind the first have the word 0, before and after: the word w and the bit v
module _ (v w : ℕ) (p : Pool) (g k : ℕ) (zero : (i : ℕ) → g < i → i < g + suc k → get_or p.words i 0 ≡ 0) where
  pub first_put : (bs : List ℕ) (n x : ℕ) → n ≡ suc k → bs ≡ put_bits v p.bits g n → x ≡ w
      → pool bs (set p.words g x) p.slots ≡ put_run v p g (w ∷ zeros k)
  unfolding put_run
  first_put bs n x e f h =
      let a : bs ≡ put_bits v p.bits g (length (w ∷ zeros k)) = f ∙ ap (put_bits v p.bits g) (e ∙ ap suc (sym (length_zeros k))) in
      let b : set p.words g x ≡ sets p.words g (w ∷ zeros k) = ap (set p.words g) h ∙ first_stored w k p.words g zero in cc
