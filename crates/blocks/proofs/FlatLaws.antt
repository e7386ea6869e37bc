-- Lists of blocks that are gathered number by number: equal ones, empty ones, and two that differ by one block. Assumes nothing.
use Rattle.std.proofs.Common.{◌≡◌, ℕ, zero, suc, ◌+◌, ◌-◌, ◌<◌, ◌≤◌, Bool, ◌≢◌, List, [], ◌∷◌, ◌++◌, sym, refl, ap, ◌∙◌, ap₂, append_assoc, arith}
use native.Mathlib.Decide.{ℕ_discrete}
use Rattle.classes.specs.Classes.{slots}
use Rattle.classes.proofs.ClassLaws.{any_row}
use Rattle.records.specs.declared.Kind.{Kind}
use Rattle.records.specs.declared.Kind.TheVariants.{Edge, Free, Damaged, Large, Class, Inner}
use Rattle.blocks.specs.Blocks.{Block, slot_block, flat, when, blocks_at, Ins, here, there}

ins_front : (b : Block) (a : List Block) {l l' : List Block} → Ins b l l' → Ins b (a ++ l) (a ++ l')
ins_front b [] h = h
ins_front b (x ∷ a) h = there (ins_front b a h)

ins_back : (b : Block) {l l' : List Block} (r : List Block) → Ins b l l' → Ins b (l ++ r) (l' ++ r)
ins_back b r here = here
ins_back b r (there h) = there (ins_back b r h)

pub flat_same : (f f' : ℕ → List Block) (g n : ℕ) → ((i : ℕ) → g ≤ i → i < g + n → f i ≡ f' i) → flat f g n ≡ flat f' g n
unfolding flat
flat_same f f' g zero h = refl
flat_same f f' g (suc n) h =
    ap₂ ◌++◌ (h g (omega arith) (omega arith)) (flat_same f f' (suc g) n (λ i a c. h i (omega arith) (omega arith)))

pub flat_nil : (f : ℕ → List Block) (g n : ℕ) → ((i : ℕ) → g ≤ i → i < g + n → f i ≡ []) → flat f g n ≡ []
unfolding flat
flat_nil f g zero h = refl
flat_nil f g (suc n) h = rw (h g (omega arith) (omega arith)) (flat_nil f (suc g) n (λ i a c. h i (omega arith) (omega arith)))

pub flat_over : (f : ℕ → List Block) (i n : ℕ) → n ≡ 0 → flat f i n ≡ []
unfolding flat
flat_over f i n e = ap (flat f i) e

pub flat_step : (f : ℕ → List Block) (i n m : ℕ) → n ≡ suc m → flat f i n ≡ f i ++ flat f (i + 1) m
unfolding flat
flat_step f i n m e =
    let q : suc i ≡ i + 1 = omega arith in
    ap (flat f i) e ∙ ap (λ (k : ℕ). f i ++ flat f k m) q

-- in two parts
pub flat_split : (f : ℕ → List Block) (m n k i j : ℕ) → m + n ≡ k → i + m ≡ j → flat f i k ≡ flat f i m ++ flat f j n
unfolding flat
flat_split f zero n k i j e h =
    let a : i ≡ j = omega arith in let b : k ≡ n = omega arith in ap₂ (λ (x y : ℕ). flat f x y) a b
flat_split f (suc m) n zero i j e h = absurd (omega arith)
flat_split f (suc m) n (suc k) i j e h =
    ap (λ (l : List Block). f i ++ l) (flat_split f m n k (suc i) j (omega arith) (omega arith))
    ∙ sym (append_assoc (f i) (flat f (suc i) m) (flat f j n))

-- numbers that give no block are passed
pub flat_drop : (f : ℕ → List Block) (i j k n : ℕ) → i ≤ j → j + n ≡ i + k → ((m : ℕ) → i ≤ m → m < j → f m ≡ []) → flat f i k ≡ flat f j n
flat_drop f i j k n a e h =
    flat_split f (j - i) n k i j (omega arith) (omega arith)
    ∙ ap (λ (l : List Block). l ++ flat f j n) (flat_nil f i (j - i) (λ m x y. h m x (omega arith)))

-- one block more at one number is one block more in all
pub flat_ins : (f f' : ℕ → List Block) (b : Block) (k g n : ℕ) → g ≤ k → k < g + n → Ins b (f k) (f' k)
    → ((i : ℕ) → i ≢ k → g ≤ i → i < g + n → f i ≡ f' i) → Ins b (flat f g n) (flat f' g n)
unfolding flat
flat_ins f f' b k g zero h l i e = absurd (omega arith)
flat_ins f f' b k g (suc n) h l i e = go (ℕ_discrete g k) (flat_ins f f' b k (suc g) n)
  where
    go : Dec (g ≡ k) → (suc g ≤ k → k < suc g + n → Ins b (f k) (f' k) → ((j : ℕ) → j ≢ k → suc g ≤ j → j < suc g + n → f j ≡ f' j)
        → Ins b (flat f (suc g) n) (flat f' (suc g) n)) → Ins b (f g ++ flat f (suc g) n) (f' g ++ flat f' (suc g) n)
    go (yes p) ih =
        rw (flat_same f f' (suc g) n (λ j a c. e j (omega arith) (omega arith) (omega arith)), p) (ins_back b (flat f' (suc k) n) i)
    go (no p) ih =
        rw (e g p (omega arith) (omega arith))
        (ins_front b (f' g) (ih (omega arith) (omega arith) i (λ j a c d. e j a (omega arith) (omega arith))))

-- a page's blocks are read from its 512 slot bits alone
pub blocks_same : (g : ℕ) (k : Kind) (t t' : ℕ → Bool) → ((s : ℕ) → s < 512 → t s ≡ t' s) → blocks_at g k t ≡ blocks_at g k t'
blocks_same g Edge t t' h = refl
blocks_same g Free t t' h = refl
blocks_same g Damaged t t' h = refl
blocks_same g (Large k) t t' h = refl
blocks_same g (Class b) t t' h =
    let few = (any_row b).slots_most in
    flat_same (λ s. when (t s) (slot_block g b s)) (λ s. when (t' s) (slot_block g b s)) 0 (slots b)
    (λ s a l. ap (λ (v : Bool). when v (slot_block g b s)) (h s (omega arith)))
blocks_same g (Inner w) t t' h = refl
