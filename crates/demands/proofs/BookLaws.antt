-- Lists of blocks: the sorted book, one block more or less, and blocks that rise. Assumes nothing.
use mathlib.Core.Path.{◌≡◌, refl, sym, ap, ◌∙◌}
use mathlib.Core.Logic.{◌≢◌, by_cases}
use mathlib.Core.Bool.{cond}
use mathlib.Core.List.{List, [], ◌∷◌, Memᴰ}
use Prim.Native.Nat.{ℕ, zero, suc, ◌+◌, ◌≤◌, ◌<◌}
use native.Mathlib.Decide.{dec_lt}
use native.Mathlib.Nat.{le_refl, le_trans}
use native.Mathlib.Omega.{arith}
use lib.Dec.{eqb}
use lib.ListN.{length, get_or}
use Rattle.records.proofs.Flags.{cond_eq, cond_ne, cond_le, cond_nle, eq_cases, le_cases}
use Rattle.blocks.specs.Blocks.{block, Block, Ins, here, there, Rising, stop, next}
use Rattle.blocks.proofs.SwapLaws.{ins_low}
use Rattle.demands.specs.Demand3.{take_out, insert, sort, Holds}

-- ---- a block more or less, in a list that rises

-- one that was put in where it rises is put in by its place
pub ins_insert : {b : Block} {l l' : List Block} {lo hi : ℕ} → Ins b l l' → Rising lo l' hi → insert b l ≡ l'
unfolding insert
ins_insert (here {l = []}) r = refl
ins_insert {b} (here {l = x ∷ l}) (next h z (next k y r)) = cond_le b.place x.place _ _ (omega arith)
ins_insert {b} (there {x = x} i) (next h z r) =
    let k = ins_low i r in cond_nle b.place x.place _ _ (omega arith) ∙ ap (λ (t : List Block). x ∷ t) (ins_insert i r)

-- and taken out by its place
pub ins_out : {b : Block} {l l' : List Block} {lo hi : ℕ} → Ins b l l' → Rising lo l' hi → take_out b.place l' ≡ l
unfolding take_out
ins_out {b} here r = cond_eq b.place b.place _ _ refl
ins_out {b} (there {x = x} i) (next h z r) =
    let k = ins_low i r in cond_ne x.place b.place _ _ (omega arith) ∙ ap (λ (t : List Block). x ∷ t) (ins_out i r)

-- ---- the sorted book

-- by rising place, none below lo
data Sorted : ℕ → List Block → Type 0 where
  done : {lo : ℕ} → Sorted lo []
  more : {b : Block} {l : List Block} {lo : ℕ} → lo ≤ b.place → Sorted b.place l → Sorted lo (b ∷ l)

sorted_lower : {l : List Block} {lo lo' : ℕ} → lo' ≤ lo → Sorted lo l → Sorted lo' l
sorted_lower h done = done
sorted_lower h (more k s) = more (le_trans h k) s

sorted_insert : (b : Block) {l : List Block} {lo : ℕ} → lo ≤ b.place → Sorted lo l → Sorted lo (insert b l)
unfolding insert
sorted_insert b h done = more h done
sorted_insert b {lo = lo} h (more {b = x} k s) =
    le_cases (Sorted lo) b.place x.place (λ a. more h (more a s)) (λ a. more k (sorted_insert b (omega arith) s))

sorted_sort : (l : List Block) → Sorted 0 (sort l)
unfolding sort
sorted_sort [] = done
sorted_sort (b ∷ l) = sorted_insert b (omega arith) (sorted_sort l)

sorted_out : (q : ℕ) {l : List Block} {lo : ℕ} → Sorted lo l → Sorted lo (take_out q l)
unfolding take_out
sorted_out q done = done
sorted_out q {lo = lo} (more {b = x} k s) =
    eq_cases (Sorted lo) x.place q (λ a. sorted_lower k s) (λ a. more k (sorted_out q s))

-- a block that is not above the rest goes in front
insert_front : (b : Block) {l : List Block} {lo : ℕ} → b.place ≤ lo → Sorted lo l → insert b l ≡ b ∷ l
unfolding insert
insert_front b h done = refl
insert_front b h (more {b = x} k s) = cond_le b.place x.place _ _ (le_trans h k)

out_same : (b : Block) {l : List Block} {lo : ℕ} → Sorted lo l → take_out b.place (insert b l) ≡ l
unfolding insert take_out
out_same b done = cond_eq b.place b.place _ _ refl
out_same b (more {b = x} {l = l} k s) =
    le_cases (λ (m : List Block). take_out b.place m ≡ x ∷ l) b.place x.place (λ a. cond_eq b.place b.place _ _ refl)
    (λ a. cond_ne x.place b.place _ _ (omega arith) ∙ ap (λ (t : List Block). x ∷ t) (out_same b s))

out_other : (q : ℕ) (b : Block) → b.place ≢ q → {l : List Block} {lo : ℕ} → Sorted lo l → take_out q (insert b l) ≡ insert b (take_out q l)
unfolding insert take_out
out_other q b n done = cond_ne b.place q _ _ n
out_other q b n (more {b = x} {l = l} k s) =
    le_cases (λ (m : List Block). take_out q m ≡ insert b (take_out q (x ∷ l))) b.place x.place
    (λ a. cond_ne b.place q _ _ n ∙ sym (insert_front b (le_refl _) (sorted_out q (more a s))))
    (λ a. eq_cases (λ (m : List Block). cond (eqb x.place q) (insert b l) (x ∷ take_out q (insert b l)) ≡ insert b m) x.place q
    (λ e. cond_eq x.place q _ _ e)
    (λ e. cond_ne x.place q _ _ e ∙ ap (λ (t : List Block). x ∷ t) (out_other q b n s) ∙ sym (cond_nle b.place x.place _ _ a)))

-- the book without the block at a place, sorted
pub sort_out : (q : ℕ) (l : List Block) → sort (take_out q l) ≡ take_out q (sort l)
unfolding sort take_out
sort_out q [] = refl
sort_out q (b ∷ l) =
    eq_cases (λ (m : List Block). sort m ≡ take_out q (insert b (sort l))) b.place q (λ e. sym (rw (← e) (out_same b (sorted_sort l))))
    (λ e. ap (insert b) (sort_out q l) ∙ sym (out_other q b e (sorted_sort l)))

length_insert : (b : Block) (l : List Block) → length (insert b l) ≡ suc (length l)
unfolding insert
length_insert b [] = refl
length_insert b (x ∷ l) =
    le_cases (λ (m : List Block). length m ≡ suc (suc (length l))) b.place x.place (λ a. refl) (λ a. ap suc (length_insert b l))

pub length_sort : (l : List Block) → length (sort l) ≡ length l
unfolding sort
length_sort [] = refl
length_sort (b ∷ l) = length_insert b (sort l) ∙ ap suc (length_sort l)

-- a block of the book is one of the sorted book
in_first : (b : Block) (l : List Block) → Memᴰ b (insert b l)
unfolding insert
in_first b [] = Memᴰ.head refl
in_first b (x ∷ l) =
    le_cases (Memᴰ b) b.place x.place (λ a. Memᴰ.head refl) (λ a. Memᴰ.tail (in_first b l))

in_rest : {a : Block} (b : Block) {l : List Block} → Memᴰ a l → Memᴰ a (insert b l)
unfolding insert
in_rest {a} b (Memᴰ.head {x = x} e) =
    le_cases (Memᴰ a) b.place x.place (λ h. Memᴰ.tail (Memᴰ.head e)) (λ h. Memᴰ.head e)
in_rest {a} b (Memᴰ.tail {x = x} m) =
    le_cases (Memᴰ a) b.place x.place (λ h. Memᴰ.tail (Memᴰ.tail m)) (λ h. Memᴰ.tail (in_rest b m))

pub in_sort : {a : Block} {l : List Block} → Memᴰ a l → Memᴰ a (sort l)
unfolding sort
in_sort (Memᴰ.head {x = x} {xs = l} e) = rw e (in_first x (sort l))
in_sort (Memᴰ.tail {x = x} m) = in_rest x (in_sort m)

-- ---- blocks that rise share no byte

abbrev block_at : List Block → ℕ → Block
block_at l i = get_or l i (block 0 0)

rising_from : {l : List Block} {lo hi : ℕ} → Rising lo l hi → (j : ℕ) → j < length l → lo ≤ (block_at l j).place
rising_from (stop h) j a = absurd (omega arith)
rising_from (next h z r) zero a = h
rising_from (next h z r) (suc j) a = let k = rising_from r j (omega arith) in omega arith

rising_before : {l : List Block} {lo hi : ℕ} → Rising lo l hi → (i j : ℕ) → i < j → j < length l
    → (block_at l i).place + (block_at l i).size ≤ (block_at l j).place
rising_before (stop h) i j a c = absurd (omega arith)
rising_before (next h z r) i zero a c = absurd (omega arith)
rising_before (next h z r) zero (suc j) a c = rising_from r j (omega arith)
rising_before (next h z r) (suc i) (suc j) a c = rising_before r i j (omega arith) (omega arith)

pub rising_apart : {l : List Block} {lo hi : ℕ} → Rising lo l hi → (i j : ℕ) → i < length l → j < length l → (q : ℕ)
    → Holds (block_at l i) q → Holds (block_at l j) q → i ≡ j
rising_apart r i j a c q x y =
    by_cases (dec_lt i j) (λ d. let k = rising_before r i j d c in absurd (omega arith))
    (λ d. by_cases (dec_lt j i) (λ e. let k = rising_before r j i e a in absurd (omega arith)) (λ e. omega arith))
