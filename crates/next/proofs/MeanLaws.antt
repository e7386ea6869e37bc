-- What next finds among the live blocks of sound records. Assumes nothing.
use mathlib.Core.Path.{◌≡◌, refl, sym, ap, ap₂, ◌∙◌}
use mathlib.Core.Logic.{⊎_elim, by_cases}
use mathlib.Core.List.Memᴰ
use mathlib.Core.List.{List, [], ◌∷◌, Memᴰ}
use Rattle.std.specs.Prelude.{Option, Some, None}
use Rattle.std.proofs.lemmas.Option.{none-some, same_Some}
use Prim.Native.Nat.{ℕ, ◌+◌, ◌*◌, ◌≤◌, ◌<◌}
use native.Mathlib.Decide.{dec_le}
use native.Mathlib.Omega.{arith}
use Rattle.refusals.proofs.CallLaws.{served}
use Rattle.records.specs.Pool.{Pool}
use Rattle.records.specs.Calls.{admit_of}
use Rattle.records.proofs.Flags.{cond_le, cond_nle}
use Rattle.blocks.specs.Blocks.{block, Block, live, Rising, stop, next}
use Rattle.blocks.specs.Stores.{Good}
use Rattle.blocks.proofs.ApartLaws.{live_rising}
use Rattle.blocks.proofs.KeepLaws.{good_admit}
use Rattle.next.specs.declared.Found.{Found}
use Rattle.next.specs.Next.{found, first_from, answered, answer_of, next_of}

-- ---- one block of the list

first_here : (q : ℕ) (b : Block) (l : List Block) → q ≤ b.place → first_from q (b ∷ l) ≡ Some (found b.place b.size)
unfolding first_from
first_here q b l h = cond_le q b.place _ _ h

first_later : (q : ℕ) (b : Block) (l : List Block) → b.place < q → first_from q (b ∷ l) ≡ first_from q l
unfolding first_from
first_later q b l h = cond_nle q b.place _ _ h

first_empty : (q : ℕ) → first_from q [] ≡ None
unfolding first_from
first_empty q = refl

rising_on : {b : Block} {l : List Block} {lo hi : ℕ} → Rising lo (b ∷ l) hi → Rising (b.place + b.size) l hi
rising_on (next h z r) = r

-- the blocks of a rising list lie at or above its low end
rising_low : {l : List Block} {lo hi : ℕ} → Rising lo l hi → (x : Block) → Memᴰ x l → lo ≤ x.place
rising_low (stop h) x m = absurd (Memᴰ.not-nil m)
rising_low (next h z r) x m =
    ⊎_elim (λ e. let u = ap (λ (y : Block). y.place) e in omega arith) (λ n. let u = rising_low r x n in omega arith) (Memᴰ.cases_cons m)

-- ---- the claims, over a rising list

-- the block is one of the list, lies at or above the place, and no block that does so has a lower place
abbrev pub Lowest : ℕ → List Block → ℕ → ℕ → Type 0
Lowest q l y z = Memᴰ (block y z) l × (q ≤ y) × ((x : Block) → Memᴰ x l → q ≤ x.place → y ≤ x.place)

first_lowest : (q hi : ℕ) (f : Found) (l : List Block) (lo : ℕ) → Rising lo l hi → first_from q l ≡ Some f → Lowest q l f.place f.size
first_lowest q hi f [] lo r e = absurd (none-some f (sym (first_empty q) ∙ e))
first_lowest q hi f (b ∷ l) lo r e =
    by_cases (dec_le q b.place) here (λ h. later (omega arith) (first_lowest q hi f l (b.place + b.size) (rising_on r)))
  where
    here : q ≤ b.place → Lowest q (b ∷ l) f.place f.size
    here h =
        let d : f ≡ found b.place b.size = same_Some _ _ (sym e ∙ first_here q b l h) in
        let u : f.place ≡ b.place = ap (λ (x : Found). x.place) d in
        let v : f.size ≡ b.size = ap (λ (x : Found). x.size) d in (
          Memᴰ.head (ap₂ block u v),
          omega arith,
          λ x m k. ⊎_elim (λ p. let w = ap (λ (i : Block). i.place) p in omega arith)
              (λ n. let w = rising_low (rising_on r) x n in omega arith) (Memᴰ.cases_cons m),
        )

    later : b.place < q → (first_from q l ≡ Some f → Lowest q l f.place f.size) → Lowest q (b ∷ l) f.place f.size
    later h i =
        let (m, k, w) = i (sym (first_later q b l h) ∙ e) in (
          Memᴰ.tail m,
          k,
          λ x n d. ⊎_elim (λ p. let u = ap (λ (i : Block). i.place) p in absurd (omega arith)) (λ o. w x o d) (Memᴰ.cases_cons n),
        )

-- none is found exactly where no block lies at or above the place
pub none_below : (q : ℕ) (l : List Block) → first_from q l ≡ None → (x : Block) → Memᴰ x l → x.place < q
none_below q [] e x m = absurd (Memᴰ.not-nil m)
none_below q (b ∷ l) e x m =
    by_cases (dec_le q b.place)
    (λ h. absurd (none-some _ (sym e ∙ first_here q b l h)))
    (λ h. let d : b.place < q = omega arith in
    ⊎_elim (λ p. let u = ap (λ (i : Block). i.place) p in omega arith)
    (λ n. none_below q l (sym (first_later q b l d) ∙ e) x n) (Memᴰ.cases_cons m))

pub below_none : (q : ℕ) (l : List Block) → ((x : Block) → Memᴰ x l → x.place < q) → first_from q l ≡ None
below_none q [] f = first_empty q
below_none q (b ∷ l) f = first_later q b l (f b (Memᴰ.head refl)) ∙ below_none q l (λ x m. f x (Memᴰ.tail m))

-- ---- the call on a good pool

pub live_lowest : (c : ℕ) (p : Pool) → Good c p → (q : ℕ) (f : Found) → first_from q (live c p) ≡ Some f → Lowest q (live c p) f.place f.size
live_lowest c p h q f e = first_lowest q (2097152 * c) f (live c p) 0 (live_rising c p h) e

pub next_by : (c : ℕ) (p : Pool) → Good c p → (q : ℕ) {x : Option Found} → first_from q (live c p) ≡ x → next_of c p q ≡ answer_of x
unfolding next_of
next_by c p h q e =
    sym (served (admit_of c p) 0 (λ r. answered r 0 0) (answer_of (first_from q (live c p))) (sym (good_admit c p h)) refl) ∙ ap answer_of e
