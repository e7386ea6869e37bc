-- The search in a list of blocks: parts that it passes, and parts at whose first block it ends. Assumes nothing.
use mathlib.Core.Path.{◌≡◌, refl, sym, ap, ◌∙◌}
use mathlib.Core.Bool.{Bool, true, false}
use mathlib.Core.List.{List, [], ◌∷◌, ◌++◌, append-nil, append_assoc}
use Prim.Native.Nat.{ℕ, zero, suc, ◌+◌, ◌≤◌, ◌<◌}
use native.Mathlib.Omega.{arith}
use Rattle.records.proofs.Flags.{cond_le, cond_nle}
use Rattle.blocks.specs.Blocks.{Block, flat, when}
use Rattle.next.specs.Next.{first_from}
use Rattle.next.specs.Walk.{head}

-- ---- a part whose blocks all lie below q

abbrev pub Skips : ℕ → List Block → Type 0
Skips q l = (r : List Block) → first_from q (l ++ r) ≡ first_from q r

pub skip_nil : (q : ℕ) → Skips q []
skip_nil q r = refl

pub skip_one : (q : ℕ) (b : Block) → b.place < q → Skips q (b ∷ [])
unfolding first_from
skip_one q b h r = cond_nle q b.place _ _ h

pub skip_when : (q : ℕ) (v : Bool) (b : Block) → b.place < q → Skips q (when v b)
skip_when q true b h = skip_one q b h
skip_when q false b h = skip_nil q

skip_both : (q : ℕ) (a b : List Block) → Skips q a → Skips q b → Skips q (a ++ b)
skip_both q a b f g r = ap (first_from q) (append_assoc a b r) ∙ f (b ++ r) ∙ g r

pub skip_flat : (q : ℕ) (f : ℕ → List Block) (i n : ℕ) → ((j : ℕ) → i ≤ j → j < i + n → Skips q (f j)) → Skips q (flat f i n)
unfolding flat
skip_flat q f i zero h = skip_nil q
skip_flat q f i (suc n) h =
    skip_both q (f i) (flat f (suc i) n) (h i (omega arith) (omega arith)) (skip_flat q f (suc i) n (λ j a b. h j (omega arith) (omega arith)))

pub skip_all : (q : ℕ) (l : List Block) → Skips q l → first_from q l ≡ head []
unfolding first_from head
skip_all q l f = ap (first_from q) (sym (append-nil l)) ∙ f []

-- ---- a part whose blocks all lie at or above q

abbrev pub Heads : ℕ → List Block → Type 0
Heads q l = (r : List Block) → first_from q r ≡ head r → first_from q (l ++ r) ≡ head (l ++ r)

pub head_nil : (q : ℕ) → Heads q []
head_nil q r e = e

pub head_one : (q : ℕ) (b : Block) → q ≤ b.place → Heads q (b ∷ [])
unfolding first_from head
head_one q b h r e = cond_le q b.place _ _ h

pub head_when : (q : ℕ) (v : Bool) (b : Block) → q ≤ b.place → Heads q (when v b)
head_when q true b h = head_one q b h
head_when q false b h = head_nil q

head_both : (q : ℕ) (a b : List Block) → Heads q a → Heads q b → Heads q (a ++ b)
head_both q a b f g r e = ap (first_from q) (append_assoc a b r) ∙ f (b ++ r) (g r e) ∙ ap head (sym (append_assoc a b r))

pub head_flat : (q : ℕ) (f : ℕ → List Block) (i n : ℕ) → ((j : ℕ) → i ≤ j → j < i + n → Heads q (f j)) → Heads q (flat f i n)
unfolding flat
head_flat q f i zero h = head_nil q
head_flat q f i (suc n) h =
    head_both q (f i) (flat f (suc i) n) (h i (omega arith) (omega arith)) (head_flat q f (suc i) n (λ j a b. h j (omega arith) (omega arith)))

none_left : (q : ℕ) → first_from q [] ≡ head []
unfolding first_from head
none_left q = refl

pub head_all : (q : ℕ) (l : List Block) → Heads q l → first_from q l ≡ head l
head_all q l f = ap (first_from q) (sym (append-nil l)) ∙ f [] (none_left q) ∙ ap head (append-nil l)
