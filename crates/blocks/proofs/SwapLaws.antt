-- A block in a list of blocks, and one live block in place of another. Assumes nothing.
use Rattle.std.proofs.Common.{ℕ, ◌+◌, ◌<◌, ◌≤◌, ◌≢◌, ◌⊎◌, List, ◌∷◌, refl, inl, inr, ⊎_elim, arith}
use mathlib.Core.List.{Memᴰ}
use Rattle.records.specs.Pool.{Pool}
use Rattle.blocks.specs.Blocks.{Block, live, Ins, here, there, Rising, next}
use Rattle.blocks.specs.Stores.{Gains, Loses, Swaps}
use Rattle.blocks.proofs.ApartLaws.{live_rising}

-- ---- a block that was put in

-- it is in the list
pub ins_in : {b : Block} {l l' : List Block} → Ins b l l' → Memᴰ b l'
ins_in here = Memᴰ.head refl
ins_in (there i) = Memᴰ.tail (ins_in i)

-- and so is what was there
pub ins_still : {a b : Block} {l l' : List Block} → Ins b l l' → Memᴰ a l → Memᴰ a l'
ins_still here m = Memᴰ.tail m
ins_still (there i) (Memᴰ.head e) = Memᴰ.head e
ins_still (there i) (Memᴰ.tail m) = Memᴰ.tail (ins_still i m)

-- it is not below the low end of a list that rises
pub ins_low : {b : Block} {l l' : List Block} {lo hi : ℕ} → Ins b l l' → Rising lo l' hi → lo ≤ b.place
ins_low here (next h z r) = h
ins_low (there i) (next h z r) = let k = ins_low i r in omega arith

-- and one of the two ends before the other, where another one was there
pub ins_apart : {a b : Block} {k l l' : List Block} {lo hi : ℕ} → Ins a k l → Ins b l l' → Rising lo l' hi
    → ((0 < a.size) × (a.place + a.size ≤ b.place)) ⊎ ((0 < b.size) × (b.place + b.size ≤ a.place))
ins_apart i here (next h z r) = inr (z, ins_low i r)
ins_apart here (there j) (next h z r) = inl (z, ins_low j r)
ins_apart (there {l = l} i) (there j) (next h z r) = ins_apart {k = l} i j r

-- ---- one in place of another

-- what is left when a goes from a list that b came to, is what was left of the list before without a, and b
ins_both : {a b : Block} {k l m : List Block} → a.place ≢ b.place → Ins b l m → Ins a k m
    → (n : List Block) × Ins a n l × Ins b n k
ins_both d here here = absurd (d refl)
ins_both d here (there i) = (_, i, here)
ins_both d (there i) here = (_, here, i)
ins_both d (there {x = x} i) (there j) = let (n, u, v) = ins_both d i j in (x ∷ n, there u, there v)

-- given back, and then taken
pub give_take : {c : ℕ} {p r q : Pool} {a b : Block} → Loses c p r a → Gains c r q b → Swaps c p q a b
give_take l g = record { good = g.good; others = _; less = l.less; more = g.more }

-- taken, and then given back a block that was there before
pub take_give : {c : ℕ} {p r q : Pool} {a b : Block} {k : List Block} → Ins a k (live c p) → Gains c p r b → Loses c r q a → Swaps c p q a b
take_give {c} {p} {r} {q} i g l =
    let apart = ins_apart i g.more (live_rising c r g.good) in
    let (n, u, v) = ins_both (λ e. ⊎_elim (λ x. omega (arith, x.0, x.1)) (λ x. omega (arith, x.0, x.1)) apart) g.more l.less in
    record { good = l.good; others = n; less = u; more = v }
