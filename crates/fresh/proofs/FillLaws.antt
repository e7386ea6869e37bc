-- A buffer that is written from its start, and the records that it makes. Assumes nothing.
use mathlib.Core.Path.{◌≡◌, refl, sym, ap, ◌∙◌}
use mathlib.Core.Bool.{Bool, true, false, cond}
use mathlib.Core.List.{List, ◌∷◌}
use Prim.Native.Nat.{ℕ, ◌+◌, ◌*◌, ◌%◌}
use native.Mathlib.Omega.{arith}
use lib.Dec.{eqb}
use lib.ListN.{length}
use Rattle.std.proofs.lemmas.List.FromFn.{fill_by_all}
use Rattle.refusals.proofs.CallLaws.{refused}
use Rattle.records.specs.Kinds.{edge_word, zeros}
use Rattle.records.specs.Pool.{Pool, pool}
use Rattle.records.specs.Calls.{fit, shape_of, leaves, repeat, fresh_pool, fresh_of}
use Rattle.records.proofs.KindLaws.{length_zeros, get_or_zeros}
use Rattle.records.proofs.FreshLaws.{length_repeat, fresh_bits, fresh_words, fresh_served}
use Rattle.records.proofs.AdmitLaws.{shaped_lengths, shape_unfit}
use Rattle.fresh.specs.Fill.{each, row}

-- ---- a row whose m-th elements are like the others

each_zero : (m i : ℕ) → each {A = ℕ} m 0 0 i ≡ 0
each_zero m i = go (eqb (i % m) 0)
  where
    go : (t : Bool) → cond {A = ℕ} t 0 0 ≡ 0
    go true = refl
    go false = refl

pub row_zero : (m n : ℕ) {l : List ℕ} → l ≡ row (each {A = ℕ} m 0 0) n → l ≡ zeros n
row_zero m n e = e ∙ sym (fill_by_all (each m 0 0) (zeros n) n 0 (length_zeros n) (λ i a. get_or_zeros n i ∙ sym (each_zero m i)))

-- ---- the records

same_pool : {n : ℕ} {b b' w w' s s' : List ℕ} → b ≡ b' → w ≡ w' → s ≡ s' → leaves n (pool b w s) ≡ leaves n (pool b' w' s')
same_pool e f g = cc

pub fresh_made : (c : ℕ) (p : Pool) (b w s : List ℕ) (t : Bool) → t ≡ fit c p → t ≡ true → b ≡ row (each 8 1 0) (length p.bits)
    → {first : ℕ} → first ≡ edge_word → w ≡ row (each 512 first 0) (length p.words) → s ≡ zeros (length p.slots)
    → leaves 0 (pool b w s) ≡ fresh_of c p
unfolding fresh_pool
fresh_made c p b w s t e v x is y z =
    let l = shaped_lengths c (length p.bits) (length p.words) (length p.slots) (sym e ∙ v) in
    let bits : b ≡ repeat c (1 ∷ zeros 7) =
    x ∙ sym (fill_by_all (each 8 1 0) (repeat c (1 ∷ zeros 7)) (length p.bits) 0 (length_repeat c 8 (1 ∷ zeros 7) refl ∙ sym l.bits_long)
    (λ i a. fresh_bits c i (omega arith))) in
    let words : w ≡ repeat c (edge_word ∷ zeros 511) =
    (rw is at y)
    ∙ sym (fill_by_all (each 512 edge_word 0) (repeat c (edge_word ∷ zeros 511)) (length p.words) 0
    (length_repeat c 512 (edge_word ∷ zeros 511) (ap (1 +◌) (length_zeros 511)) ∙ sym l.words_long) (λ i a. fresh_words c i (omega arith))) in
    let slots : s ≡ zeros (4096 * c) = z ∙ ap zeros l.slots_long in
    same_pool bits words slots ∙ sym (fresh_served c p (sym e ∙ v))

pub fresh_not : (c : ℕ) (p : Pool) (t : Bool) → t ≡ fit c p → t ≡ false → leaves 1 p ≡ fresh_of c p
unfolding fresh_of
fresh_not c p t e v = refused (shape_of c p) 1 (λ r. leaves r p) (leaves 0 (fresh_pool c)) (shape_unfit c p (sym e ∙ v)) (omega arith)
