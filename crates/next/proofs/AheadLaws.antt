-- The walk ahead: from a page and a slot on, the first block left is the one that is looked for. One law a step. Assumes nothing.
use mathlib.Core.Path.{◌≡◌, refl, sym, ap, ◌∙◌, subst}
use mathlib.Core.Logic.{by_cases}
use mathlib.Core.List.{List, [], ◌∷◌, ◌++◌}
use Rattle.std.specs.Prelude.{Some, None}
use Rattle.std.proofs.lemmas.Option.{none-some}
use Prim.Native.Nat.{ℕ, zero, suc, ◌+◌, ◌-◌, ◌*◌, ◌%◌, ◌≤◌, ◌<◌}
use native.Mathlib.Decide.{dec_lt}
use native.Mathlib.Omega.{arith}
use Rattle.bitrow.specs.Row.{next_bit}
use Rattle.bitrow.proofs.Rows.{first_at}
use Rattle.bitrow.proofs.Marks.{zero_clear}
use Rattle.records.specs.declared.Kind.{Kind}
use Rattle.records.specs.declared.Kind.TheVariants.{Free}
use Rattle.records.specs.Pool.{Pool, kind_at, slot_at}
use Rattle.records.specs.Calls.{admit_of}
use Rattle.records.proofs.WordLaws.{page_edge, page_free}
use Rattle.records.proofs.AdmitLaws.{admitted}
use Rattle.blocks.specs.Blocks.{Block, flat, live, page_blocks}
use Rattle.blocks.proofs.FlatLaws.{flat_drop}
use Rattle.blocks.proofs.PageLaws.{kind_blocks}
use Rattle.next.specs.declared.Found.{Found}
use Rattle.next.specs.Next.{first_from}
use Rattle.next.specs.Walk.{head, blocks_from, rest, Ahead}
use Rattle.next.proofs.PageLaws.{blocks_from_0}

-- ---- where the search for a bit stops

pub next_low : (ws : List ℕ) (i e x : ℕ) → i ≤ e → x ≡ next_bit 1 ws i (e - i) → (i ≤ x) × (x ≤ e)
next_low ws i e x l r = let f = first_at ws i e 1 x (omega arith) l r in (f.low, f.high)

-- ---- what is left, from a page on

-- page g first
rest_first : (c : ℕ) (p : Pool) (g s : ℕ) → g < 512 * c
    → head (rest p g s (512 * c - g)) ≡ head (blocks_from g s (kind_at p g) (slot_at p g) ++ flat (page_blocks p) (suc g) (512 * c - suc g))
unfolding rest
rest_first c p g s h =
    let z : 512 * c - g ≡ suc (512 * c - suc g) = omega arith in ap (λ (n : ℕ). head (rest p g s n)) z

from_0 : (p : Pool) (g n : ℕ) → rest p g 0 n ≡ flat (page_blocks p) g n
unfolding rest flat page_blocks
from_0 p g zero = refl
from_0 p g (suc n) = ap (λ (l : List Block). l ++ flat (page_blocks p) (suc g) n) (blocks_from_0 g (kind_at p g) (slot_at p g))

-- ---- the first block of a part is that of the whole

head_some : {x : Found} (l r : List Block) → Some x ≡ head l → Some x ≡ head (l ++ r)
unfolding head
head_some {x} [] r e = let u : None ≡ Some x = sym e in absurd (none-some x u)
head_some (b ∷ l) r e = e

head_none : (l : List Block) → None ≡ head l → l ≡ []
unfolding head
head_none [] e = refl
head_none (b ∷ l) e = absurd (none-some _ e)

-- ---- the steps of the walk

module _ {c : ℕ} {p : Pool} {q : ℕ} where
  pub moved : {g h s : ℕ} → Ahead c p q g s → g ≡ h → Ahead c p q h s
  moved {s = s} a e = subst (λ (x : ℕ). Ahead c p q x s) e a

  -- nothing is left
  pub nothing_left : {g s : ℕ} → Ahead c p q g s → 512 * c ≤ g → None ≡ first_from q (live c p)
  unfolding rest head
  nothing_left {g} {s} a h = let z : 512 * c - g ≡ 0 = omega arith in sym (a.same ∙ ap (λ (n : ℕ). head (rest p g s n)) z)

  module _ {g s : ℕ} (a : Ahead c p q g s) (h : g < 512 * c) where
    abbrev here : List Block
    here = blocks_from g s (kind_at p g) (slot_at p g)

    unroll : first_from q (live c p) ≡ head (here ++ flat (page_blocks p) (suc g) (512 * c - suc g))
    unroll = a.same ∙ rest_first c p g s h

    -- a block of page g is the one that is looked for
    pub block_found : {x : Found} → Some x ≡ head here → Some x ≡ first_from q (live c p)
    block_found e = head_some here (flat (page_blocks p) (suc g) (512 * c - suc g)) e ∙ sym unroll

    -- slots without a block are passed
    pub slots_passed : {i : ℕ} → here ≡ blocks_from g i (kind_at p g) (slot_at p g) → Ahead c p q g i
    slots_passed {i} e =
        record { same = unroll ∙ ap (λ (l : List Block). head (l ++ flat (page_blocks p) (suc g) (512 * c - suc g))) e ∙ sym (rest_first c p g i h) }

    -- a page that has no block left is passed
    pub page_passed : None ≡ head here → Ahead c p q (suc g) 0
    page_passed e =
        record {
          same = unroll ∙ ap (λ (l : List Block). head (l ++ flat (page_blocks p) (suc g) (512 * c - suc g))) (head_none here e)
              ∙ ap head (sym (from_0 p (suc g) (512 * c - suc g)));
        }

    -- and so are the free pages behind it, up to page e
    pub free_passed : admit_of c p ≡ 0 → None ≡ head here → {e x n : ℕ} → g + 1 ≤ e → e ≤ 512 * c → x ≡ next_bit 1 p.bits (g + 1) (e - (g + 1)) → x ≡ n
        → Ahead c p q n 0
    free_passed ok d {e} {x} l m w o =
        let f = first_at p.bits (g + 1) e 1 x (omega arith) l w in
        let low = f.low in let high = f.high in
        moved
        (record {
          same = (page_passed d).same
              ∙ ap head
              (from_0 p (suc g) (512 * c - suc g)
              ∙ flat_drop (page_blocks p) (suc g) x (512 * c - suc g) (512 * c - x) (omega arith) (omega arith)
              (λ j u v. sym (kind_blocks p j Free (page_free c p (admitted c p ok).whole j (omega arith) (zero_clear p.bits j (f.below j (omega arith) v)))))
              ∙ sym (from_0 p x (512 * c - x)));
        })
        o

  -- page 0 of a chunk is passed, and the pool's end
  pub edge_passed : admit_of c p ≡ 0 → {g s n : ℕ} → Ahead c p q g s → g % 512 ≡ 0 → suc g ≡ n → Ahead c p q n 0
  unfolding rest head
  edge_passed ok {g} {s} {n} a z m =
      by_cases (dec_lt g (512 * c))
      (λ h. let k = page_edge c p (admitted c p ok).whole g h z in
      moved (page_passed a h (ap (λ (j : Kind). head (blocks_from g s j (slot_at p g))) (sym k))) m)
      (λ h. let u : 512 * c - g ≡ 0 = omega arith in
      let v : 512 * c - n ≡ 0 = omega arith in
      record { same = a.same ∙ ap (λ (d : ℕ). head (rest p g s d)) u ∙ sym (ap (λ (d : ℕ). head (rest p n 0 d)) v) })
