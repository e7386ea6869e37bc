-- Pages: free ones, those in runs, and page 0 of each chunk. Assumes nothing.
use mathlib.Core.Path.{◌≡◌, refl, sym, ap, ap₂, ◌∙◌}
use mathlib.Core.Logic.{◌≢◌, by_cases}
use mathlib.Core.Bool.{Bool, true, false, false≢true}
use mathlib.Core.Option.{some, none-ne-some, some-injective}
use mathlib.Core.List.{List, [], ◌∷◌}
use Prim.Native.Nat.{ℕ, zero, suc, ◌+◌, ◌*◌, ◌/◌, ◌%◌, ◌≤◌, ◌<◌}
use native.Mathlib.Decide.{ℕ_discrete}
use native.Mathlib.Omega.{arith}
use lib.ListN.{length}
use Rattle.records.specs.Kinds.{span_of}
use Rattle.refusals.proofs.CallLaws.{served}
use Rattle.bitrow.specs.Row.{digit, bit_at, is_set, count_bits}
use Rattle.records.specs.declared.Kind.{Kind}
use Rattle.records.specs.declared.Kind.TheVariants.{Edge, Free, Damaged, Large, Class, Inner}
use Rattle.records.specs.Pool.{Pool, kind_at}
use Rattle.records.specs.Sound.{step, sound}
use Rattle.records.specs.Calls.{admit_of}
use Rattle.records.proofs.WalkLaws.{walk, walk_next, sound_walks, step_inner}
use Rattle.records.proofs.RunLaws.{begins_run}
use Rattle.records.proofs.WordLaws.{page_word, page_large, page_inside, page_edge, page_free}
use Rattle.records.proofs.AdmitLaws.{admitted}
use Rattle.blocks.specs.Blocks.{live}
use Rattle.blocks.specs.Stores.{Good}
use Rattle.blocks.proofs.KeepLaws.{good_admit}
use Rattle.totals.specs.declared.Amount.{Amount}
use Rattle.totals.specs.declared.Sums.{Sums}
use Rattle.totals.specs.Totals.{amount_of, sum, free_of, free_pages, run_pages, totalled, summed, totals_of}
use Rattle.totals.proofs.AmountLaws.{digit_set}

-- ---- free pages are those whose page bit is 0

module _ (c : ℕ) (p : Pool) (s : sound c p ≡ true) where
  taken_not_free : (g : ℕ) → g < 512 * c → is_set p.bits g ≡ true → (k : Kind) → kind_at p g ≡ k → free_of k ≡ 0
  taken_not_free g l t Edge e = refl
  taken_not_free g l t Free e = let w = page_word p g e in ap free_of (sym e ∙ page_inside c p s g l t (omega arith))
  taken_not_free g l t Damaged e = refl
  taken_not_free g l t (Large k) e = refl
  taken_not_free g l t (Class b) e = refl
  taken_not_free g l t (Inner w) e = refl

  page_bit : (g : ℕ) → g < 512 * c → free_of (kind_at p g) + bit_at p.bits g ≡ 1
  page_bit g l = ap (λ (x : ℕ). free_of (kind_at p g) + x) (sym (digit_set p.bits g)) ∙ go (is_set p.bits g) refl
    where
      go : (v : Bool) → is_set p.bits g ≡ v → free_of (kind_at p g) + digit (is_set p.bits g) ≡ 1
      go true e = ap₂ (λ (x : ℕ) (t : Bool). x + digit t) (taken_not_free g l e (kind_at p g) refl) e
      go false e = ap₂ (λ (k : Kind) (t : Bool). free_of k + digit t) (page_free c p s g l e) e

  free_count : (i n : ℕ) → i + n ≤ 512 * c → sum (λ g. free_of (kind_at p g)) i n + count_bits p.bits i n ≡ n
  unfolding sum count_bits
  free_count i zero l = refl
  free_count i (suc n) l =
      let r : suc i ≡ i + 1 = omega arith in
      let h : sum (λ g. free_of (kind_at p g)) (suc i) n + count_bits p.bits (i + 1) n ≡ n =
      ap (λ (x : ℕ). sum (λ g. free_of (kind_at p g)) (suc i) n + count_bits p.bits x n) (sym r) ∙ free_count (suc i) n (omega arith) in
      let b = page_bit i (omega arith) in omega arith

-- ---- the totals

pub free_read : (c : ℕ) (p : Pool) → admit_of c p ≡ 0 → (n t : ℕ) → n ≡ 512 * c → t ≡ count_bits p.bits 0 n → n ≡ t + free_pages c p
unfolding free_pages
free_read c p ok n t e f =
    let h = free_count c p (admitted c p ok).whole 0 (512 * c) (omega arith) in
    let g : t ≡ count_bits p.bits 0 (512 * c) = f ∙ ap (count_bits p.bits 0) e in omega arith

pub totals_made : (c : ℕ) (p : Pool) {t : Amount} {f : ℕ} → t ≡ amount_of (live c p) → f ≡ free_pages c p
    → totalled 0 t.blocks t.bytes f ≡ summed c p
unfolding summed amount_of
totals_made c p e f = ap₂ (λ (t : Amount) (k : ℕ). totalled 0 t.blocks t.bytes k) e f

-- behind the check
module _ (c : ℕ) (p : Pool) (n : ℕ) (e : n ≡ admit_of c p) where
  pub totals_served : n ≡ 0 → {x : Sums} → x ≡ summed c p → x ≡ totals_of c p
  unfolding totals_of
  totals_served z f = f ∙ served (admit_of c p) n (λ r. totalled r 0 0 0) (summed c p) e z

-- ---- each page is free, in a run, or page 0 of its chunk

-- 1 for page 0 of a chunk
abbrev edge_of : Kind → ℕ
edge_of Edge = 1
edge_of Free = 0
edge_of Damaged = 0
edge_of (Large k) = 0
edge_of (Class b) = 0
edge_of (Inner w) = 0

-- A run's pages count where it begins: the pages whose words are due have been counted
page_share : (st : List ℕ) (k : Kind) (due : List ℕ) → step st k ≡ some due → free_of k + span_of k + edge_of k + length st ≡ suc (length due)
page_share [] Edge due e = let n : 0 ≡ length due = ap length (some-injective _ _ e) in omega arith
page_share [] Free due e = let n : 0 ≡ length due = ap length (some-injective _ _ e) in omega arith
page_share [] Damaged due e = absurd (none-ne-some due e)
page_share [] (Large k) due e = let l = begins_run (Large k) due e (omega arith) in omega arith
page_share [] (Class b) due e = let l = begins_run (Class b) due e (omega arith) in omega arith
page_share [] (Inner w) due e = absurd (none-ne-some due e)
page_share (w ∷ ws) k due e =
    let (p, q) = step_inner w ws k due e in
    let l : length due ≡ length ws = ap length q in
    let s : free_of k + span_of k + edge_of k ≡ 0 = ap (λ (j : Kind). free_of j + span_of j + edge_of j) p in omega arith

walk_share : (K : ℕ → Kind) (n : ℕ) (st : List ℕ) (g : ℕ) → walk K st g n ≡ true
    → sum (λ i. free_of (K i)) g n + sum (λ i. span_of (K i)) g n + sum (λ i. edge_of (K i)) g n + length st ≡ n
unfolding walk sum
walk_share K zero [] g h = refl
walk_share K zero (w ∷ ws) g h = absurd (false≢true h)
walk_share K (suc n) st g h =
    let s = walk_next K st g n h in
    let a = page_share st (K g) s.due s.steps in
    let b = walk_share K n s.due (suc g) s.walks in omega arith

-- page 0 is every 512th page
module _ (c : ℕ) (p : Pool) (s : sound c p ≡ true) where
  not_edge : (g : ℕ) → g < 512 * c → g % 512 ≢ 0 → (k : Kind) → kind_at p g ≡ k → edge_of k ≡ 0
  not_edge g l n Edge e = let w = page_word p g e in ap edge_of (sym e ∙ (page_large c p s g l n (omega arith) (omega arith)).1)
  not_edge g l n Free e = refl
  not_edge g l n Damaged e = refl
  not_edge g l n (Large k) e = refl
  not_edge g l n (Class b) e = refl
  not_edge g l n (Inner w) e = refl

  page_first : (g : ℕ) → g < 512 * c → edge_of (kind_at p g) + (g + 511) / 512 ≡ (suc g + 511) / 512
  page_first g l =
      by_cases (ℕ_discrete (g % 512) 0)
      (λ e. let h : edge_of (kind_at p g) ≡ 1 = ap edge_of (page_edge c p s g l e) in omega arith)
      (λ e. let h = not_edge g l e (kind_at p g) refl in omega arith)

  edge_count : (g n : ℕ) → g + n ≤ 512 * c → sum (λ i. edge_of (kind_at p i)) g n + (g + 511) / 512 ≡ (g + n + 511) / 512
  unfolding sum
  edge_count g zero l = omega arith
  edge_count g (suc n) l =
      let a = page_first g (omega arith) in
      let b = edge_count (suc g) n (omega arith) in
      omega arith

  pub pages_add : free_pages c p + run_pages c p + c ≡ 512 * c
  unfolding free_pages run_pages
  pages_add =
      let a = walk_share (kind_at p) (512 * c) [] 0 (sound_walks c p s).walks in
      let b = edge_count 0 (512 * c) (omega arith) in omega arith

-- ---- the call on a good pool

pub totals_by : (c : ℕ) (p : Pool) → Good c p → totals_of c p ≡ summed c p
unfolding totals_of
totals_by c p h = sym (served (admit_of c p) 0 (λ r. totalled r 0 0 0) (summed c p) (sym (good_admit c p h)) refl)
