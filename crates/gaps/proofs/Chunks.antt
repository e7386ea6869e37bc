-- The search of a chunk: its page 0 is read as taken, and it goes from word to word.
-- Assumes nothing.
use mathlib.Core.Path.{◌≡◌, refl, sym, ap, ap₂, ◌∙◌, subst}
use mathlib.Core.Logic.{◌≢◌, inr, ⊎_elim}
use mathlib.Core.List.{List, []}
use Prim.Native.Nat.{ℕ, ◌+◌, ◌-◌, ◌*◌, ◌/◌, ◌%◌, ◌^◌, ◌≤◌, ◌<◌}
use native.Mathlib.Nat.{div-one}
use native.Mathlib.Omega.{arith}
use lib.Bits.{bit_or}
use lib.Dec.{lit<}
use lib.ListN.{length, get_or, set}
use lib.Seq.{get_or-set_same, get_or-set_other}
use Rattle.bitrow.specs.Row.{bit, bit_at, put_bit, next_bit, Lowest}
use Rattle.bitrow.proofs.Rows.{rest, next_from, next_end, next_inside, next_passed, first_at}
use Rattle.bitrow.proofs.Marks.{put_bit_same, put_bit_other}
use Rattle.gaps.specs.declared.Gap.{Gap}
use Rattle.gaps.specs.declared.Search.{Search}
use Rattle.gaps.specs.Gaps.{gap, with_gap, gaps_from, gaps_of, better, shortest, searching, ahead, Ready, Shows, Searched, barred}
use Rattle.gaps.proofs.Turns.{closed, skip}
use Rattle.gaps.proofs.Scan.{gaps_taken, gaps_same, shortest_with, better_exact, shortest_exact}

-- ---- page 0

module _ (bits : List ℕ) (k : ℕ) (inside : 8 * k < length bits) where
  -- the gaps of the chunk are those of all its pages, with page 0 taken
  gaps_barred : (g m l : ℕ) → g ≡ 512 * k → m ≡ 512 → l ≡ 0 → gaps_from (barred bits k) g m l ≡ gaps_of bits k
  unfolding barred gaps_of
  gaps_barred g m l a b d =
      let first = put_bit_same 1 bits (512 * k) (lit< tt) (omega arith) in
      let others = put_bit_other 1 bits (512 * k) (lit< tt) (omega arith) in
      cc (
        gaps_taken (barred bits k) (512 * k) 511 0 first,
        gaps_same (barred bits k) bits 511 (512 * k + 1) 0 (λ i x y. others i (λ e. omega arith)),
      )

  barred_word : barred bits k ≡ set bits (8 * k) (bit_or (get_or bits (8 * k) 0) 1)
  unfolding barred put_bit
  barred_word =
      let word : 512 * k / 64 ≡ 8 * k = omega arith in
      let place : 512 * k % 64 ≡ 0 = omega arith in
      ap₂ (λ (j o : ℕ). set bits j (bit_or (get_or bits j 0) (2 ^ o))) word place

  pub word_first : (i : ℕ) → i ≡ 0 → bit_or (get_or bits (8 * k + i) 0) 1 ≡ get_or (barred bits k) (8 * k + i) 0
  word_first i z =
      let at : 8 * k + i ≡ 8 * k = omega arith in
      cc (at, barred_word, get_or-set_same bits (8 * k) (bit_or (get_or bits (8 * k) 0) 1) 0 inside)

  pub word_later : (i : ℕ) → i ≢ 0 → get_or bits (8 * k + i) 0 ≡ get_or (barred bits k) (8 * k + i) 0
  word_later i z =
      sym (ap (λ (ws : List ℕ). get_or ws (8 * k + i) 0) barred_word
      ∙ get_or-set_other bits (8 * k) (8 * k + i) (bit_or (get_or bits (8 * k) 0) 1) 0 (λ e. z (omega arith)))

shows : (ws : List ℕ) (q w j : ℕ) → q ≡ 64 * j → w ≡ get_or ws j 0 → Shows ws q w
unfolding bit_at
shows ws q w j a b i l =
    let word : (q + i) / 64 ≡ j = omega arith in
    let place : (q + i) % 64 ≡ i = omega arith in
    ap₂ (λ (x y : ℕ). bit (get_or ws x 0) y) word place ∙ ap (λ (x : ℕ). bit x i) (sym b)

-- ---- the first free page

-- the search for it has come to word i of chunk k
abbrev pub Seeks : List ℕ → ℕ → ℕ → Type 0
Seeks ws k i = next_from 0 ws (512 * k + 64 * i) (512 * k + 512) ≡ next_bit 0 ws (512 * k) 512

module _ (ws : List ℕ) (k : ℕ) where
  pub free_start : Seeks ws k 0
  free_start = ap₂ (next_bit 0 ws) (omega arith) (omega arith)

  module _ (i w t : ℕ) (s : Seeks ws k i) (l : i < 8) (word : w ≡ get_or ws (8 * k + i) 0) (f : Lowest 64 w 0 t) where
    lowest : Lowest 64 (rest ws (512 * k + 64 * i)) 0 t
    lowest =
        let at : 8 * k + i ≡ (512 * k + 64 * i) / 64 = omega arith in
        let off : 0 ≡ (512 * k + 64 * i) % 64 = omega arith in
        subst (λ (x : ℕ). Lowest 64 x 0 t) (word ∙ sym (div-one _) ∙ ap₂ (λ (j o : ℕ). get_or ws j 0 / 2 ^ o) at off) f

    pub free_turn : 64 ≤ t → Seeks ws k (i + 1)
    free_turn h =
        let next : 512 * k + 64 * (i + 1) ≡ 512 * k + 64 * i + (64 - (512 * k + 64 * i) % 64) = omega arith in
        ap (λ (q : ℕ). next_from 0 ws q (512 * k + 512)) next ∙ sym (next_passed 0 ws _ _ t (lit< tt) (omega arith) lowest (omega arith)) ∙ s

    pub free_found : t < 64 → 512 * k + 64 * i + t ≡ next_bit 0 ws (512 * k) 512
    free_found h = omega (arith, next_inside 0 ws _ (512 * k + 512) t (lit< tt) (omega arith) lowest (omega arith), s)

  pub free_none : (i : ℕ) → 8 ≤ i → Seeks ws k i → 512 * k + 512 ≡ next_bit 0 ws (512 * k) 512
  free_none i l s = sym (next_end 0 ws _ _ (omega arith)) ∙ s

-- ---- the words in turn: the search s has come to word i

pub record Chunk (bits : List ℕ) (k n : ℕ) (before : Gap) (i : ℕ) (s : Search) : Type 0 where
  pub count : i ≤ 8
  pub ready : Ready (512 * k + 512) (512 * k + 64 * i) s
  pub same : ahead (barred bits k) n (512 * k + 512) (512 * k + 64 * i) s ≡ shortest n before (gaps_of bits k)

module _ {bits : List ℕ} {k n : ℕ} {before : Gap} where
  pub chunk_start : 8 * k < length bits → Chunk bits k n before 0 (searching (512 * k + 512) before)
  unfolding ahead
  chunk_start l = record {
    count = omega arith;
    ready = inr refl;
    same = ap (shortest n before) (gaps_barred bits k l _ _ _ (omega arith) (omega arith) (omega arith));
  }

  module _ {i : ℕ} {s : Search} (c : Chunk bits k n before i s) where
    pub chunk_turn : {w : ℕ} {next : Search} → i < 8 → w ≡ get_or (barred bits k) (8 * k + i) 0
        → Searched w (512 * k + 64 * i) (512 * k + 512) n s next → Chunk bits k n before (i + 1) next
    chunk_turn {w} {next} l word is =
        let at : 512 * k + 64 * i + 64 ≡ 512 * k + 64 * (i + 1) = omega arith in
        record {
          count = omega arith;
          ready = subst (λ (g : ℕ). Ready (512 * k + 512) g next) at is.ready;
          same = ap (λ (g : ℕ). ahead (barred bits k) n (512 * k + 512) g next) (sym at)
              ∙ is.gives (barred bits k) (shows (barred bits k) _ w (8 * k + i) (omega arith) word)
              ∙ c.same;
        }

    pub start_le : s.start ≤ 512 * k + 512
    start_le = let h = c.count in ⊎_elim (λ a. omega arith) (λ a. omega arith) c.ready

    -- the open gap ends with the chunk
    pub chunk_done : 8 ≤ i → 1 ≤ n → better n (gap s.start (512 * k + 512 - s.start)) s.best ≡ shortest n before (gaps_of bits k)
    unfolding ahead gaps_from shortest
    chunk_done l some =
        let end : 512 * k + 512 ≡ 512 * k + 64 * i = omega (arith, c.count) in
        let a : 512 * k + 512 - (512 * k + 512 - s.start) ≡ s.start = omega (arith, start_le) in
        let none : 0 ≡ 512 * k + 512 - (512 * k + 64 * i) = omega arith in
        sym (shortest_with n s.start (512 * k + 512 - s.start) s.best [] some)
        ∙ ap (λ (x : ℕ). shortest n s.best (with_gap x (512 * k + 512 - s.start) [])) (sym a)
        ∙ ap₂ (λ (g m : ℕ). shortest n s.best (gaps_from (barred bits k) g m (g - s.start))) end none
        ∙ c.same

    pub chunk_settled : (x : Gap) → s.best.len ≡ n → better n x s.best ≡ shortest n before (gaps_of bits k)
    unfolding ahead
    chunk_settled x e = better_exact n x s.best e ∙ sym (shortest_exact n s.best _ e) ∙ c.same

-- a full chunk has no gap
pub chunk_full : (bits : List ℕ) (k n r : ℕ) (before : Gap) → 8 * k < length bits → r ≡ next_bit 0 (barred bits k) (512 * k) 512 → r ≡ 512 * k + 512
    → before ≡ shortest n before (gaps_of bits k)
unfolding ahead gaps_from shortest
chunk_full bits k n r before inside is end =
    let to = 512 * k + 512 in
    let pages : 512 ≡ to - 512 * k = omega arith in
    let f = first_at (barred bits k) (512 * k) to 0 r (lit< tt) (omega arith) (is ∙ ap (next_bit 0 (barred bits k) (512 * k)) pages) in
    let none : 0 ≡ to - to = omega arith in
    ap (λ (m : ℕ). shortest n before (gaps_from (barred bits k) to m m)) none
    ∙ sym (skip (barred bits k) n to 512 (512 * k + 64 * 0) to (searching to before) (closed refl) (omega arith) (omega arith)
    (λ g a b. f.below g (omega arith) (omega arith)))
    ∙ (chunk_start inside).same
