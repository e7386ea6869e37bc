-- Laws of a word's edges: where they are, and what they say of its bits.
-- Assumes nothing.
use mathlib.Core.Path.{◌≡◌, sym, ap, ap₂, ◌∙◌}
use mathlib.Core.Logic.{◌≢◌, ⊎_elim}
use Prim.Native.Nat.{ℕ, zero, suc, ◌+◌, ◌-◌, ◌*◌, ◌/◌, ◌%◌, ◌^◌, ◌≤◌, ◌<◌}
use native.Mathlib.Nat.{add-zero, eq-or-lt_of_le}
use native.Mathlib.Numerals.{add-one}
use native.Mathlib.Omega.{arith}
use lib.Bits.{bit_and, bit_or, bit_xor, differ, xor_shr, xor_step, or_shifted}
use lib.Dec.{lit<}
use lib.Pow.{field, mod-mod-pow}
use Rattle.bitrow.specs.Row.{bit, Lowest}
use Rattle.bitrow.proofs.Words.{bit_zero, bit_suc, bit_le}
use Rattle.bitrow.proofs.Rows.{lt_or_ge}
use Rattle.bitrow.proofs.Masks.{odd_of, put_same, put_other}
use Rattle.bitrow.proofs.Lows.{lowest_cleared}
use Rattle.gaps.specs.Gaps.{Edges}

-- two digits that differ: their distance
differ_is : (a b : ℕ) → differ a b ≡ a - b + (b - a)
differ_is zero b = omega arith
differ_is (suc a) zero = omega arith
differ_is (suc a) (suc b) = differ_is a b ∙ omega arith

-- ---- the edges, as the code computes them

bit_xor_lem : (w x i : ℕ) → bit (bit_xor w x) i ≡ differ (bit w i) (bit x i)
unfolding bit
bit_xor_lem w x i =
    ap (λ (y : ℕ). y % 2) (xor_shr w x i ∙ xor_step (w / 2 ^ i) (x / 2 ^ i))
    ∙ odd_of (bit_xor (w / 2 ^ i / 2) (x / 2 ^ i / 2)) (differ (w / 2 ^ i % 2) (x / 2 ^ i % 2)) (omega (arith, differ_is (w / 2 ^ i % 2) (x / 2 ^ i % 2)))

bit_mod : (d n i : ℕ) → bit (n % 2 ^ (d + 1 + i)) i ≡ bit n i
unfolding bit
bit_mod d n i = ap (λ (x : ℕ). x % 2) (field n (d + 1) i) ∙ mod-mod-pow (n / 2 ^ i) d 1

module _ (w v : ℕ) (v01 : v < 2) where
  -- each bit one place up, and v in front of them
  prior : ℕ
  prior = bit_or (w * 2 ^ 1 % 2 ^ 64) v

  prior_value : prior ≡ w % 2 ^ 63 * 2 + v
  unfolding prior
  prior_value = let up : w * 2 ^ 1 % 2 ^ 64 ≡ w % 2 ^ 63 * 2 = omega arith in ap (λ (x : ℕ). bit_or x v) up ∙ or_shifted (w % 2 ^ 63) 1 v v01

  prior_first : bit prior 0 ≡ v
  prior_first = bit_zero prior ∙ omega (arith, prior_value)

  prior_later : (i : ℕ) → i + 1 < 64 → bit prior (i + 1) ≡ bit w i
  prior_later i l =
      let half : prior / 2 ≡ w % 2 ^ 63 = omega (arith, prior_value) in
      let some : 62 - i + 1 + i ≡ 63 = omega arith in
      ap (bit prior) (add-one i) ∙ bit_suc prior i ∙ ap (λ (x : ℕ). bit x i) half
      ∙ ap (λ (x : ℕ). bit (w % 2 ^ x) i) (sym some) ∙ bit_mod (62 - i) w i

  pub edges_of : Edges w 0 v (bit_xor w (bit_or (w * 2 ^ 1 % 2 ^ 64) v))
  unfolding prior
  edges_of = record {
    below = λ i l. absurd (omega arith);
    first = λ l. bit_xor_lem w prior 0 ∙ ap (differ (bit w 0)) prior_first;
    later = λ i a l. bit_xor_lem w prior (i + 1) ∙ ap (differ (bit w (i + 1))) (prior_later i l);
  }

-- ---- what the edges say of the bits from place o on, up to the next edge t

module _ {w o v e : ℕ} (v01 : v < 2) (is : Edges w o v e) where
  module _ (t : ℕ) (high : t ≤ 64) (none : (i : ℕ) → i < t → bit e i ≡ 0) where
    like : (d : ℕ) → o + d < t → bit w (o + d) ≡ v
    like zero l =
        ap (bit w) (add-zero o) ∙ omega (arith, differ_is (bit w o) v, is.first (omega arith), none o (omega arith))
    like (suc d) l =
        let next : o + suc d ≡ o + d + 1 = omega arith in
        let edge = is.later (o + d) (omega arith) (omega arith) in
        ap (bit w) next ∙ omega (arith, differ_is (bit w (o + d + 1)) (bit w (o + d)), edge, none (o + d + 1) (omega arith), like d (omega arith))

    pub unchanged : (i : ℕ) → o ≤ i → i < t → bit w i ≡ v
    unchanged i a l = let same : i ≡ o + (i - o) = omega arith in ap (bit w) same ∙ like (i - o) (omega arith)

  module _ {t : ℕ} (l : t < 64) (f : Lowest 64 e 1 t) where
    pub edge_behind : o ≤ t
    edge_behind = ⊎_elim (λ z. absurd (omega (arith, is.below t z, f.here l))) (λ z. z) (lt_or_ge t o)

    pub edge_here : bit w t ≡ 1 - v
    edge_here =
        ⊎_elim
        (λ z. ap (bit w) (sym z) ∙ omega (arith, differ_is (bit w o) v, bit_le w o, is.first (omega arith), ap (bit e) z, f.here l))
        (λ z. let back : t ≡ t - 1 + 1 = omega arith in
        let edge = is.later (t - 1) (omega arith) (omega arith) in
        let before = unchanged t (omega arith) f.below (t - 1) (omega arith) (omega arith) in
        ap (bit w) back
        ∙ omega (arith, differ_is (bit w (t - 1 + 1)) (bit w (t - 1)), bit_le w (t - 1 + 1), edge, ap (bit e) back, f.here l, before))
        (eq-or-lt_of_le edge_behind)

    -- without the edge at t, those behind it
    module _ (fits : e < 2 ^ 64) (some : 1 ≤ e) where
      other : (i : ℕ) → i < 64 → i ≢ t → bit (bit_and e (e - 1)) i ≡ bit e i
      other i h d = ap (λ (x : ℕ). bit x i) (lowest_cleared e t fits some f) ∙ put_other 0 e t i l h d

      pub edge_passed : Edges w (t + 1) (1 - v) (bit_and e (e - 1))
      edge_passed = record {
        below = λ i z. ⊎_elim
            (λ a. other i (omega arith) (λ q. omega arith) ∙ f.below i a)
            (λ a. ap₂ bit (lowest_cleared e t fits some f) (omega arith) ∙ put_same 0 e t (lit< tt) l)
            (lt_or_ge i t);
        first = λ z. other (t + 1) z (λ q. omega arith) ∙ is.later t edge_behind z ∙ ap (differ (bit w (t + 1))) edge_here;
        later = λ i a z. other (i + 1) z (λ q. omega arith) ∙ is.later i (omega (arith, edge_behind)) z;
      }
