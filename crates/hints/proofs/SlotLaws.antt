-- One slot changes: all other runs have the free slots that they had. Assumes nothing.
use mathlib.Core.Path.{◌≡◌, sym, ap, ◌∙◌}
use mathlib.Core.Logic.{◌≢◌, by_cases}
use mathlib.Core.Bool.{Bool, true, false, ◌&&◌}
use Prim.Native.Nat.{ℕ, ◌+◌, ◌*◌, ◌/◌, ◌%◌, ◌<◌}
use native.Mathlib.Decide.{ℕ_discrete, dec_lt}
use native.Mathlib.Omega.{arith}
use lib.Dec.{ltb}
use lib.ListN.{get_or}
use lib.Seq.{get_or-set_other}
use borrow.Author.Tests.{ne_eqb, le-ltb}
use Rattle.bitrow.specs.Row.{word_put, put_bit}
use Rattle.classes.specs.Classes.{slots}
use Rattle.classes.proofs.ClassLaws.{any_row}
use Rattle.records.specs.declared.Kind.{Kind}
use Rattle.records.specs.declared.Kind.TheVariants.{Class}
use Rattle.records.specs.Kinds.{is_run_of}
use Rattle.records.specs.Pool.{Pool, kind_at, slot_at}
use Rattle.records.proofs.Flags.{flag_eq}
use Rattle.records.proofs.AdmitLaws.{shaped_lengths}
use Rattle.blocks.specs.Stores.{put_slot, Good}
use Rattle.blocks.proofs.StoreLaws.{slot_kinds, slot_other}
use Rattle.reserve.specs.Reserve.{lowest_free, has_slot}
use Rattle.reserve.proofs.PlanLaws.{has_free}
use Rattle.reserve.proofs.MeanLaws.{found_run}
use Rattle.hints.specs.Hints.{has_to, SameBut}

-- ---- by the page's kind and the slot bits

-- no run of class d starts at the page
pub has_none : (p : Pool) (d i : ℕ) (k : Kind) → kind_at p i ≡ k → is_run_of d k ≡ false → has_slot p d i ≡ false
unfolding has_slot
has_none p d i k e f = ap (λ (t : Bool). t && ltb (lowest_free p.slots d i) (slots d)) (ap (is_run_of d) e ∙ f)

has_too : (c : ℕ) (p q : Pool) (d i : ℕ) → i < 512 * c → kind_at p i ≡ kind_at q i → ((s : ℕ) → s < 512 → slot_at p i s ≡ slot_at q i s)
    → has_slot p d i ≡ true → has_slot q d i ≡ true
has_too c p q d i l k s e =
    let f = has_free c p d i l e in
    let m = (any_row d).slots_most in let h = f.slot in
    found_run q d i (lowest_free p.slots d i) (sym k ∙ f.kind) h (sym (s (lowest_free p.slots d i) (omega arith)) ∙ f.bit)

pub has_same : (c : ℕ) (p q : Pool) (d i : ℕ) → i < 512 * c → kind_at p i ≡ kind_at q i → ((s : ℕ) → s < 512 → slot_at p i s ≡ slot_at q i s)
    → has_slot p d i ≡ has_slot q d i
has_same c p q d i l k s =
    flag_eq (has_slot p d i) (has_slot q d i) (has_too c p q d i l k s) (has_too c q p d i l (sym k) (λ j m. sym (s j m)))

-- of the first n pages
pub to_same : (n : ℕ) (p q : Pool) (d i : ℕ) → (i < n → has_slot p d i ≡ has_slot q d i) → has_to n p d i ≡ has_to n q d i
to_same n p q d i h =
    by_cases (dec_lt i n) (λ l. ap (λ (t : Bool). ltb i n && t) (h l))
    (λ l. ap (λ (t : Bool). t && has_slot p d i) (le-ltb i n (omega arith)) ∙ sym (ap (λ (t : Bool). t && has_slot q d i) (le-ltb i n (omega arith))))

-- ---- one slot of the run of class b at page g

module _ (c v : ℕ) (p : Pool) (h : Good c p) (g b s : ℕ) (v01 : v < 2) (l : g < 512 * c) (m : s < 512) (e : kind_at p g ≡ Class b) where
  slot_has : (d i : ℕ) → (b ≡ d → i ≢ g) → i < 512 * c → has_slot p d i ≡ has_slot (put_slot v p g s) d i
  slot_has d i n k =
      by_cases (ℕ_discrete i g)
      (λ x. let o = ne_eqb b d (λ y. n y x) in
      has_none p d i (Class b) (ap (kind_at p) x ∙ e) o
      ∙ sym (has_none (put_slot v p g s) d i (Class b) (slot_kinds c v p g s i ∙ ap (kind_at p) x ∙ e) o))
      (λ x. has_same c p (put_slot v p g s) d i k (sym (slot_kinds c v p g s i))
      (λ t z. sym (slot_other c v p g s v01 (shaped_lengths _ _ _ _ h.shape) l m i t (λ y. x (omega arith)))))

  -- the words of other pages, and the other words of this one
  pub words_kept : (i j : ℕ) → j < 8 → (i ≡ g → j ≢ s / 64) → get_or p.slots (8 * i + j) 0 ≡ get_or (put_slot v p g s).slots (8 * i + j) 0
  unfolding put_slot put_bit
  words_kept i j x n =
      sym (get_or-set_other p.slots ((512 * g + s) / 64) (8 * i + j) (word_put v (get_or p.slots ((512 * g + s) / 64) 0) ((512 * g + s) % 64)) 0
      (λ y. let same : i ≡ g = omega arith in n same (omega arith)))

  pub slot_same_but : SameBut (512 * c) p (512 * c) (put_slot v p g s) b g
  slot_same_but =
      record {
        here = slot_kinds c v p g s g ∙ e;
        inside = l;
        has = λ d i k n. to_same (512 * c) p (put_slot v p g s) d i (slot_has d i n);
        kind = λ d i k n f. (k, sym (slot_kinds c v p g s i) ∙ f);
        words = λ i k x y n. words_kept i k y (λ z. absurd (n z));
      }
