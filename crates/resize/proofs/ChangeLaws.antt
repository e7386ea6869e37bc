-- What becomes of a block: pages enough for a run that stays, and the bytes that it has. Assumes nothing.
use mathlib.Core.Path.{◌≡◌, refl, sym, ap, ◌∙◌, subst}
use mathlib.Core.Logic.{◌≢◌, inr, by_cases}
use mathlib.Core.Bool.{Bool, true, false, cond, false≢true}
use Prim.Native.Nat.{ℕ, suc, ◌+◌, ◌-◌, ◌*◌, ◌/◌, ◌%◌, ◌≤◌, ◌<◌}
use native.Mathlib.Decide.{dec_lt, dec_le}
use native.Mathlib.Omega.{arith}
use lib.Dec.{leb}
use borrow.Author.Tests.{eqb-true, eq-eqb, leb-true, le-leb}
use Rattle.bitrow.specs.Row.{next_bit}
use Rattle.bitrow.proofs.Rows.{First, next_first}
use Rattle.bitrow.proofs.Marks.{one_set, zero_clear}
use Rattle.classes.specs.Classes.{size, class_for}
use Rattle.classes.proofs.ClassLaws.{class_smallest}
use Rattle.records.specs.Kinds.{zeros, span_of}
use Rattle.records.specs.Pool.{Pool, kind_at}
use Rattle.records.proofs.Flags.{and_made, and_left, and_right, eq_cases, lt_cases, le_cases}
use Rattle.records.proofs.WordLaws.{page_free, free_clear}
use Rattle.records.proofs.RunLaws.{Mid, mid_off, sound_runs}
use Rattle.blocks.specs.Blocks.{IsLarge}
use Rattle.blocks.specs.Stores.{put_run, Good}
use Rattle.blocks.proofs.StoreLaws.{free_off}
use Rattle.blocks.proofs.KeepLaws.{free_large}
use Rattle.reserve.specs.Reserve.{pages_for}
use Rattle.reserve.specs.Plans.{PagesFree}
use Rattle.release.specs.declared.Spot.{Spot}
use Rattle.release.specs.declared.Spot.TheVariants.{Nowhere, Run, Slot}
use Rattle.release.specs.Release.{sized, size_at}
use Rattle.release.proofs.GiveLaws.{none, idle, There, large_ends}
use Rattle.resize.specs.declared.Change.{Change}
use Rattle.resize.specs.declared.Change.TheVariants.{Refuse, Stay, Recut, Move}
use Rattle.resize.specs.Resize.{FreeBehind, can_grow, fit_pages, fit_run, fit_slot, change}

-- ---- the pages right behind a run

module _ (c : ℕ) (p : Pool) (h : Good c p) (g k : ℕ) (r : IsLarge c p g k) where
  pub large_off : g % 512 ≢ 0
  large_off = mid_off p g (subst Mid (sym r.kind) tt)

  -- it ends in its chunk
  pub large_inside : g % 512 + suc k ≤ 512
  large_inside =
      let span : span_of (kind_at p g) ≡ suc k = ap span_of r.kind in
      let last : (g + k) / 512 ≡ g / 512 = (sound_runs c p h.whole).inside g (g + k) r.inside (record { low = omega arith; high = omega arith }) in
      omega arith

  module _ (j : ℕ) (more : k ≤ j) where
    search : First p.bits (g + suc k) (g + suc j) 1 (next_bit 1 p.bits (g + suc k) (j - k))
    search =
        let e : g + suc j - (g + suc k) ≡ j - k = omega arith in
        subst (λ (n : ℕ). First p.bits (g + suc k) (g + suc j) 1 (next_bit 1 p.bits (g + suc k) n)) e
        (next_first p.bits (g + suc k) (g + suc j) 1 (omega arith) (omega arith))

    -- they are free where the run may grow
    pub grow_free : can_grow p.bits g k j ≡ true → (g % 512 + suc j ≤ 512) × FreeBehind p g k j
    unfolding can_grow
    grow_free e =
        let near = leb-true (g % 512 + suc j) 512 (and_left (leb (g % 512 + suc j) 512) _ e) in
        let end : next_bit 1 p.bits (g + suc k) (j - k) ≡ g + suc j =
        eqb-true (next_bit 1 p.bits (g + suc k) (j - k)) (g + suc j) (and_right (leb (g % 512 + suc j) 512) _ e) in
        let i = r.inside in (
          near,
          λ x a b. page_free c p h.whole x (omega arith) (zero_clear p.bits x (search.below x a (omega arith))),
        )

    -- and where they are free it may: page 0 of the next chunk is none of them
    pub free_grow : FreeBehind p g k j → can_grow p.bits g k j ≡ true
    unfolding can_grow
    free_grow f =
        let inside = large_inside in let s = search in let high = s.high in let low = s.low in
        and_made (leb (g % 512 + suc j) 512) _
        (by_cases (dec_le (g % 512 + suc j) 512) (le-leb (g % 512 + suc j) 512)
        (λ x. absurd (free_off p (512 * (g / 512 + 1)) (f (512 * (g / 512 + 1)) (omega arith) (omega arith)) (omega arith))))
        (by_cases (dec_lt (next_bit 1 p.bits (g + suc k) (j - k)) (g + suc j))
        (λ x. absurd (false≢true (sym (free_clear p (next_bit 1 p.bits (g + suc k) (j - k)) (f _ low x)) ∙ one_set p.bits _ (s.here x))))
        (λ x. eq-eqb (next_bit 1 p.bits (g + suc k) (j - k)) (g + suc j) (omega arith)))

  -- ---- pages enough, where the run is given back

  abbrev pub gone : Pool
  gone = put_run 0 p g (zeros (suc k))

  pub shrink_room : (j : ℕ) → j < k → PagesFree c gone g (suc j)
  shrink_room j l =
      let (e, f) = large_ends c p h.whole r in
      record {
        some = omega arith;
        few = omega arith;
        inside = omega arith;
        clear = λ i a b. (free_large c p h g k r).were i a (omega arith);
      }

  pub grow_room : (j : ℕ) → k ≤ j → g % 512 + suc j ≤ 512 → FreeBehind p g k j → PagesFree c gone g (suc j)
  grow_room j l near f =
      let off = large_off in let i = r.inside in let flip = free_large c p h g k r in
      record {
        some = omega arith;
        few = omega arith;
        inside = omega arith;
        clear =
            λ i a b.
            by_cases (dec_lt i (g + suc k)) (λ x. flip.were i a x) (λ x. flip.others i (inr (omega arith)) ∙ f i (omega arith) b);
      }

-- ---- what a change tells of what starts at a place

abbrev pub ChangeOk : ℕ → Pool → Spot → ℕ → Change → Type 0
ChangeOk c p x n (Refuse r) = 1 ≤ r
ChangeOk c p x n (Stay z) = (size_at x ≡ sized 0 z) × (n ≤ z)
ChangeOk c p x n (Recut g k j) = (x ≡ Run g k) × PagesFree c (put_run 0 p g (zeros (suc k))) g (suc j) × (n ≤ 4096 * suc j)
ChangeOk c p x n (Move z) = size_at x ≡ sized 0 z

module _ (c : ℕ) (p : Pool) (h : Good c p) (n : ℕ) where
  pages_ok : (g k : ℕ) → IsLarge c p g k → (j : ℕ) → n ≤ 4096 * suc j → ChangeOk c p (Run g k) n (fit_pages p.bits g k j)
  unfolding fit_pages
  pages_ok g k r j l =
      eq_cases (ChangeOk c p (Run g k) n) j k (λ e. (refl, omega arith))
      (λ e. lt_cases (ChangeOk c p (Run g k) n) j k (λ f. (refl, shrink_room c p h g k r j f, l))
      (λ f. go f (can_grow p.bits g k j) refl))
    where
      go : k ≤ j → (v : Bool) → can_grow p.bits g k j ≡ v → ChangeOk c p (Run g k) n (cond v (Recut g k j) (Move (4096 * suc k)))
      go f true e = let (near, free) = grow_free c p h g k r j f e in (refl, grow_room c p h g k r j f near free, l)
      go f false e = refl

  run_ok : (g k : ℕ) → IsLarge c p g k → n ≤ 2093056 → ChangeOk c p (Run g k) n (fit_run p.bits g k n)
  unfolding fit_run
  run_ok g k r l = le_cases (ChangeOk c p (Run g k) n) n 3072 (λ e. refl) (λ e. pages_ok g k r (pages_for n - 1) (omega arith))

  slot_ok : (g b s : ℕ) → ChangeOk c p (Slot g b s) n (fit_slot b n)
  unfolding fit_slot
  slot_ok g b s =
      le_cases (ChangeOk c p (Slot g b s) n) n 3072
      (λ l. eq_cases (ChangeOk c p (Slot g b s) n) (class_for n) b
      (λ e. (refl, subst (λ (d : ℕ). n ≤ size d) e (class_smallest n l).holds)) (λ e. refl))
      (λ l. refl)

  pub change_ok : (q : ℕ) (x : Spot) → There c p q x → ChangeOk c p x n (change p.bits x n)
  unfolding change
  change_ok q (Nowhere r) none = omega arith
  change_ok q (Nowhere r) (idle g b s x at) = omega arith
  change_ok q (Run g k) (r, at) = le_cases (ChangeOk c p (Run g k) n) n 2093056 (run_ok g k r) (λ l. omega arith)
  change_ok q (Slot g b s) (r, at) = le_cases (ChangeOk c p (Slot g b s) n) n 2093056 (λ l. slot_ok g b s) (λ l. omega arith)
