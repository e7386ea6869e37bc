-- The definitions as the code reaches them, one law a way out. Assumes nothing.
use mathlib.Core.Path.{◌≡◌, refl, sym, ap, ap₂, ◌∙◌, subst, subst⁻¹}
use mathlib.Core.Logic.{◌≢◌}
use mathlib.Core.Bool.{Bool, true, false, cond, ◌&&◌}
use mathlib.Core.List.{List}
use Prim.Native.Nat.{ℕ, zero, suc, ◌+◌, ◌-◌, ◌*◌, ◌%◌, ◌≤◌, ◌<◌}
use native.Mathlib.Omega.{arith}
use lib.Dec.{eqb}
use lib.ListN.{length}
use borrow.Author.Tests.{le-leb, lt-leb}
use Rattle.refusals.specs.Refusals.{too_big}
use Rattle.bitrow.specs.Row.{next_bit}
use Rattle.classes.specs.Classes.{size, class_for}
use Rattle.records.specs.declared.Kind.TheVariants.{Large}
use Rattle.records.specs.Kinds.{zeros, words_of}
use Rattle.records.specs.Pool.{Pool}
use Rattle.records.specs.Calls.{admit_of, Left, leaves}
use Rattle.records.proofs.Flags.{cond_eq, cond_ne, cond_lt, cond_nlt, cond_le, cond_nle}
use Rattle.records.proofs.RunLaws.{class_at_low}
use Rattle.records.proofs.AdmitLaws.{admitted, shaped_lengths}
use Rattle.blocks.specs.Blocks.{Block, block, IsLarge, live, Ins}
use Rattle.blocks.specs.Stores.{put_run, LargeRoom, Good}
use Rattle.blocks.proofs.StoreLaws.{run_fit}
use Rattle.blocks.proofs.KeepLaws.{admit_good}
use Rattle.reserve.specs.Reserve.{pages_for, serve, reserve_of}
use Rattle.reserve.specs.Plans.{PagesFree}
use Rattle.reserve.proofs.ReadyLaws.{serve_kept, reserve_serve, reserve_gains}
use Rattle.reserve.proofs.StoreForms.{large_room}
use Rattle.reserve.specs.declared.Reserved.{Reserved}
use Rattle.release.specs.declared.Spot.{Spot}
use Rattle.release.specs.declared.Spot.TheVariants.{Nowhere, Run, Slot}
use Rattle.release.specs.Release.{spot, give, release_of}
use Rattle.release.proofs.GiveLaws.{There, there, large_ends, large_zeros}
use Rattle.release.proofs.MeanLaws.{block_at, release_give}
use Rattle.resize.specs.declared.Change.{Change}
use Rattle.resize.specs.declared.Change.TheVariants.{Refuse, Stay, Recut, Move}
use Rattle.resize.specs.Resize.{can_grow, fit_pages, fit_run, fit_slot, change, recut, refused, kept, moved, done, resize}
use Rattle.resize.specs.Resize as Resize
use Rattle.resize.specs.declared.Resized.{Resized}
use Rattle.resize.specs.declared.Settled.{Settled}
use Rattle.resize.specs.declared.Settled.TheVariants.{Over, Moving}
use Rattle.resize.specs.Settle.{SpotLow, settled, Tells, over, moving}
use Rattle.resize.proofs.ChangeLaws.{large_inside, ChangeOk, change_ok}
use Rattle.resize.proofs.MeanLaws.{moving_by, moving_frees}

-- ---- a large run

module _ (bits : List ℕ) (g k j : ℕ) where
  abbrev Ahead : Bool
  Ahead = eqb (next_bit 1 bits (g + suc k) (j - k)) (g + suc j)

  pub grow_far : 512 < g % 512 + j + 1 → false ≡ can_grow bits g k j
  unfolding can_grow
  grow_far h = sym (ap (λ (v : Bool). v && Ahead) (lt-leb (g % 512 + suc j) 512 (omega arith)))

  pub grow_near : g % 512 + j + 1 ≤ 512 → {r : ℕ} → r ≡ next_bit 1 bits (g + k + 1) (g + j + 1 - (g + k + 1)) → eqb r (g + j + 1) ≡ can_grow bits g k j
  unfolding can_grow
  grow_near h e =
      let a : g + k + 1 ≡ g + suc k = omega arith in
      let b : g + j + 1 - (g + k + 1) ≡ j - k = omega arith in
      let d : g + j + 1 ≡ g + suc j = omega arith in
      ap₂ eqb (e ∙ ap₂ (next_bit 1 bits) a b) d ∙ sym (ap (λ (v : Bool). v && Ahead) (le-leb (g % 512 + suc j) 512 (omega arith)))

  pub pages_same : j ≡ k → {z : ℕ} → z ≡ k + 1 → Stay (4096 * z) ≡ fit_pages bits g k j
  unfolding fit_pages
  pages_same e {z} f = let d : 4096 * z ≡ 4096 * suc k = omega arith in ap Stay d ∙ sym (cond_eq j k _ _ e)

  pub pages_fewer : j < k → Recut g k j ≡ fit_pages bits g k j
  unfolding fit_pages
  pages_fewer h = sym (cond_ne j k _ _ (omega arith) ∙ cond_lt j k _ _ h)

  module _ (d : j ≢ k) (l : k ≤ j) {v : Bool} (e : v ≡ can_grow bits g k j) where
    pages_more : fit_pages bits g k j ≡ cond v (Recut g k j) (Move (4096 * suc k))
    unfolding fit_pages
    pages_more =
        cond_ne j k _ _ d ∙ cond_nlt j k _ _ l ∙ ap (λ (u : Bool). cond u (Recut g k j) (Move (4096 * suc k))) (sym e)

    pub pages_free : v ≡ true → Recut g k j ≡ fit_pages bits g k j
    pages_free f = sym (pages_more ∙ ap (λ (u : Bool). cond u (Recut g k j) (Move (4096 * suc k))) f)

    pub pages_taken : v ≡ false → {z : ℕ} → z ≡ k + 1 → Move (4096 * z) ≡ fit_pages bits g k j
    pages_taken f {z} x =
        let y : 4096 * z ≡ 4096 * suc k = omega arith in
        ap Move y ∙ sym (pages_more ∙ ap (λ (u : Bool). cond u (Recut g k j) (Move (4096 * suc k))) f)

module _ (bits : List ℕ) (g k n : ℕ) where
  pub run_small : n ≤ 3072 → {z : ℕ} → z ≡ k + 1 → Move (4096 * z) ≡ fit_run bits g k n
  unfolding fit_run
  run_small l {z} e = let d : 4096 * z ≡ 4096 * suc k = omega arith in ap Move d ∙ sym (cond_le n 3072 _ _ l)

  pub run_large : 3072 < n → {m : ℕ} → m ≡ pages_for n → {x : Change} → x ≡ fit_pages bits g k (m - 1) → x ≡ fit_run bits g k n
  unfolding fit_run
  run_large l f e = e ∙ ap (λ (i : ℕ). fit_pages bits g k (i - 1)) f ∙ sym (cond_nle n 3072 _ _ l)

-- ---- a slot

module _ (b n : ℕ) {z : ℕ} (e : z ≡ size b) where
  module _ (l : n ≤ 3072) {d : ℕ} (f : d ≡ class_for n) where
    pub slot_same : d ≡ b → Stay z ≡ fit_slot b n
    unfolding fit_slot
    slot_same x = ap Stay e ∙ sym (cond_le n 3072 _ _ l ∙ cond_eq (class_for n) b _ _ (sym f ∙ x))

    pub slot_other : d ≢ b → Move z ≡ fit_slot b n
    unfolding fit_slot
    slot_other x = ap Move e ∙ sym (cond_le n 3072 _ _ l ∙ cond_ne (class_for n) b _ _ (λ y. x (f ∙ y)))

  pub slot_large : 3072 < n → Move z ≡ fit_slot b n
  unfolding fit_slot
  slot_large l = ap Move e ∙ sym (cond_nle n 3072 _ _ l)

-- ---- what starts at a place, as it was matched

module _ (bits : List ℕ) (n : ℕ) {x : Spot} where
  change_as : {y : Spot} {z : Change} → x ≡ y → z ≡ change bits y n → z ≡ change bits x n
  change_as e f = f ∙ ap (λ (w : Spot). change bits w n) (sym e)

  pub change_none : {r : ℕ} → x ≡ Nowhere r → Refuse r ≡ change bits x n
  unfolding change
  change_none e = change_as e refl

  pub run_big : {g k : ℕ} → x ≡ Run g k → 2093056 < n → Refuse too_big ≡ change bits x n
  unfolding change
  run_big e l = change_as e (sym (cond_nle n 2093056 _ _ l))

  pub run_fits : {g k : ℕ} → x ≡ Run g k → n ≤ 2093056 → {z : Change} → z ≡ fit_run bits g k n → z ≡ change bits x n
  unfolding change
  run_fits e l f = change_as e (f ∙ sym (cond_le n 2093056 _ _ l))

  pub slot_big : {g b s : ℕ} → x ≡ Slot g b s → 2093056 < n → Refuse too_big ≡ change bits x n
  unfolding change
  slot_big e l = change_as e (sym (cond_nle n 2093056 _ _ l))

  pub slot_fits : {g b s : ℕ} → x ≡ Slot g b s → n ≤ 2093056 → {z : Change} → z ≡ fit_slot b n → z ≡ change bits x n
  unfolding change
  slot_fits e l f = change_as e (f ∙ sym (cond_le n 2093056 _ _ l))

pub low_as : (n : ℕ) {x y : Spot} → x ≡ y → SpotLow n x → SpotLow n y
low_as n e h = subst (SpotLow n) e h

pub spot_low : (c : ℕ) (p : Pool) → admit_of c p ≡ 0 → (q : ℕ) {x : Spot} → x ≡ spot c p q → SpotLow (length p.bits) x
spot_low c p ok q {x} e = go x (subst (There c p q) (sym e) (there c p q))
  where
    go : (y : Spot) → There c p q y → SpotLow (length p.bits) y
    go (Nowhere r) t = tt
    go (Run g k) (r, at) =
        let s = (admitted c p ok).shape in let i = r.inside in
        (record { low = omega arith; whole = omega arith }, large_inside c p (admit_good c p ok) g k r)
    go (Slot g b s) (r, at) = class_at_low p g b r.kind

-- ---- a run that is cut anew

-- what the two stores rely on
pub run_room : (c : ℕ) (p : Pool) → admit_of c p ≡ 0 → {g k : ℕ} → IsLarge c p g k → LargeRoom g k p.bits p.words
run_room c p ok r =
    let a = admitted c p ok in let h = a.shape in let (e, f) = large_ends c p a.whole r in
    record { few = f; low = omega arith; bit = omega arith; word = omega arith; zero = large_zeros c p a.whole r }

pub pages_room : (c : ℕ) (p : Pool) → admit_of c p ≡ 0 → (g k : ℕ) {j : ℕ} → PagesFree c (put_run 0 p g (zeros (suc k))) g (suc j)
    → {w : Pool} → w ≡ put_run 0 p g (zeros (suc k)) → LargeRoom g j w.bits w.words
pages_room c p ok g k {j} f e =
    subst (λ (u : Pool). LargeRoom g j u.bits u.words) (sym e)
    (large_room (shaped_lengths c _ _ _ (sym (run_fit c 0 p g (zeros (suc k))) ∙ (admit_good c p ok).shape)) f)

pub recut_as : (p : Pool) (g k j : ℕ) {w u : Pool} → w ≡ put_run 0 p g (zeros (suc k)) → u ≡ put_run 1 w g (words_of (Large j)) → u ≡ recut p g k j
unfolding recut
recut_as p g k j e f = f ∙ ap (λ (x : Pool). put_run 1 x g (words_of (Large j))) e

-- ---- up to a move

-- x is what starts at the place q, and y what becomes of it
module _ (c : ℕ) (p : Pool) (q n : ℕ) (x : Spot) {y : Change} (e : y ≡ change p.bits x n) where
  -- the run is there, and where it is given back there are pages enough
  pub recut_there : admit_of c p ≡ 0 → x ≡ spot c p q → {g k j : ℕ} → y ≡ Recut g k j
      → IsLarge c p g k × PagesFree c (put_run 0 p g (zeros (suc k))) g (suc j)
  recut_there ok s {g} {k} {j} m =
      let t = subst (There c p q) (sym s) (there c p q) in
      let (is, free, l) : ChangeOk c p x n (Recut g k j) = subst (ChangeOk c p x n) (sym e ∙ m) (change_ok c p (admit_good c p ok) n q x t) in
      let (r, at) : IsLarge c p g k × _ = subst (There c p q) is t in (r, free)

  abbrev Leaves : Pool → Settled → Type 0
  Leaves w t = (w ≡ settled p (change p.bits x n)) × Tells c p q n (change p.bits x n) t

  leaves_as : {z : Change} → y ≡ z → {w : Pool} {t : Settled} → w ≡ settled p z → Tells c p q n z t → Leaves w t
  leaves_as m {w} {t} f h =
      let a = sym m ∙ e in (f ∙ ap (settled p) a, subst (λ (u : Change). Tells c p q n u t) a h)

  pub settle_refused : {r : ℕ} → y ≡ Refuse r → {a : Resized} → a ≡ refused r → Leaves p (Over a)
  unfolding settled done
  settle_refused m f = leaves_as m refl (over refl (ap (λ (b : Resized). leaves b p) f))

  pub settle_kept : {z : ℕ} → y ≡ Stay z → {a : Resized} → a ≡ kept q z → Leaves p (Over a)
  unfolding settled done
  settle_kept m f = leaves_as m refl (over refl (ap (λ (b : Resized). leaves b p) f))

  pub settle_recut : {g k j : ℕ} → y ≡ Recut g k j → {w : Pool} → w ≡ recut p g k j → {s : ℕ} → s ≡ j + 1 → {a : Resized} → a ≡ kept q (4096 * s)
      → Leaves w (Over a)
  unfolding settled done
  settle_recut {g} {k} {j} m f {s} h i =
      let d : 4096 * s ≡ 4096 * suc j = omega arith in
      leaves_as m f (over refl (ap (λ (b : Resized). leaves b (recut p g k j)) (i ∙ ap (kept q) d)))

  pub settle_move : {z : ℕ} → y ≡ Move z → Leaves p (Moving z)
  unfolding settled
  settle_move m = leaves_as m refl moving

-- ---- the work

module _ (c : ℕ) (p : Pool) (q n : ℕ) {x : Spot} (s : x ≡ spot c p q) {w : Pool} (left : w ≡ settled p (change p.bits x n))
    {t : Settled} (told : Tells c p q n (change p.bits x n) t) where
  -- it is over
  pub resize_over : {r : Resized} → t ≡ Over r → leaves r w ≡ resize c p q n
  unfolding resize
  resize_over {r} m = go (change p.bits x n) (ap (λ (y : Spot). change p.bits y n) s) left (subst (Tells c p q n (change p.bits x n)) m told)
    where
      go : (y : Change) → y ≡ change p.bits (spot c p q) n → w ≡ settled p y → Tells c p q n y (Over r) → leaves r w ≡ resize c p q n
      go y e f (over _ g) = ap (leaves r) f ∙ g ∙ ap (done c p q n) e

  -- or the block is still where it was, to be moved
  pub still_there : {z : ℕ} → t ≡ Moving z → w ≡ p
  unfolding settled
  still_there {z} m = go (change p.bits x n) left (subst (Tells c p q n (change p.bits x n)) m told)
    where
      go : (y : Change) → w ≡ settled p y → Tells c p q n y (Moving z) → w ≡ p
      go y f moving = f

  pub still_live : Good c p → {z : ℕ} → t ≡ Moving z → (k : List Block) × Ins (block q z) k (live c p)
  still_live h {z} m = go (change p.bits x n) (change_ok c p h n q x here) (subst (Tells c p q n (change p.bits x n)) m told)
    where
      here : There c p q x
      here = subst⁻¹ (There c p q) s (there c p q)

      go : (y : Change) → ChangeOk c p x n y → Tells c p q n y (Moving z) → (k : List Block) × Ins (block q z) k (live c p)
      go y k moving = (_, (block_at c p h q x here z k).less)

  pub resize_moves : {z : ℕ} → t ≡ Moving z → {r : Left Resized Pool} → r ≡ Resize.moving c w q z n → r ≡ resize c p q n
  unfolding resize done
  resize_moves {z} m {r} f =
      go (change p.bits x n) (ap (λ (y : Spot). change p.bits y n) s) (subst (Tells c p q n (change p.bits x n)) m told)
    where
      go : (y : Change) → y ≡ change p.bits (spot c p q) n → Tells c p q n y (Moving z) → r ≡ resize c p q n
      go y e moving = f ∙ ap (λ (u : Pool). Resize.moving c u q z n) (still_there m) ∙ ap (done c p q n) e

-- ---- a move, as it was made: the reserve answered r and left u

module _ (c : ℕ) (p : Pool) (ok : admit_of c p ≡ 0) (n : ℕ) {r : Reserved} {u : Pool} (f : leaves r u ≡ serve c p n) where
  reserved : leaves r u ≡ reserve_of c p n
  reserved = f ∙ sym (reserve_serve c p (admit_good c p ok) n)

  number : {m : ℕ} → r.refusal ≡ m → (reserve_of c p n).answer.refusal ≡ m
  number e = ap (λ (x : Left Reserved Pool). x.answer.refusal) (sym reserved) ∙ e

  pub move_refused : (q z : ℕ) → r.refusal ≢ 0 → {a : Resized} → a ≡ refused r.refusal → leaves a u ≡ Resize.moving c p q z n
  move_refused q z d {a} e = go r.refusal refl
    where
      go : (m : ℕ) → r.refusal ≡ m → leaves a u ≡ Resize.moving c p q z n
      go zero g = absurd (d g)
      go (suc m) g =
          let no = ap (λ (x : Left Reserved Pool). x.answer.refusal) (sym f) ∙ g in
          let k : u ≡ p = ap (λ (x : Left Reserved Pool). x.left) (f ∙ serve_kept c p n m no) in
          ap₂ (λ (x : Resized) (y : Pool). leaves x y) (e ∙ ap refused g) k ∙ sym (moving_by c p q z n (number g))

  module _ (e : r.refusal ≡ 0) where
    pub move_good : Good c u
    move_good = subst (Good c) (ap (λ (x : Left Reserved Pool). x.left) (sym reserved)) (reserve_gains c p (admit_good c p ok) n (number e)).good

    -- the block that was there is live until it is given back
    pub move_frees : (q z : ℕ) {k : List Block} → Ins (block q z) k (live c p) → (give c u q).answer ≡ 0
    move_frees q z i =
        ap (λ (x : Left ℕ Pool). x.answer) (sym (release_give c u move_good q))
        ∙ ap (λ (x : Left Reserved Pool). (release_of c x.left q).answer) reserved ∙ moving_frees c p q z n (admit_good c p ok) i (number e)

    pub move_served : (q z : ℕ) {v : Pool} {b : ℕ} → leaves b v ≡ give c u q → {a : Resized} → a ≡ moved r z n
        → leaves a v ≡ Resize.moving c p q z n
    move_served q z {v} g h =
        let k : v ≡ (release_of c (reserve_of c p n).left q).left =
        ap (λ (x : Left ℕ Pool). x.left) (g ∙ sym (release_give c u move_good q))
        ∙ ap (λ (x : Left Reserved Pool). (release_of c x.left q).left) reserved in
        ap₂ (λ (x : Resized) (y : Pool). leaves x y) (h ∙ ap (λ (x : Left Reserved Pool). moved x.answer z n) reserved) k
        ∙ sym (moving_by c p q z n (number e))
