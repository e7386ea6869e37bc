-- What a resize does to sound records. Assumes nothing.
use mathlib.Core.Path.{◌≡◌, refl, sym, ap, ap₂, ◌∙◌, subst}
use mathlib.Core.Logic.{◌≢◌}
use mathlib.Core.List.{List, Memᴰ}
use Prim.Native.Nat.{ℕ, zero, suc, ◌*◌}
use native.Mathlib.Omega.{arith}
use Rattle.refusals.specs.Refusals.{unless}
use Rattle.refusals.proofs.CallLaws as calls
use Rattle.records.specs.Pool.{Pool}
use Rattle.records.specs.Calls.{admit_of, Left, leaves}
use Rattle.blocks.specs.Blocks.{Block, block, run_block, IsLarge, live, Ins}
use Rattle.blocks.specs.Stores.{Good, Loses, Swaps}
use Rattle.blocks.proofs.ApartLaws.{live_is}
use Rattle.blocks.proofs.KeepLaws.{put_large, give_large, good_admit}
use Rattle.blocks.proofs.SwapLaws.{ins_in, ins_still, give_take, take_give}
use Rattle.reserve.specs.Reserve.{reserve_of}
use Rattle.reserve.specs.Plans.{PagesFree}
use Rattle.reserve.proofs.ReadyLaws.{reserve_gains}
use Rattle.release.specs.declared.Spot.{Spot}
use Rattle.release.specs.Release.{spot, give, release_of, sized, size_at}
use Rattle.release.proofs.GiveLaws.{There, there}
use Rattle.release.proofs.MeanLaws.{block_at, give_loses, release_give, live_served, one_size}
use Rattle.resize.specs.declared.Change.{Change}
use Rattle.resize.specs.declared.Change.TheVariants.{Refuse, Stay, Recut, Move}
use Rattle.resize.specs.declared.Resized.{Resized}
use Rattle.resize.specs.Resize.{change, recut, refused, moved, moving, done, resize, resize_of}
use Rattle.resize.proofs.ChangeLaws.{gone, ChangeOk, change_ok}

-- ---- a run that is cut anew

pub recut_swaps : (c : ℕ) (p : Pool) (h : Good c p) (g k : ℕ) (r : IsLarge c p g k) (j : ℕ) → PagesFree c (gone c p h g k r) g (suc j)
    → Swaps c p (recut p g k j) (run_block g k) (run_block g j)
unfolding recut
recut_swaps c p h g k r j f =
    let l = give_large c p h g k r in let few = f.few in
    give_take l (put_large c (gone c p h g k r) l.good g j (omega arith) f.inside f.clear)

-- ---- a move

module _ (c : ℕ) (p : Pool) (q z n : ℕ) where
  -- by the number that the reserve answers
  abbrev Told : ℕ → Left Resized Pool
  Told m =
      unless m (λ r. leaves (refused r) p) (leaves (moved (reserve_of c p n).answer z n) (release_of c (reserve_of c p n).left q).left)

  pub moving_by : {m : ℕ} → (reserve_of c p n).answer.refusal ≡ m → moving c p q z n ≡ Told m
  unfolding moving
  moving_by e = ap Told e

  -- it is not kept
  pub moving_how : (moving c p q z n).answer.how ≡ 1 → ⊥
  moving_how e = go (reserve_of c p n).answer.refusal refl
    where
      go : (m : ℕ) → (reserve_of c p n).answer.refusal ≡ m → ⊥
      go zero f = let a : ◌≡◌ {A = ℕ} 2 1 = ap (λ (x : Left Resized Pool). x.answer.how) (sym (moving_by f)) ∙ e in omega arith
      go (suc m) f = let a : ◌≡◌ {A = ℕ} 0 1 = ap (λ (x : Left Resized Pool). x.answer.how) (sym (moving_by f)) ∙ e in omega arith

  -- the block is live while the new one is reserved
  pub moving_frees : Good c p → {k : List Block} → Ins (block q z) k (live c p) → (reserve_of c p n).answer.refusal ≡ 0
      → (release_of c (reserve_of c p n).left q).answer ≡ 0
  moving_frees h i e =
      let g = reserve_gains c p h n e in
      live_served c (reserve_of c p n).left g.good (live_is c (reserve_of c p n).left (ins_still g.more (ins_in i)))

  -- and so it is the one that is released
  pub moving_swaps : Good c p → {k : List Block} → Ins (block q z) k (live c p) → (moving c p q z n).answer.refusal ≡ 0
      → Swaps c p (moving c p q z n).left (block q z) (block (moving c p q z n).answer.place (moving c p q z n).answer.size)
  moving_swaps h i e = go (reserve_of c p n).answer.refusal refl
    where
      old : Block
      old = block q z

      went : (r : Pool) → Good c r → Memᴰ old (live c r) → Loses c r (release_of c r q).left old
      went r good m =
          let is = live_is c r m in let s = release_give c r good q in
          let (b, at, size, l) = give_loses c r good q (ap (λ (x : Left ℕ Pool). x.answer) (sym s) ∙ live_served c r good is) in
          let same : b ≡ old = ap₂ block at (one_size c r good (live_is c r (ins_in l.less)) is at) in
          subst (λ (x : Left ℕ Pool). Loses c r x.left old) (sym s) (subst (Loses c r (give c r q).left) same l)

      go : (m : ℕ) → (reserve_of c p n).answer.refusal ≡ m
          → Swaps c p (moving c p q z n).left old (block (moving c p q z n).answer.place (moving c p q z n).answer.size)
      go zero f =
          let g = reserve_gains c p h n f in
          subst (λ (x : Left Resized Pool). Swaps c p x.left old (block x.answer.place x.answer.size)) (sym (moving_by f))
          (take_give i g (went (reserve_of c p n).left g.good (ins_still g.more (ins_in i))))
      go (suc m) f = let a : suc m ≡ 0 = ap (λ (x : Left Resized Pool). x.answer.refusal) (sym (moving_by f)) ∙ e in absurd (omega arith)

  -- where it is refused, nothing changes
  pub moving_kept : (r : ℕ) → (moving c p q z n).answer.refusal ≡ suc r → moving c p q z n ≡ leaves (refused (suc r)) p
  moving_kept r e = go (reserve_of c p n).answer.refusal refl
    where
      go : (m : ℕ) → (reserve_of c p n).answer.refusal ≡ m → moving c p q z n ≡ leaves (refused (suc r)) p
      go zero f = let a : 0 ≡ suc r = ap (λ (x : Left Resized Pool). x.answer.refusal) (sym (moving_by f)) ∙ e in absurd (omega arith)
      go (suc m) f =
          moving_by f
          ∙ ap (λ (k : ℕ). leaves (refused k) p) (ap (λ (x : Left Resized Pool). x.answer.refusal) (sym (moving_by f)) ∙ e)

-- ---- the work

module _ (c : ℕ) (p : Pool) (h : Good c p) (q n : ℕ) where
  -- one that is served: the answered block, and no other, is live in place of the one that was there, of z bytes
  abbrev Swapped : Spot → Left Resized Pool → Type 0
  Swapped x y = (z : ℕ) × (size_at x ≡ sized 0 z) × Swaps c p y.left (block q z) (block y.answer.place y.answer.size)

  swapped : (x : Spot) → There c p q x → (y : Change) → ChangeOk c p x n y → (done c p q n y).answer.refusal ≡ 0 → Swapped x (done c p q n y)
  unfolding done
  swapped x t (Refuse r) k e = absurd (omega arith)
  swapped x t (Stay z) (s, l) e =
      let b = block_at c p h q x t z s in (z, s, record { good = h; others = _; less = b.less; more = b.less })
  swapped x t (Recut g k j) (is, free, l) e =
      let (r, at) : IsLarge c p g k × _ = subst (There c p q) is t in (
        4096 * suc k,
        ap size_at is,
        subst (λ (a : ℕ). Swaps c p (recut p g k j) (block a (4096 * suc k)) (block a (4096 * suc j))) at (recut_swaps c p h g k r j free),
      )
  swapped x t (Move z) s e = (z, s, moving_swaps c p q z n h (block_at c p h q x t z s).less e)

  pub resize_swaps : (resize c p q n).answer.refusal ≡ 0 → Swapped (spot c p q) (resize c p q n)
  unfolding resize
  resize_swaps e =
      let t = there c p q in swapped (spot c p q) t (change p.bits (spot c p q) n) (change_ok c p h n q (spot c p q) t) e

-- one that is refused changes nothing
pub resize_kept : (c : ℕ) (p : Pool) (q n r : ℕ) → (resize c p q n).answer.refusal ≡ suc r → resize c p q n ≡ leaves (refused (suc r)) p
unfolding resize done
resize_kept c p q n r e = go (change p.bits (spot c p q) n) e
  where
    go : (y : Change) → (done c p q n y).answer.refusal ≡ suc r → done c p q n y ≡ leaves (refused (suc r)) p
    go (Refuse m) e = ap (λ (k : ℕ). leaves (refused k) p) e
    go (Stay z) e = absurd (omega arith)
    go (Recut g k j) e = absurd (omega arith)
    go (Move z) e = moving_kept c p q z n r e

-- one that keeps the block leaves it at its place
pub resize_place : (c : ℕ) (p : Pool) (q n : ℕ) → (resize c p q n).answer.how ≡ 1 → (resize c p q n).answer.place ≡ q
unfolding resize done
resize_place c p q n e = go (change p.bits (spot c p q) n) e
  where
    go : (y : Change) → (done c p q n y).answer.how ≡ 1 → (done c p q n y).answer.place ≡ q
    go (Refuse r) e = absurd (omega arith)
    go (Stay z) e = refl
    go (Recut g k j) e = refl
    go (Move z) e = absurd (moving_how c p q z n e)

-- ---- the call

-- behind the check, which answered a
module _ (c : ℕ) (p : Pool) (q n a : ℕ) (e : a ≡ admit_of c p) where
  pub resize_refused : a ≢ 0 → {x : Resized} → x ≡ refused a → leaves x p ≡ resize_of c p q n
  unfolding resize_of
  resize_refused z f = ap (λ (x : Resized). leaves x p) f ∙ calls.refused (admit_of c p) a (λ r. leaves (refused r) p) (resize c p q n) e z

  pub resize_served : a ≡ 0 → {x : Left Resized Pool} → x ≡ resize c p q n → x ≡ resize_of c p q n
  unfolding resize_of
  resize_served z f = f ∙ calls.served (admit_of c p) a (λ r. leaves (refused r) p) (resize c p q n) e z

-- on a good pool
pub resize_serve : (c : ℕ) (p : Pool) → Good c p → (q n : ℕ) → resize_of c p q n ≡ resize c p q n
resize_serve c p h q n = sym (resize_served c p q n 0 (sym (good_admit c p h)) refl refl)

pub resize_good : (c : ℕ) (p : Pool) → Good c p → (q n : ℕ) → Good c (resize_of c p q n).left
resize_good c p h q n =
    subst (λ (x : Left Resized Pool). Good c x.left) (sym (resize_serve c p h q n)) (go (resize c p q n).answer.refusal refl)
  where
    go : (r : ℕ) → (resize c p q n).answer.refusal ≡ r → Good c (resize c p q n).left
    go zero e = (resize_swaps c p h q n e).2.good
    go (suc r) e = subst (λ (x : Left Resized Pool). Good c x.left) (sym (resize_kept c p q n r e)) h
