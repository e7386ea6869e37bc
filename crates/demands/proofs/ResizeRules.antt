-- Demand 2: a resize, rule by rule. Assumes nothing.
use mathlib.Core.Path.{◌≡◌, refl, sym, ap, ◌∙◌, subst}
use mathlib.Core.Logic.{◌≢◌, ◌↔◌, inl, inr, ⊎_elim, by_cases}
use mathlib.Core.Bool.{Bool, true, false, false≢true}
use Prim.Native.Nat.{ℕ, suc, ◌+◌, ◌-◌, ◌*◌, ◌≤◌, ◌<◌}
use native.Mathlib.Decide.{ℕ_discrete, dec_lt}
use native.Mathlib.Omega.{arith}
use Rattle.refusals.specs.Refusals.{too_big}
use Rattle.classes.specs.Classes.{size, class_for, Smallest}
use Rattle.classes.proofs.ClassLaws.{row_facts, class_smallest, smallest_once}
use Rattle.records.specs.Kinds.{zeros}
use Rattle.records.specs.Pool.{Pool}
use Rattle.records.specs.Calls.{Left, leaves}
use Rattle.blocks.specs.Blocks.{block, slot_block, run_block, IsSlot, IsLarge}
use Rattle.blocks.specs.Stores.{put_run, Good, Swaps}
use Rattle.blocks.proofs.ApartLaws.{live_rising}
use Rattle.blocks.proofs.KeepLaws.{free_large, take_large, give_large}
use Rattle.blocks.proofs.SwapLaws.{ins_apart}
use Rattle.reserve.specs.declared.Reserved.{Reserved}
use Rattle.reserve.specs.Reserve.{pages_for, reserve_of}
use Rattle.reserve.specs.Plans.{PagesFree}
use Rattle.reserve.proofs.ReadyLaws.{reserve_gains}
use Rattle.release.specs.declared.Spot.{Spot}
use Rattle.release.specs.declared.Spot.TheVariants.{Nowhere, Run, Slot}
use Rattle.release.specs.declared.Sized.{Sized}
use Rattle.release.specs.Release.{spot, released, release_of, size_of}
use Rattle.release.proofs.GiveLaws as places
use Rattle.release.proofs.MeanLaws.{release_by, size_by}
use Rattle.resize.specs.declared.Change.{Change}
use Rattle.resize.specs.declared.Resized.{Resized}
use Rattle.resize.specs.Resize.{FreeBehind, can_grow, fit_pages, change, recut, kept, moving, done, resize, resize_of}
use Rattle.resize.specs.Resize as resizing
use Rattle.resize.proofs.ChangeLaws.{grow_free, free_grow, grow_room, shrink_room}
use Rattle.resize.proofs.MeanLaws.{resize_swaps, resize_serve, moving_by, moving_how}
use Rattle.resize.proofs.Forms as forms
use Rattle.demands.specs.Demand2.{TakesRun, Reserves, at_once, sweep_first, finds_no_room, size_too_big, Recuts, Copies}
use Rattle.demands.specs.Demand2.{Moves, other_class, slot_enough, pages_taken}
use Rattle.demands.specs.Demand2.{Resizes, none_there, over_most, slot_stays, run_stays, run_shrinks, run_grows, moves, cannot_move}
use Rattle.demands.proofs.ReserveRules.{fewest_once, fewest_made, place_served, rule, size_holds}
use Rattle.demands.proofs.PlaceRules.{large_at, slot_at}

module _ (c : ℕ) (p : Pool) (h : Good c p) (q n : ℕ) where
  -- by what starts at the place, and what becomes of it
  resize_by : (x : Spot) → spot c p q ≡ x → {y : Change} → y ≡ change p.bits x n → resize_of c p q n ≡ done c p q n y
  unfolding resize
  resize_by x s e =
      resize_serve c p h q n ∙ ap (λ (z : Spot). done c p q n (change p.bits z n)) s ∙ ap (done c p q n) (sym e)

  -- the pages that are taken, less one, as they are calculated
  takes_is : (j : ℕ) → TakesRun n (suc j) → pages_for n - 1 ≡ j
  takes_is j t = let e = fewest_once n (suc j) t.large t.fewest in omega arith

  -- ---- a large run

  module _ (g k : ℕ) (r : IsLarge c p g k) (at : (run_block g k).place ≡ q) where
    pages_by : (j : ℕ) → TakesRun n (suc j) → {y : Change} → y ≡ fit_pages p.bits g k j → resize_of c p q n ≡ done c p q n y
    pages_by j t e =
        resize_by (Run g k) (large_at c p h q g k r at)
        (forms.run_fits p.bits n refl t.most (forms.run_large p.bits g k n t.large refl (e ∙ ap (fit_pages p.bits g k) (sym (takes_is j t)))))

    run_kept : TakesRun n (suc k) → resize_of c p q n ≡ leaves (kept q (4096 * suc k)) p
    unfolding done
    run_kept t = pages_by k t (forms.pages_same p.bits g k k refl {z = suc k} (omega arith))

    run_less : (j : ℕ) → TakesRun n (suc j) → j < k → resize_of c p q n ≡ leaves (kept q (4096 * suc j)) (recut p g k j)
    unfolding done
    run_less j t l = pages_by j t (forms.pages_fewer p.bits g k j l)

    run_more : (j : ℕ) → TakesRun n (suc j) → k < j → FreeBehind p g k j → resize_of c p q n ≡ leaves (kept q (4096 * suc j)) (recut p g k j)
    unfolding done
    run_more j t l f =
        pages_by j t (forms.pages_free p.bits g k j (omega arith) (omega arith) refl (free_grow c p h g k r j (omega arith) f))

    -- where they are not free, the block moves
    grow_not : (j : ℕ) → k < j → (FreeBehind p g k j → ⊥) → can_grow p.bits g k j ≡ false
    grow_not j l f = go (can_grow p.bits g k j) refl
      where
        go : (v : Bool) → can_grow p.bits g k j ≡ v → v ≡ false
        go true e = absurd (f (grow_free c p h g k r j (omega arith) e).1)
        go false e = refl

    run_none : (j : ℕ) → TakesRun n (suc j) → k < j → (FreeBehind p g k j → ⊥) → resize_of c p q n ≡ moving c p q (4096 * suc k) n
    unfolding done
    run_none j t l f =
        pages_by j t (forms.pages_taken p.bits g k j (omega arith) (omega arith) refl (grow_not j l f) {z = suc k} (omega arith))

    run_slot : n ≤ 3072 → resize_of c p q n ≡ moving c p q (4096 * suc k) n
    unfolding done
    run_slot l =
        resize_by (Run g k) (large_at c p h q g k r at)
        (forms.run_fits p.bits n refl (omega arith) (forms.run_small p.bits g k n l {z = suc k} (omega arith)))

    run_size : (size_of c p q).size ≡ 4096 * suc k
    run_size = ap (λ (s : Sized). s.size) (size_by c p h q (large_at c p h q g k r at))

  -- ---- a slot

  module _ (g b s : ℕ) (r : IsSlot c p g b s true) (at : (slot_block g b s).place ≡ q) where
    slot_by : n ≤ 2093056 → {y : Change} → y ≡ resizing.fit_slot b n → resize_of c p q n ≡ done c p q n y
    slot_by l e = resize_by (Slot g b s) (slot_at c p h q g b s true r at) (forms.slot_fits p.bits n {x = Slot g b s} refl l e)

    slot_kept : Smallest n b → resize_of c p q n ≡ leaves (kept q (size b)) p
    unfolding done
    slot_kept f =
        let a = (row_facts b f.class).size_most in let d = f.holds in let l : n ≤ 3072 = omega arith in
        slot_by (omega arith) (forms.slot_same b n refl l refl (smallest_once n (class_for n) b (class_smallest n l) f))

    slot_moves : n ≤ 2093056 → (Smallest n b → ⊥) → resize_of c p q n ≡ moving c p q (size b) n
    unfolding done
    slot_moves l f =
        by_cases (dec_lt 3072 n) (λ m. slot_by l (forms.slot_large b n refl m))
        (λ m. slot_by l (forms.slot_other b n refl (omega arith) refl (λ e. f (subst (Smallest n) e (class_smallest n (omega arith))))))

    slot_size : (size_of c p q).size ≡ size b
    slot_size = ap (λ (s : Sized). s.size) (size_by c p h q (slot_at c p h q g b s true r at))

  -- ---- a move

  moving_is : Moves c p q n → resize_of c p q n ≡ moving c p q (size_of c p q).size n
  moving_is (other_class g b s r at l f) = slot_moves g b s r at l f ∙ ap (λ (z : ℕ). moving c p q z n) (sym (slot_size g b s r at))
  moving_is (slot_enough g k r at l) = run_slot g k r at l ∙ ap (λ (z : ℕ). moving c p q z n) (sym (run_size g k r at))
  moving_is (pages_taken g k j r at t l f) = run_none g k r at j t l f ∙ ap (λ (z : ℕ). moving c p q z n) (sym (run_size g k r at))

  moves_most : Moves c p q n → n ≤ 2093056
  moves_most (other_class g b s r at l f) = l
  moves_most (slot_enough g k r at l) = omega arith
  moves_most (pages_taken g k j r at t l f) = t.most

  -- ---- what a rule says is what is answered and left

  refused_by : (x : Spot) → spot c p q ≡ x → (r : ℕ) → released x ≡ suc r → resize_of c p q n ≡ leaves (resizing.refused (suc r)) p
  unfolding done
  refused_by (Nowhere m) s r e =
      resize_by (Nowhere m) s (forms.change_none p.bits n refl) ∙ ap (λ (k : ℕ). leaves (resizing.refused k) p) e
  refused_by (Run g k) s r e = absurd (omega arith)
  refused_by (Slot g b t) s r e = absurd (omega arith)

  over_by : (x : Spot) → spot c p q ≡ x → released x ≡ 0 → 2093056 < n → places.There c p q x → resize_of c p q n ≡ leaves (resizing.refused too_big) p
  unfolding done
  over_by (Nowhere m) s e l places.none = absurd (omega arith)
  over_by (Nowhere m) s e l (places.idle g b t x at) = absurd (omega arith)
  over_by (Run g k) s e l t = resize_by (Run g k) s (forms.run_big p.bits n refl l)
  over_by (Slot g b t) s e l r = resize_by (Slot g b t) s (forms.slot_big p.bits n {x = Slot g b t} refl l)

  released_is : released (spot c p q) ≡ (release_of c p q).answer
  released_is = ap (λ (x : Left ℕ Pool). x.answer) (sym (release_by c p h q refl))

  pub by_change : {x : Left Resized Pool} → Resizes c p q n x → resize_of c p q n ≡ x
  by_change (none_there r e) = refused_by (spot c p q) refl r (released_is ∙ e)
  by_change (over_most e l) = over_by (spot c p q) refl (released_is ∙ e) l (places.there c p q)
  by_change (slot_stays g b s r at f) = slot_kept g b s r at f
  by_change (run_stays g k r at t) = run_kept g k r at t
  by_change (run_shrinks g k j r at t l) = run_less g k r at j t l
  by_change (run_grows g k j r at t l f) = run_more g k r at j t l f
  by_change (moves m e) = moving_is m ∙ moving_by c p q (size_of c p q).size n e
  by_change (cannot_move m e) = moving_is m ∙ moving_by c p q (size_of c p q).size n e

  -- ---- and there is a rule for each place and size

  changed : {x : Left Resized Pool} → Resizes c p q n x → Resizes c p q n (resize_of c p q n)
  changed r = subst (Resizes c p q n) (sym (by_change r)) r

  move_rule : Moves c p q n → Resizes c p q n (resize_of c p q n)
  move_rule m = go (rule c p h n) refl
    where
      go : {x : Left Reserved Pool} → Reserves c p n x → reserve_of c p n ≡ x → Resizes c p q n (resize_of c p q n)
      go (at_once r) e = changed (moves m (ap (λ (y : Left Reserved Pool). y.answer.refusal) e ∙ place_served r))
      go (sweep_first lack r) e = changed (moves m (ap (λ (y : Left Reserved Pool). y.answer.refusal) e ∙ place_served r))
      go (finds_no_room lack) e = changed (cannot_move m (ap (λ (y : Left Reserved Pool). y.answer.refusal) e))
      go (size_too_big l) e = absurd (omega (arith, moves_most m))

  run_rule : (g k : ℕ) → IsLarge c p g k → (run_block g k).place ≡ q → n ≤ 2093056 → Resizes c p q n (resize_of c p q n)
  run_rule g k r at l = by_cases (dec_lt 3072 n) large (λ m. move_rule (slot_enough g k r at (omega arith)))
    where
      j : ℕ
      j = pages_for n - 1

      large : 3072 < n → Resizes c p q n (resize_of c p q n)
      large m =
          let t : TakesRun n (suc j) = record { large = m; most = l; fewest = fewest_made n m j (omega arith) } in
          by_cases (ℕ_discrete j k) (λ e. changed (run_stays g k r at (subst (λ (i : ℕ). TakesRun n (suc i)) e t)))
          (λ d. by_cases (dec_lt j k) (λ a. changed (run_shrinks g k j r at t a)) (λ a. go t (omega arith) (can_grow p.bits g k j) refl))
        where
          go : TakesRun n (suc j) → k < j → (v : Bool) → can_grow p.bits g k j ≡ v → Resizes c p q n (resize_of c p q n)
          go t a true e = changed (run_grows g k j r at t a (grow_free c p h g k r j (omega arith) e).1)
          go t a false e =
              move_rule (pages_taken g k j r at t a (λ f. false≢true (sym e ∙ free_grow c p h g k r j (omega arith) f)))

  slot_rule : (g b s : ℕ) → IsSlot c p g b s true → (slot_block g b s).place ≡ q → n ≤ 2093056 → Resizes c p q n (resize_of c p q n)
  slot_rule g b s r at l =
      by_cases (dec_lt 3072 n) (λ m. move_rule (other_class g b s r at l (λ f. omega (arith, (row_facts b f.class).size_most, f.holds))))
      (λ m. by_cases (ℕ_discrete (class_for n) b)
      (λ e. changed (slot_stays g b s r at (subst (Smallest n) e (class_smallest n (omega arith)))))
      (λ e. move_rule (other_class g b s r at l (λ f. e (smallest_once n (class_for n) b (class_smallest n (omega arith)) f)))))

  pub change_rule : Resizes c p q n (resize_of c p q n)
  change_rule = go (spot c p q) refl (places.there c p q)
    where
      go : (x : Spot) → spot c p q ≡ x → places.There c p q x → Resizes c p q n (resize_of c p q n)
      go (Nowhere r) s places.none = changed (none_there 4 (sym released_is ∙ ap released s))
      go (Nowhere r) s (places.idle g b t x at) = changed (none_there 5 (sym released_is ∙ ap released s))
      go (Run g k) s (r, at) =
          by_cases (dec_lt 2093056 n) (λ l. changed (over_most (sym released_is ∙ ap released s) l)) (λ l. run_rule g k r at (omega arith))
      go (Slot g b t) s (r, at) =
          by_cases (dec_lt 2093056 n) (λ l. changed (over_most (sym released_is ∙ ap released s) l)) (λ l. slot_rule g b t r at (omega arith))

-- ---- what the rules come to

-- nothing is to be copied where nothing is done, and where the block is kept
none_copied : {q old n : ℕ} {r : Resized} → r.copy ≡ 0 → r.how ≢ 1 → r.how ≢ 2 → Copies q old n r
none_copied e d f = record { within = (omega arith, omega arith); keeps = λ z. absurd (d z); carries = λ z. absurd (f z) }

kept_copied : {q old n z : ℕ} → Copies q old n (kept q z)
kept_copied = record { within = (omega arith, omega arith); keeps = λ z. (refl, refl); carries = λ z. absurd (omega arith) }

module _ (c : ℕ) (p : Pool) (h : Good c p) where
  -- the answered block stands in place of the one at q
  pub swaps_there : (q n : ℕ) (x : Left Resized Pool) → x ≡ resize_of c p q n → x.answer.refusal ≡ 0
      → Swaps c p x.left (block q (size_of c p q).size) (block x.answer.place x.answer.size)
  swaps_there q n x e z =
      let s = e ∙ resize_serve c p h q n in
      let (y, size, swap) = resize_swaps c p h q n (ap (λ (u : Left Resized Pool). u.answer.refusal) (sym s) ∙ z) in
      let old : y ≡ (size_of c p q).size = ap (λ (u : Sized). u.size) (sym (size_by c p h q refl ∙ size)) in
      subst (λ (u : Left Resized Pool). Swaps c p u.left (block q (size_of c p q).size) (block u.answer.place u.answer.size)) (sym s)
      (subst (λ (v : ℕ). Swaps c p (resize c p q n).left (block q v) (block (resize c p q n).answer.place (resize c p q n).answer.size)) old swap)

  -- what is served holds the request
  pub resized_holds : {q n : ℕ} {x : Left Resized Pool} → Resizes c p q n x → x.answer.refusal ≡ 0 → n ≤ x.answer.size
  resized_holds (none_there r e) z = absurd (omega arith)
  resized_holds (over_most e l) z = absurd (omega arith)
  resized_holds (slot_stays g b s r at f) z = f.holds
  resized_holds (run_stays g k r at t) z = t.fewest.holds
  resized_holds (run_shrinks g k j r at t l) z = t.fewest.holds
  resized_holds (run_grows g k j r at t l f) z = t.fewest.holds
  resized_holds {n = n} (moves m e) z = size_holds (rule c p h n) e
  resized_holds (cannot_move m e) z = absurd (omega arith)

  -- the old block and the one that is reserved beside it share no byte
  beside : (q n : ℕ) → Moves c p q n → (reserve_of c p n).answer.refusal ≡ 0 → (i : ℕ) → q ≤ i → i < q + (size_of c p q).size
      → (reserve_of c p n).answer.place ≤ i → i < (reserve_of c p n).answer.place + (reserve_of c p n).answer.size → ⊥
  beside q n m e i a b u v =
      let g = reserve_gains c p h n e in
      let s = swaps_there q n _ (sym (by_change c p h q n (moves m e))) refl in
      ⊎_elim (λ x. omega (arith, x.1)) (λ x. omega (arith, x.1)) (ins_apart s.less g.more (live_rising c _ g.good))

  -- what is to be copied
  pub copied : {q n : ℕ} {x : Left Resized Pool} → Resizes c p q n x → Copies q (size_of c p q).size n x.answer
  copied (none_there r e) = none_copied (omega arith) (omega arith) (omega arith)
  copied (over_most e l) = none_copied (omega arith) (omega arith) (omega arith)
  copied (slot_stays g b s r at f) = kept_copied
  copied (run_stays g k r at t) = kept_copied
  copied (run_shrinks g k j r at t l) = kept_copied
  copied (run_grows g k j r at t l f) = kept_copied
  copied {q} {n} (moves m e) =
      let a = size_holds (rule c p h n) e in
      record { within = (omega arith, omega arith); keeps = λ z. absurd (omega arith); carries = λ z. (refl, beside q n m e) }
  copied (cannot_move m e) = none_copied (omega arith) (omega arith) (omega arith)

  module _ (g k : ℕ) (r : IsLarge c p g k) (n : ℕ) where
    -- a block that is moved is not kept
    moved_how : (z : ℕ) → resize_of c p (run_block g k).place n ≡ moving c p (run_block g k).place z n
        → (resize_of c p (run_block g k).place n).answer.how ≡ 1 → ⊥
    moved_how z e a = moving_how c p (run_block g k).place z n (ap (λ (x : Left Resized Pool). x.answer.how) (sym e) ∙ a)

    -- it is kept exactly where the pages behind it are free
    pub grows_by : (j : ℕ) → TakesRun n (suc j) → k < j → FreeBehind p g k j ↔ ((resize_of c p (run_block g k).place n).answer.how ≡ 1)
    grows_by j t l = (
      λ f. ap (λ (x : Left Resized Pool). x.answer.how) (run_more c p h _ n g k r refl j t l f),
      λ e. go e (can_grow p.bits g k j) refl,
    )
      where
        go : (resize_of c p (run_block g k).place n).answer.how ≡ 1 → (v : Bool) → can_grow p.bits g k j ≡ v → FreeBehind p g k j
        go e true f = (grow_free c p h g k r j (omega arith) f).1
        go e false f =
            absurd (moved_how _ (run_none c p h _ n g k r refl j t l (λ a. false≢true (sym f ∙ free_grow c p h g k r j (omega arith) a))) e)

    grow_pages : (j : ℕ) → k < j → FreeBehind p g k j → PagesFree c (put_run 0 p g (zeros (suc k))) g (suc j)
    grow_pages j l f =
        let o : k ≤ j = omega arith in
        grow_room c p h g k r j o (grow_free c p h g k r j o (free_grow c p h g k r j o f)).0 f

    -- page by page
    recut_pages : (j : ℕ) → PagesFree c (put_run 0 p g (zeros (suc k))) g (suc j) → (k < j → FreeBehind p g k j)
        → Recuts p (recut p g k j) g k (4096 * suc j)
    unfolding recut
    recut_pages j free behind =
        let gone = free_large c p h g k r in let few = free.few in
        let put = take_large c (put_run 0 p g (zeros (suc k))) (give_large c p h g k r).good g j (omega arith) free.inside free.clear in
        record {
          got = λ i a b. behind (omega arith) i a (omega arith);
          gave = λ i a b. sym (put.others i (inr (omega arith))) ∙ gone.were i (omega arith) a;
          others = λ i a. ⊎_elim (λ x. sym (put.others i (inl x)) ∙ gone.others i (inl x))
              (λ x. sym (put.others i (inr (omega (arith, x.1)))) ∙ gone.others i (inr x.0)) a;
        }

    same_pages : Recuts p p g k (4096 * suc k)
    same_pages = record { got = λ i a b. absurd (omega arith); gave = λ i a b. absurd (omega arith); others = λ i a. refl }

    pub recut_by : (x : Left Resized Pool) → x ≡ resize_of c p (run_block g k).place n → x.answer.how ≡ 1 → Recuts p x.left g k x.answer.size
    recut_by x e a =
        by_cases (dec_lt 2093056 n) (λ l. absurd (unkept (over_by c p h _ n (Run g k) (large_at c p h _ g k r refl) refl l (r, refl)) (omega arith)))
        (λ l. by_cases (dec_lt 3072 n) (λ m. large m (omega arith)) (λ m. absurd (moved_how _ (run_slot c p h _ n g k r refl (omega arith)) how)))
      where
        how : (resize_of c p (run_block g k).place n).answer.how ≡ 1
        how = ap (λ (u : Left Resized Pool). u.answer.how) (sym e) ∙ a

        unkept : {y : Left Resized Pool} → resize_of c p (run_block g k).place n ≡ y → y.answer.how ≢ 1 → ⊥
        unkept f d = d (ap (λ (u : Left Resized Pool). u.answer.how) (sym f) ∙ how)

        so : {y : Left Resized Pool} → resize_of c p (run_block g k).place n ≡ y → Recuts p y.left g k y.answer.size
            → Recuts p x.left g k x.answer.size
        so f z = subst (λ (u : Left Resized Pool). Recuts p u.left g k u.answer.size) (sym (e ∙ f)) z

        j : ℕ
        j = pages_for n - 1

        large : 3072 < n → n ≤ 2093056 → Recuts p x.left g k x.answer.size
        large m l =
            let t : TakesRun n (suc j) = record { large = m; most = l; fewest = fewest_made n m j (omega arith) } in
            by_cases (ℕ_discrete j k)
            (λ d. so (run_kept c p h _ n g k r refl (subst (λ (i : ℕ). TakesRun n (suc i)) d t)) same_pages)
            (λ d. by_cases (dec_lt j k)
            (λ b. so (run_less c p h _ n g k r refl j t b) (recut_pages j (shrink_room c p h g k r j b) (λ o. absurd (omega arith))))
            (λ b. let o : k < j = omega arith in
            let f = (grows_by j t o).1 how in
            so (run_more c p h _ n g k r refl j t o f) (recut_pages j (grow_pages j o f) (λ _. f))))
