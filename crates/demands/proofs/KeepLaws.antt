-- Each call keeps the book: it holds the live blocks, in any order. Assumes nothing.
use mathlib.Core.Path.{◌≡◌, refl, sym, ap, ◌∙◌, subst}
use mathlib.Core.Logic.{◌≢◌}
use mathlib.Core.Bool.{Bool, true, false, cond}
use mathlib.Core.List.{List, [], ◌∷◌}
use Prim.Native.Nat.{ℕ, zero, suc, ◌-◌, ◌*◌}
use native.Mathlib.Omega.{arith}
use lib.Dec.{eqb, ltb}
use lib.ListN.{length}
use Rattle.refusals.specs.Refusals.{unless, short_room}
use Rattle.records.specs.Pool.{Pool}
use Rattle.records.specs.Calls.{fit, shape_of, admit_of, Left, leaves, fresh_pool, fresh_of}
use Rattle.records.proofs.Flags.{cond_ne, eq_cases}
use Rattle.records.proofs.AdmitLaws.{shaped_lengths, shape_fits}
use Rattle.records.proofs.FreshLaws.{fresh_served}
use Rattle.blocks.specs.Blocks.{Block, block, live, Ins}
use Rattle.blocks.specs.Stores.{Good, Gains, Loses, Swaps}
use Rattle.blocks.proofs.ApartLaws.{live_rising}
use Rattle.blocks.proofs.KeepLaws.{admit_good, fresh_empty, fresh_good}
use Rattle.reserve.specs.declared.Reserved.{Reserved}
use Rattle.reserve.specs.Reserve.{refused, serve, reserve_of}
use Rattle.reserve.proofs.ReadyLaws.{serve_gains, serve_kept}
use Rattle.sweep.specs.declared.Swept.{Swept}
use Rattle.sweep.specs.Sweep.{empty_from, swept, sweep_of}
use Rattle.sweep.specs.Sweep as sweeping
use Rattle.sweep.proofs.SweepLaws.{sweeps}
use Rattle.release.specs.Release.{give, release_of}
use Rattle.release.proofs.MeanLaws.{give_loses, give_kept}
use Rattle.resize.specs.declared.Resized.{Resized}
use Rattle.resize.specs.Resize.{resize_of}
use Rattle.resize.specs.Resize as resizing
use Rattle.resize.proofs.MeanLaws.{resize_swaps, resize_place, resize_kept}
use Rattle.requestlog.specs.declared.Cursor.{Cursor}
use Rattle.events.specs.declared.Event.{Event}
use Rattle.events.specs.Doing.{reserve_event, release_event, resize_event}
use Rattle.replay.specs.Run.{Run, ended, run_all, run_of, replay_of}
use Rattle.lines.specs.Lines.{lines_room, printed, telling, printed_of}
use Rattle.demands.specs.Demand2.{block_of, Plays, log_done, log_refused, other_count, start_field, reserve_field, release_field, resize_field, end_field}
use Rattle.demands.specs.Demand3.{take_out, note, notes, State, state, call, series, insert, sort}
use Rattle.demands.specs.Demand3.{Call, check, fresh, totals, sweep, reserve, release, resize, block_size, next, census, replay, lines, bytes}
use Rattle.demands.proofs.PlayRules.{plays_all}
use Rattle.demands.proofs.BookLaws.{ins_insert, ins_out, sort_out}

-- the pool is good, and its live blocks are the book's by rising place
pub record Booked (c : ℕ) (x : State) : Type 0 where
  pub good : Good c x.pool
  pub listed : live c x.pool ≡ sort x.book

-- the book without the block b, at the place q
rest_listed : (c : ℕ) (x : State) (q : ℕ) (b : Block) {l : List Block} → Booked c x → b.place ≡ q → Ins b l (live c x.pool)
    → sort (take_out q x.book) ≡ l
rest_listed c x q b h e i =
    sort_out q x.book ∙ ap (take_out q) (sym h.listed) ∙ ap (λ (n : ℕ). take_out n (live c x.pool)) (sym e)
    ∙ ins_out i (live_rising c x.pool h.good)

-- ---- one block more or less, or in another's place

gained : (c : ℕ) (x : State) (p : Pool) (b : Block) → Booked c x → Gains c x.pool p b → Booked c (state p (b ∷ x.book))
unfolding sort
gained c x p b h g =
    record { good = g.good; listed = sym (ap (insert b) (sym h.listed) ∙ ins_insert g.more (live_rising c p g.good)) }

lost : (c : ℕ) (x : State) (p : Pool) (q : ℕ) (b : Block) → Booked c x → b.place ≡ q → Loses c x.pool p b
    → Booked c (state p (take_out q x.book))
lost c x p q b h e g = record { good = g.good; listed = sym (rest_listed c x q b h e g.less) }

swapped : (c : ℕ) (x : State) (p : Pool) (b d : Block) → Booked c x → Swaps c x.pool p b d
    → Booked c (state p (d ∷ take_out b.place x.book))
unfolding sort
swapped c x p b d h s =
    record {
      good = s.good;
      listed = sym (ap (insert d) (rest_listed c x _ b h refl s.less) ∙ ins_insert s.more (live_rising c p s.good));
    }

-- ---- a call with its answer

-- a refusal, r, changes nothing
kept : (c : ℕ) (x : State) (p : Pool) (r : ℕ) → Booked c x → r ≢ 0 → ((k : ℕ) → r ≡ suc k → p ≡ x.pool) → Booked c (state p x.book)
kept c x p r h n e = subst (λ (q : Pool). Booked c (state q x.book)) (sym (e (r - 1) (omega arith))) h

reserve_noted : (c n : ℕ) (x : State) (y : Left Reserved Pool) → Booked c x
    → (y.answer.refusal ≡ 0 → Gains c x.pool y.left (block_of y.answer))
    → ((k : ℕ) → y.answer.refusal ≡ suc k → y.left ≡ x.pool) → Booked c (state y.left (note (reserve_event n y.answer) x.book))
unfolding note reserve_event
reserve_noted c n x y h f g =
    eq_cases (λ (e : Event). Booked c (state y.left (note e x.book))) y.answer.refusal 0
    (λ e. gained c x y.left (block_of y.answer) h (f e)) (λ e. kept c x y.left y.answer.refusal h e g)

release_noted : (c q : ℕ) (x : State) (y : Left ℕ Pool) → Booked c x
    → (y.answer ≡ 0 → (b : Block) × (b.place ≡ q) × Loses c x.pool y.left b)
    → ((k : ℕ) → y.answer ≡ suc k → y.left ≡ x.pool) → Booked c (state y.left (note (release_event q y.answer) x.book))
unfolding note release_event
release_noted c q x y h f g =
    eq_cases (λ (e : Event). Booked c (state y.left (note e x.book))) y.answer 0
    (λ e. let (b, at, less) = f e in lost c x y.left q b h at less) (λ e. kept c x y.left y.answer h e g)

-- kept or moved, the block that is answered stands in the place of the one at q
resize_noted : (c q n : ℕ) (x : State) (y : Left Resized Pool) → Booked c x
    → (y.answer.refusal ≡ 0 → Booked c (state y.left (block y.answer.place y.answer.size ∷ take_out q x.book)))
    → (y.answer.how ≡ 1 → y.answer.place ≡ q)
    → ((k : ℕ) → y.answer.refusal ≡ suc k → y.left ≡ x.pool) → Booked c (state y.left (note (resize_event q n y.answer) x.book))
unfolding note resize_event
resize_noted c q n x y h f at g =
    eq_cases (λ (e : Event). Booked c (state y.left (note e x.book))) y.answer.refusal 0
    (λ e. eq_cases (λ (v : Event). Booked c (state y.left (note v x.book))) y.answer.how 1
    (λ k. subst (λ (m : ℕ). Booked c (state y.left (block m y.answer.size ∷ take_out q x.book))) (at k) (f e)) (λ k. f e))
    (λ e. kept c x y.left y.answer.refusal h e g)

pub fresh_noted : (c : ℕ) (p : Pool) → fit c p ≡ true → Booked c (state (fresh_of c p).left [])
unfolding sort
fresh_noted c p e =
    record { good = fresh_good c p e; listed = ap (λ (y : Left ℕ Pool). live c y.left) (fresh_served c p e) ∙ fresh_empty c }

-- ---- a call of d chunks on a pool of c chunks

-- buffers fit one number of chunks
fit_one : (c d : ℕ) (p : Pool) → fit c p ≡ true → fit d p ≡ true → d ≡ c
fit_one c d p e f =
    let a = (shaped_lengths c _ _ _ e).bits_long in
    let b = (shaped_lengths d _ _ _ f).bits_long in
    omega arith

module _ (c d : ℕ) (x : State) (h : Booked c x) where
  -- what is done behind checks that the shape passes is a call of c chunks; `first` is their refusal
  checked_cases : {A : Type 0} (P : A → Type 0) (f refuse : ℕ → A) (first : ℕ) → (first ≡ 0 → fit d x.pool ≡ true) → P (f c)
      → ((r : ℕ) → P (refuse (suc r))) → P (unless first refuse (f d))
  checked_cases P f refuse zero e g r = subst (λ (m : ℕ). P (f m)) (sym (fit_one c d x.pool h.good.shape (e refl))) g
  checked_cases P f refuse (suc n) e g r = r n

  -- by the shape alone, and by the records
  shape_cases : {A : Type 0} (P : A → Type 0) (f refuse : ℕ → A) → P (f c) → ((r : ℕ) → P (refuse (suc r)))
      → P (unless (shape_of d x.pool) refuse (f d))
  shape_cases P f refuse = checked_cases P f refuse (shape_of d x.pool) (shape_fits d x.pool)

  admit_cases : {A : Type 0} (P : A → Type 0) (f refuse : ℕ → A) → P (f c) → ((r : ℕ) → P (refuse (suc r)))
      → P (unless (admit_of d x.pool) refuse (f d))
  admit_cases P f refuse = checked_cases P f refuse (admit_of d x.pool) (λ e. (admit_good d x.pool e).shape)

  fresh_keeps : Booked c (call (fresh d) x)
  unfolding call note fresh_of
  fresh_keeps =
      let e = h.good.shape in
      shape_cases (λ (y : Left ℕ Pool). Booked c (state y.left (cond (eqb y.answer 0) [] x.book))) (λ m. leaves 0 (fresh_pool m))
      (λ r. leaves r x.pool)
      (subst (λ (y : Left ℕ Pool). Booked c (state y.left [])) (fresh_served c x.pool e) (fresh_noted c x.pool e))
      (λ r. subst (λ (l : List Block). Booked c (state x.pool l)) (sym (cond_ne (suc r) 0 [] x.book (omega arith))) h)

  reserve_keeps : (n : ℕ) → Booked c (call (reserve d n) x)
  unfolding call reserve_of
  reserve_keeps n =
      admit_cases (λ (y : Left Reserved Pool). Booked c (state y.left (note (reserve_event n y.answer) x.book)))
      (λ m. serve m x.pool n) (λ r. leaves (refused r) x.pool)
      (reserve_noted c n x (serve c x.pool n) h (serve_gains c x.pool h.good n)
      (λ r e. ap (λ (y : Left Reserved Pool). y.left) (serve_kept c x.pool n r e)))
      (λ r. reserve_noted c n x (leaves (refused (suc r)) x.pool) h (λ e. absurd (omega arith)) (λ k e. refl))

  sweep_keeps : Booked c (call (sweep d) x)
  unfolding call sweep_of
  sweep_keeps =
      let s = (sweeps c x.pool h.good).stays in
      admit_cases (λ (y : Left Swept Pool). Booked c (state y.left x.book))
      (λ m. leaves (sweeping.gained 0 (empty_from x.pool 0 (512 * m))) (swept m x.pool)) (λ r. leaves (sweeping.gained r 0) x.pool)
      (record { good = s.good; listed = s.same ∙ h.listed }) (λ r. h)

  release_keeps : (q : ℕ) → Booked c (call (release d q) x)
  unfolding call release_of
  release_keeps q =
      admit_cases (λ (y : Left ℕ Pool). Booked c (state y.left (note (release_event q y.answer) x.book)))
      (λ m. give m x.pool q) (λ r. leaves r x.pool)
      (release_noted c q x (give c x.pool q) h
      (λ e. let (b, at, size, less) = give_loses c x.pool h.good q e in (b, at, less))
      (λ r e. ap (λ (y : Left ℕ Pool). y.left) (give_kept c x.pool q r e)))
      (λ r. release_noted c q x (leaves (suc r) x.pool) h (λ e. absurd (omega arith)) (λ k e. refl))

  resize_keeps : (q n : ℕ) → Booked c (call (resize d q n) x)
  unfolding call resize_of
  resize_keeps q n =
      admit_cases (λ (y : Left Resized Pool). Booked c (state y.left (note (resize_event q n y.answer) x.book)))
      (λ m. resizing.resize m x.pool q n) (λ r. leaves (resizing.refused r) x.pool)
      (resize_noted c q n x (resizing.resize c x.pool q n) h
      (λ e. let (z, _, s) = resize_swaps c x.pool h.good q n e in swapped c x _ (block q z) _ h s)
      (resize_place c x.pool q n) (λ r e. ap (λ (y : Left Resized Pool). y.left) (resize_kept c x.pool q n r e)))
      (λ r. resize_noted c q n x (leaves (resizing.refused (suc r)) x.pool) h (λ e. absurd (omega arith)) (λ e. absurd (omega arith)) (λ k e. refl))

-- ---- a replay

-- the fields of a run, booked
abbrev ran : State → Run → State
ran x r = state r.left (notes r.events x.book)

plays_keeps : (c : ℕ) (log : List ℕ) {k : Cursor} {p : Pool} {r : Run} → Plays c log k p r
    → (book : List Block) → Booked c (state p book) → Booked c (ran (state p book) r)
unfolding call note notes
plays_keeps c log (log_done e) book h = h
plays_keeps c log (log_refused e) book h = h
plays_keeps c log (other_count e o) book h = h
plays_keeps c log (start_field {p = p} e later) book h = plays_keeps c log later [] (fresh_noted c p h.good.shape)
plays_keeps c log (reserve_field {p = p} {n = n} e later) book h = plays_keeps c log later _ (reserve_keeps c c (state p book) h n)
plays_keeps c log (release_field {p = p} {q = q} e later) book h = plays_keeps c log later _ (release_keeps c c (state p book) h q)
plays_keeps c log (resize_field {p = p} {q = q} {n = n} e later) book h = plays_keeps c log later _ (resize_keeps c c (state p book) h q n)
plays_keeps c log (end_field e later) book h = plays_keeps c log later book h

-- the printed lines leave what the replay leaves, unless the buffer is refused
lines_left : (d : ℕ) (p : Pool) (log out : List ℕ)
    → (printed_of d p log out).left.0 ≡ cond (ltb (length out) (lines_room (length log))) p (run_of d p log).left
unfolding printed_of telling run_of
lines_left d p log out = go (shape_of d p) (ltb (length out) (lines_room (length log))) (run_all d p log)
  where
    go : (n : ℕ) (t : Bool) (r : Run)
        → (unless n (λ k. leaves (printed k 0 0) (p, out))
        (cond t (leaves (printed short_room 0 0) (p, out)) (telling d (unless n (λ k. ended k 0 p) r) out))).left.0
        ≡ cond t p (unless n (λ k. ended k 0 p) r).left
    go zero true r = refl
    go zero false r = refl
    go (suc n) true r = refl
    go (suc n) false r = refl

module _ (c d : ℕ) (x : State) (h : Booked c x) (log : List ℕ) where
  replay_keeps : Booked c (call (replay d log) x)
  unfolding call replay_of run_of notes
  replay_keeps =
      shape_cases c d x h (λ (r : Run). Booked c (ran x r)) (λ m. run_all m x.pool log) (λ r. ended r 0 x.pool)
      (plays_keeps c log (plays_all c x.pool log) x.book h) (λ r. h)

  lines_keeps : (out : List ℕ) → Booked c (call (lines d log out) x)
  unfolding call replay_of
  lines_keeps out =
      subst (λ (p : Pool). Booked c (state p (cond short x.book x'.book))) (sym (lines_left d x.pool log out)) (go short)
    where
      short : Bool
      short = ltb (length out) (lines_room (length log))

      x' : State
      x' = ran x (run_of d x.pool log)

      go : (t : Bool) → Booked c (state (cond t x.pool x'.pool) (cond t x.book x'.book))
      go true = h
      go false = replay_keeps

-- ---- any call, and any series

call_keeps : (c : ℕ) (a : Call) (x : State) → Booked c x → Booked c (call a x)
unfolding call
call_keeps c (fresh d) x h = fresh_keeps c d x h
call_keeps c (reserve d n) x h = reserve_keeps c d x h n
call_keeps c (sweep d) x h = sweep_keeps c d x h
call_keeps c (release d q) x h = release_keeps c d x h q
call_keeps c (resize d q n) x h = resize_keeps c d x h q n
call_keeps c (replay d log) x h = replay_keeps c d x h log
call_keeps c (lines d log out) x h = lines_keeps c d x h log out
call_keeps c (check d) x h = h
call_keeps c (block_size d q) x h = h
call_keeps c (next d q) x h = h
call_keeps c (census d room) x h = h
call_keeps c (totals d) x h = h
call_keeps c (bytes ear d q left right) x h = h

pub series_keeps : (c : ℕ) (calls : List Call) (x : State) → Booked c x → Booked c (series calls x)
unfolding series
series_keeps c [] x h = h
series_keeps c (a ∷ l) x h = series_keeps c l (call a x) (call_keeps c a x h)
