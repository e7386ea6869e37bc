-- Demand 2: a replay, field by field. Assumes nothing.
use mathlib.Core.Path.{◌≡◌, refl, sym, ap, ◌∙◌, subst}
use mathlib.Core.Logic.{◌≢◌, ◌↔◌, by_cases}
use mathlib.Core.Bool.{true, false, false≢true}
use mathlib.Core.List.{List, [], ◌∷◌, ◌++◌, append_assoc, Memᴰ}
use Prim.Native.Nat.{ℕ, zero, suc, ◌+◌, ◌≤◌, ◌<◌}
use native.Mathlib.Decide.{dec_lt}
use native.Mathlib.Omega.{arith}
use lib.Dec.{leb}
use lib.ListN.{length, length-append}
use borrow.Author.Tests.{le-leb, lt-leb}
use Rattle.refusals.specs.Refusals.{bad_field}
use Rattle.records.specs.Pool.{Pool}
use Rattle.records.specs.Calls.{fit, Left, fresh_of}
use Rattle.records.proofs.Flags.{cond_lt, cond_nlt}
use Rattle.records.proofs.AdmitLaws.{shaped_lengths}
use Rattle.reserve.specs.Reserve.{reserve_of}
use Rattle.release.specs.Release.{release_of}
use Rattle.resize.specs.Resize.{resize_of}
use Rattle.requestlog.specs.declared.Field.{Field}
use Rattle.requestlog.specs.declared.Field.TheVariants.{Start, Reserve, Release, Resize, End}
use Rattle.requestlog.specs.declared.Cursor.{Cursor}
use Rattle.requestlog.specs.declared.Read.{Read}
use Rattle.requestlog.specs.declared.Read.TheVariants.{Next, Done, Refused}
use Rattle.requestlog.specs.Log.{due, written, cursor, outset, read_at}
use Rattle.requestlog.proofs.LogLaws.{within_one, cond_cases, read_done, Fine, read_fine}
use Rattle.requestlog.specs.Walk.{row}
use Rattle.requestlog.proofs.WriteLaws.{read_written}
use Rattle.events.specs.declared.Event.TheVariants.{Started, Ended}
use Rattle.replay.specs.declared.Step.{Step}
use Rattle.events.specs.Doing.{reserve_event, release_event, resize_event, do_field}
use Rattle.replay.specs.Run.{suits, read_step, step_of, Run, ended, with_event, onward, run_from, run_all, run_of}
use Rattle.replay.proofs.RunLaws.{run_fit}
use Rattle.replay.proofs.PrefixLaws.{run_next}
use Rattle.demands.specs.Demand2.{Loggable, logged, in_turn}
use Rattle.demands.specs.Demand2.{Plays, log_done, log_refused, other_count, start_field, reserve_field, release_field, resize_field, end_field}

-- a start suits where its count is the pool's
suits_own : (c : ℕ) → suits c (Start c) ≡ true
suits_own c = cond_nlt c c false (leb c c) (omega arith) ∙ le-leb c c (omega arith)

suits_other : (c n : ℕ) → n ≢ c → suits c (Start n) ≡ false
suits_other c n h =
    by_cases (dec_lt n c) (λ l. cond_lt n c false (leb n c) l) (λ l. cond_nlt n c false (leb n c) (omega arith) ∙ lt-leb n c (omega arith))

module _ (c : ℕ) (log : List ℕ) where
  -- the cursor behind a field lies inside the log, three bytes on or more
  next_inside : (k j : Cursor) (f : Field) → read_at log k ≡ Next f j → (k.at + 3 ≤ j.at) × (j.at ≤ length log)
  next_inside k j f e = let (due, at, inside) = subst (Fine log k) e (read_fine log k) in (omega arith, inside)

  -- ---- what the rules say is the run, with fuel for all bytes

  module _ (n : ℕ) (k : Cursor) (p : Pool) where
    run_done : read_at log k ≡ Done → run_from (suc n) c p log k ≡ ended 0 0 p
    unfolding run_from step_of read_step
    run_done e = rw e

    run_refused : {r q : ℕ} → read_at log k ≡ Refused r q → run_from (suc n) c p log k ≡ ended r q p
    unfolding run_from step_of read_step
    run_refused e = rw e

    run_unsuited : {f : Field} {j : Cursor} → read_at log k ≡ Next f j → suits c f ≡ false → run_from (suc n) c p log k ≡ ended bad_field k.at p
    unfolding run_from step_of read_step
    run_unsuited e s = rw (e, s)

  by_fields : {k : Cursor} {p : Pool} {x : Run} → Plays c log k p x → (n : ℕ) → k.at ≤ length log → length log < k.at + n
      → run_from n c p log k ≡ x
  unfolding do_field
  by_fields r zero l h = absurd (omega arith)
  by_fields (log_done {k} {p} e) (suc n) l h = run_done n k p e
  by_fields (log_refused {k} {p} e) (suc n) l h = run_refused n k p e
  by_fields (other_count {k} {p = p} {n = m} e o) (suc n) l h = run_unsuited n k p e (suits_other c m o)
  by_fields (start_field {k} {j} {p} e later) (suc n) l h =
      let (more, inside) = next_inside k j (Start c) e in
      run_next n c p log k e (suits_own c) ∙ ap (with_event (Started c)) (by_fields {k = j} later n inside (omega arith))
  by_fields (reserve_field {k} {j} {p} {n = m} e later) (suc n) l h =
      let (more, inside) = next_inside k j (Reserve m) e in
      run_next n c p log k e refl ∙ ap (with_event (reserve_event m (reserve_of c p m).answer)) (by_fields {k = j} later n inside (omega arith))
  by_fields (release_field {k} {j} {p} {q} e later) (suc n) l h =
      let (more, inside) = next_inside k j (Release q) e in
      run_next n c p log k e refl ∙ ap (with_event (release_event q (release_of c p q).answer)) (by_fields {k = j} later n inside (omega arith))
  by_fields (resize_field {k} {j} {p} {q} {n = m} e later) (suc n) l h =
      let (more, inside) = next_inside k j (Resize q m) e in
      run_next n c p log k e refl ∙ ap (with_event (resize_event q m (resize_of c p q m).answer)) (by_fields {k = j} later n inside (omega arith))
  by_fields (end_field {k} {j} {p} e later) (suc n) l h =
      let (more, inside) = next_inside k j End e in
      run_next n c p log k e refl ∙ ap (with_event Ended) (by_fields {k = j} later n inside (omega arith))

  -- ---- and each run goes by them

  field_plays : (k j : Cursor) (p : Pool) (f : Field) (x : Run) → read_at log k ≡ Next f j → suits c f ≡ true
      → Plays c log j (do_field c p f).left x → Plays c log k p (with_event (do_field c p f).answer x)
  unfolding do_field
  field_plays k j p (Start n) x e s r =
      let same : n ≡ c = within_one c n s in
      rw same (start_field (e ∙ ap (λ (m : ℕ). Next (Start m) j) same) r)
  field_plays k j p (Reserve n) x e s r = reserve_field e r
  field_plays k j p (Release q) x e s r = release_field e r
  field_plays k j p (Resize q n) x e s r = resize_field e r
  field_plays k j p End x e s r = end_field e r

  unsuited_plays : (k j : Cursor) (p : Pool) (f : Field) → read_at log k ≡ Next f j → suits c f ≡ false → Plays c log k p (ended 9 k.at p)
  unsuited_plays k j p (Start n) e s = other_count e (λ h. false≢true (sym s ∙ ap (λ (m : ℕ). suits c (Start m)) h ∙ suits_own c))
  unsuited_plays k j p (Reserve n) e s = absurd (false≢true (sym s))
  unsuited_plays k j p (Release q) e s = absurd (false≢true (sym s))
  unsuited_plays k j p (Resize q n) e s = absurd (false≢true (sym s))
  unsuited_plays k j p End e s = absurd (false≢true (sym s))

  read_plays : (go : Cursor → Pool → Run) (k : Cursor) (p : Pool) (x : Read) → read_at log k ≡ x
      → ((j : Cursor) (f : Field) (q : Pool) → read_at log k ≡ Next f j → Plays c log j q (go j q))
      → Plays c log k p (onward go (read_step c p k.at x).answer (read_step c p k.at x).left)
  unfolding read_step
  read_plays go k p (Next f j) e h =
      cond_cases (λ (s : Left Step Pool). Plays c log k p (onward go s.answer s.left)) (suits c f)
      (λ s. field_plays k j p f (go j (do_field c p f).left) e s (h j f (do_field c p f).left e)) (λ s. unsuited_plays k j p f e s)
  read_plays go k p Done e h = log_done e
  read_plays go k p (Refused r q) e h = log_refused e

  plays_from : (n : ℕ) (k : Cursor) (p : Pool) → k.at ≤ length log → length log < k.at + n → Plays c log k p (run_from n c p log k)
  unfolding run_from step_of
  plays_from zero k p l h = absurd (omega arith)
  plays_from (suc n) k p l h =
      read_plays (λ j q. run_from n c q log j) k p (read_at log k) refl
      (λ j f q e. let (more, inside) = next_inside k j f e in plays_from n j q inside (omega arith))

-- ---- the whole log

module _ (c : ℕ) (p : Pool) (log : List ℕ) where
  pub plays_all : Plays c log outset p (run_all c p log)
  unfolding run_all
  plays_all = plays_from c log (suc (length log)) outset p (omega arith) (omega arith)

  pub log_plays : fit c p ≡ true → (x : Run) → Plays c log outset p x ↔ (run_of c p log ≡ x)
  unfolding run_all
  log_plays f x = (
    λ r. sym (run_fit c p log f) ∙ by_fields c log r (suc (length log)) (omega arith) (omega arith),
    λ e. subst (Plays c log outset p) (run_fit c p log f ∙ e) plays_all,
  )

-- ---- a log that was written

module _ (c : ℕ) where
  -- a call of it, behind the bytes a
  call_plays : (a b : List ℕ) (p : Pool) (f : Field) (x : Run) → Loggable f
      → Plays c (a ++ (written f ++ b)) (cursor (length a + length (written f)) 1) (do_field c p f).left x
      → Plays c (a ++ (written f ++ b)) (cursor (length a) 1) p (with_event (do_field c p f).answer x)
  unfolding due
  call_plays a b p (Start n) x w r = absurd w
  call_plays a b p (Reserve n) x w r = field_plays c _ _ _ p (Reserve n) x (read_written a b (Reserve n) 1 w refl) refl r
  call_plays a b p (Release q) x w r = field_plays c _ _ _ p (Release q) x (read_written a b (Release q) 1 w refl) refl r
  call_plays a b p (Resize q n) x w r = field_plays c _ _ _ p (Resize q n) x (read_written a b (Resize q n) 1 w refl) refl r
  call_plays a b p End x w r = absurd w

  calls_play : (a : List ℕ) (p : Pool) (calls : List Field) → ((f : Field) → Memᴰ f calls → Loggable f)
      → Plays c (a ++ logged calls) (cursor (length a) 1) p (in_turn c p calls)
  unfolding due row
  calls_play a p [] w =
      let n = length-append a (written End) in
      end_field (read_written a [] End 1 tt refl)
      (log_done (sym (read_done (a ++ written End) (cursor (length a + 3) 2) refl (omega arith) (omega arith))))
  calls_play a p (f ∷ l) w =
      call_plays a (logged l) p f _ (w f (Memᴰ.head refl))
      (rw (← length-append a (written f), ← append_assoc a (written f) (logged l))
      (calls_play (a ++ written f) (do_field c p f).left l (λ g m. w g (Memᴰ.tail m))))

  pub written_plays : (p : Pool) (calls : List Field) → fit c p ≡ true → ((f : Field) → Memᴰ f calls → Loggable f)
      → run_of c p (written (Start c) ++ logged calls) ≡ with_event (Started c) (in_turn c (fresh_of c p).left calls)
  unfolding due
  written_plays p calls e w =
      let s = shaped_lengths c _ _ _ e in
      (log_plays c p (written (Start c) ++ logged calls) e _).0
      (start_field (read_written [] (logged calls) (Start c) 0 (s.some_chunk, s.few) refl) (calls_play (written (Start c)) (fresh_of c p).left calls w))
