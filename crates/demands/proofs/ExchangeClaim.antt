-- Demand 1: what a refused append, import and export answer and leave. Assumes nothing.
use mathlib.Core.Path.{◌≡◌, refl, sym, ap, ◌∙◌, subst}
use mathlib.Core.Logic.{◌⊎◌, inl, inr, ⊎_elim}
use mathlib.Core.Bool.{Bool, true, false, not, false≢true}
use mathlib.Core.List.{List, [], ◌∷◌, ◌++◌}
use Prim.Native.Nat.{ℕ, zero, suc, ◌+◌, ◌≤◌}
use native.Mathlib.Omega.{arith}
use lib.Dec.{leb, ltb, eqb}
use lib.ListN.{length, take}
use lib.Seq.{sets}
use Rattle.refusals.specs.Refusals.{bad_field, short_room, Check, first_of, unless}
use Rattle.refusals.proofs.CallLaws.{refused}
use Rattle.records.specs.Pool.{Pool}
use Rattle.records.specs.Calls.{fit, Left, leaves}
use Rattle.requestlog.specs.declared.Field.{Field}
use Rattle.requestlog.specs.declared.Field.TheVariants.{Start, Reserve, Release, Resize, End}
use Rattle.requestlog.specs.declared.Cursor.{Cursor}
use Rattle.requestlog.specs.declared.Read.{Read}
use Rattle.requestlog.specs.declared.Read.TheVariants.{Next, Done, Refused}
use Rattle.requestlog.specs.Log.{field_bytes, member, due, number_at, field_of, header_of, written, within, writable, turn_after, bytes_left, outset, read_at}
use Rattle.requestlog.specs.Walk.{Walk, walk, walk_log, stop_of, row}
use Rattle.requestlog.proofs.LogLaws.{cond_cases, Fine, read_fine}
use Rattle.requestlog.proofs.WalkLaws.{Ends, walk_next, walk_ends, log_moves}
use Rattle.replay.specs.Run.{Run, replay_of}
use Rattle.replay.proofs.RunLaws.{run_fit}
use Rattle.writer.specs.declared.Appended.{Appended}
use Rattle.writer.specs.Append.{placed, appended, append_of, tags, tagged, append_as}
use Rattle.exchange.specs.declared.Imported.{Imported}
use Rattle.exchange.specs.declared.Exported.{Exported}
use Rattle.exchange.specs.Exchange.{number_of, position_of, imported, import_of, plain, exported, export_of}
use Rattle.exchange.specs.Trips.{Imports, good_lines, bad_lines}
use Rattle.exchange.proofs.ReadLaws.{imports}
use Rattle.demands.specs.Demand1.{append_first, ImportRefuses, ExportRefuses}
use Rattle.demands.specs.Demand2.{Plays, log_done, log_refused, other_count, start_field, reserve_field, release_field, resize_field, end_field}
use Rattle.demands.proofs.PlayRules.{plays_all}

-- ---- append

-- checks, of which none has the number 0
abbrev numbered : List Check → List Check
numbered [] = []
numbered (x ∷ l) = (x.0, suc x.1) ∷ numbered l

-- behind checks come other checks, and then the work
joined : {A : Type 0} (nothing : ℕ → A) (work : A) (l m : List Check)
    → unless (first_of (numbered l)) nothing (unless (first_of m) nothing work) ≡ unless (first_of (numbered l ++ m)) nothing work
joined nothing work [] m = refl
joined nothing work ((true, r) ∷ l) m = joined nothing work l m
joined nothing work ((false, r) ∷ l) m = refl

module _ (log : List ℕ) (n tag x y : ℕ) where
  -- where no check refuses
  abbrev pub append_work : Left Appended (List ℕ)
  append_work = leaves (appended 0 (n + length (written (tagged tag x y)))) (sets log n (written (tagged tag x y)))

  pub append_joined : append_as log n tag x y ≡ unless (append_first log n tag x y) (λ r. leaves (appended r 0) log) append_work
  unfolding append_as append_of placed
  append_joined =
      let nothing : ℕ → Left Appended (List ℕ) = λ r. leaves (appended r 0) log in
      let work = append_work in
      let f = tagged tag x y in
      let k = stop_of (take n log) in
      let front : List Check = (leb n (length log), 0) ∷ (member tag tags, 8) ∷ [] in
      let field : List Check = (leb n (length log), 0) ∷ (eqb k.at n, 8) ∷ (due k.turn (header_of f), 8) ∷ (writable f, 8) ∷ [] in
      let room : List Check = (leb (n + length (written f)) (length log), short_room) ∷ [] in
      ap (unless (first_of (numbered front)) nothing) (joined nothing work field room) ∙ joined nothing work front (numbered field ++ room)

-- ---- import

-- what is put into a buffer is refused 7, or put whole
placed_cases : {A : Type 0} (P : Left A (List ℕ) → Type 0) (says : ℕ → ℕ → A) (out : List ℕ) (at : ℕ) (bytes : List ℕ)
    → P (leaves (says short_room 0) out) → ((n : ℕ) (after : List ℕ) → P (leaves (says 0 n) after)) → P (placed says out at bytes)
unfolding placed
placed_cases P says out at bytes short put = go (leb (at + length bytes) (length out))
  where
    go : (b : Bool)
        → P (unless (first_of ((b, short_room) ∷ [])) (λ r. leaves (says r 0) out) (leaves (says 0 (at + length bytes)) (sets out at bytes)))
    go true = put (at + length bytes) (sets out at bytes)
    go false = short

import_by : (text out : List ℕ) (x : Left Imported (List ℕ)) → Imports out text x → ImportRefuses out x
import_by text out x (good_lines {f} {l} lines) =
    placed_cases (ImportRefuses out) (λ r n. imported r 0 n) out 0 (row written (f ∷ l ++ (End ∷ [])))
    (record { number = inr (inr refl); unchanged = λ r e. ap (λ (k : ℕ). leaves (imported k 0 0) out) e; line = λ _. refl })
    (λ n after. record { number = inl refl; unchanged = λ r e. absurd (omega arith); line = λ _. refl })
import_by text out x (bad_lines {l} lines none some) =
    record {
      number = inr (inl refl);
      unchanged = λ r e. ap (λ (k : ℕ). leaves (imported k (suc (length l)) 0) out) e;
      line = λ d. absurd (d refl);
    }

pub import_refuses : (text out : List ℕ) → ImportRefuses out (import_of text out)
import_refuses text out = import_by text out (import_of text out) ((imports text out (import_of text out)).1 refl)

-- ---- export

module _ (out : List ℕ) where
  log_refuses : (n q : ℕ) → (n ≡ 8) ⊎ (n ≡ 9) → ExportRefuses out (leaves (exported n q 0) out)
  log_refuses n q h =
      let late : 8 ≤ n = ⊎_elim (λ e. omega arith) (λ e. omega arith) h in
      record {
        number = inr (⊎_elim (λ e. inl e) (λ e. inr (inl e)) h);
        unchanged = λ r e. ap (λ (k : ℕ). leaves (exported k q 0) out) e;
        position = λ e. absurd (⊎_elim (λ a. omega arith) (λ a. omega arith) e);
      }

  -- behind an accepted log: a resize, then the room
  export_accepted : (b : Bool) (q : ℕ) (bytes : List ℕ)
      → ExportRefuses out (unless (first_of ((b, bad_field) ∷ [])) (λ r. leaves (exported r q 0) out) (placed (λ r n. exported r 0 n) out 0 bytes))
  export_accepted true q bytes =
      placed_cases (ExportRefuses out) (λ r n. exported r 0 n) out 0 bytes
      (record { number = inr (inr (inr refl)); unchanged = λ r e. ap (λ (k : ℕ). leaves (exported k 0 0) out) e; position = λ _. refl })
      (λ n after. record { number = inl refl; unchanged = λ r e. absurd (omega arith); position = λ _. refl })
  export_accepted false q bytes = log_refuses 9 q (inr refl)

  export_read : (log : List ℕ) (k : Cursor) (x : Read) → Fine log k x → (work : Left Exported (List ℕ)) → ExportRefuses out work
      → ExportRefuses out (unless (number_of x) (λ r. leaves (exported r (position_of x) 0) out) work)
  export_read log k (Next f j) h work w = w
  export_read log k Done h work w = w
  export_read log k (Refused n q) (inl e, at) work w = rw e (log_refuses 8 q (inl refl))
  export_read log k (Refused n q) (inr e, at) work w = rw e (log_refuses 9 q (inr refl))

pub export_refuses : (log out : List ℕ) → ExportRefuses out (export_of log out)
unfolding export_of
export_refuses log out =
    let w = walk_log log in
    export_read out log w.stop (read_at log w.stop) (read_fine log w.stop) _
    (export_accepted out (plain w.fields) _ _)

-- ---- an export and a replay

-- behind a field the start is over
abbrev Begun : Read → Type 0
Begun (Next f j) = 1 ≤ j.turn
Begun Done = Unit {0}
Begun (Refused r q) = Unit {0}

turn_begun : (f : Field) → 1 ≤ turn_after f
turn_begun (Start n) = omega arith
turn_begun (Reserve n) = omega arith
turn_begun (Release q) = omega arith
turn_begun (Resize q n) = omega arith
turn_begun End = omega arith

read_begun : (log : List ℕ) (k : Cursor) → Begun (read_at log k)
unfolding read_at
read_begun log k =
    let n = bytes_left log k.at in
    let h = number_at log k.at 3 in
    let f = field_of log (k.at + 3) h in
    cond_cases Begun (leb 2 k.turn) (λ _. cond_cases Begun (eqb n 0) (λ _. tt) (λ _. tt))
    (λ _. cond_cases Begun (ltb n 3) (λ _. tt)
    (λ _. cond_cases Begun (not (due k.turn h)) (λ _. tt)
    (λ _. cond_cases Begun (ltb n (field_bytes h)) (λ _. tt)
    (λ _. cond_cases Begun (not (within 1 16 f)) (λ _. tt) (λ _. turn_begun f)))))

no_start : (turn : ℕ) → 1 ≤ turn → due turn 65537 ≡ true → ⊥
unfolding due
no_start zero l d = absurd (omega arith)
no_start (suc zero) l d = false≢true d
no_start (suc (suc t)) l d = false≢true d

module _ (c : ℕ) (log : List ℕ) where
  -- a start that is read at a cursor has the pool's count
  abbrev Counts : Cursor → Type 0
  Counts k = (n : ℕ) (j : Cursor) → read_at log k ≡ Next (Start n) j → n ≡ c

  -- behind a field there is none
  later : {f : Field} (k j : Cursor) → read_at log k ≡ Next f j → Counts j
  later k j e n i s = absurd (no_start j.turn (subst Begun e (read_begun log k)) (subst (Fine log j) s (read_fine log j)).0)

  abbrev end_of : Cursor → Read
  end_of k = read_at log (walk (read_at log) (length log) k).stop

  end_here : {r : Read} (k : Cursor) → read_at log k ≡ r → Ends r → end_of k ≡ r
  end_here k e ends = ap (λ (w : Walk). read_at log w.stop) (walk_ends (read_at log) (length log) (sym e) ends) ∙ e

  end_next : {f : Field} (k j : Cursor) → read_at log k ≡ Next f j → end_of k ≡ end_of j
  end_next k j e = ap (λ (w : Walk). read_at log w.stop) (walk_next (read_at log) (length log) (log_moves log) (sym e))

  -- a run stops with the number and the position of what is read where no field is
  abbrev Tells : Run → Read → Type 0
  Tells x r = (x.refusal ≡ number_of r) × (x.position ≡ position_of r)

  run_tells : {k : Cursor} {p : Pool} {x : Run} → Plays c log k p x → Counts k → Tells x (end_of k)
  run_tells (log_done {k} e) s = rw (end_here k e Ends.done) (refl, refl)
  run_tells (log_refused {k} e) s = rw (end_here k e Ends.refused) (refl, refl)
  run_tells (other_count {j = j} {n = n} e o) s = absurd (o (s n j e))
  run_tells (start_field {k} {j} e w) s = rw (end_next k j e) (run_tells w (later k j e))
  run_tells (reserve_field {k} {j} e w) s = rw (end_next k j e) (run_tells w (later k j e))
  run_tells (release_field {k} {j} e w) s = rw (end_next k j e) (run_tells w (later k j e))
  run_tells (resize_field {k} {j} e w) s = rw (end_next k j e) (run_tells w (later k j e))
  run_tells (end_field {k} {j} e w) s = rw (end_next k j e) (run_tells w (later k j e))

pub export_replay : (c : ℕ) (p : Pool) (log out : List ℕ) (r : ℕ) → fit c p ≡ true
    → ((n : ℕ) (k : Cursor) → read_at log outset ≡ Next (Start n) k → n ≡ c)
    → (replay_of c p log).answer.refusal ≡ suc r → export_of log out ≡ leaves (exported (suc r) (replay_of c p log).answer.position 0) out
unfolding export_of replay_of walk_log
export_replay c p log out r fits counts e =
    let end = end_of c log outset in
    let (number, position) = subst (λ (x : Run). Tells c log x end) (run_fit c p log fits) (run_tells c log (plays_all c p log) counts) in
    sym (refused (number_of end) (suc r) (λ n. leaves (exported n (position_of end) 0) out) _ (sym e ∙ number) (omega arith))
    ∙ ap (λ (q : ℕ). leaves (exported (suc r) q 0) out) (sym position)
