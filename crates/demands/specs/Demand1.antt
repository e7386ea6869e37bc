-- Demand 1 (RULES 11): "Whatever numbers, records or log bytes arrive, each call ends, stays inside the memory we lent and answers. A bad
-- one gets its number, with place 0 and size 0, and what we lent is unchanged; in a log, the calls before a bad field stand."
-- That each call ends, answers and stays inside what it is lent is no sentence of this file: it is what the gate proves of the code itself,
-- function by function, and the calls ask nothing of their arguments. The rest stands here, of what the calls answer and leave, whatever
-- they are given. Assumes nothing.
use Rattle.std.specs.Prelude.{◌≡◌, ◌≢◌, ◌⊎◌, ◌↔◌, true, false, List, [], ◌∷◌, ◌++◌, ℕ, suc, ◌+◌, leb, length, take}
use Rattle.std.proofs.lemmas.List.Edits.{sets}
use Rattle.refusals.specs.Refusals.{shape, damaged, short_room, cut_log, bad_field, bad_line, Check, first_of}
use Rattle.records.specs.Pool.{Pool}
use Rattle.records.specs.Sound.{sound}
use Rattle.records.specs.Calls.{fit, shape_of, checks, admit_of, Left, leaves, fresh_of}
use Rattle.blocks.specs.Stores.{Good}
use Rattle.reserve.specs.Reserve.{refused, reserve_of}
use Rattle.sweep.specs.Sweep.{gained, sweep_of}
use Rattle.release.specs.Release.{release_of, sized, size_of}
use Rattle.resize.specs.Resize.{resize_of}
use Rattle.resize.specs.Resize as resizing
use Rattle.next.specs.Next.{answered, next_of}
use Rattle.census.specs.Census.{counted, census_of}
use Rattle.totals.specs.Totals.{totalled, totals_of}
use Rattle.blockbytes.specs.Bytes.{chosen, ear_fits, bytes_of, bytes_refusal_of}
use Rattle.requestlog.specs.declared.Field.TheVariants.{Start}
use Rattle.requestlog.specs.declared.Cursor.{Cursor}
use Rattle.requestlog.specs.declared.Read.TheVariants.{Next}
use Rattle.requestlog.specs.Log.{member, written, outset, read_at}
use Rattle.events.specs.declared.Event.{Event}
use Rattle.replay.specs.Run.{run_of, replayed, replay_of}
use Rattle.events.specs.Doing.{bytes_in}
use Rattle.lines.specs.Lines.{transcript, lines_room, printed, printed_of}
use Rattle.writer.specs.Append.{appended, append_checks, tags, tagged, append_as}
use Rattle.exchange.specs.declared.Imported.{Imported}
use Rattle.exchange.specs.declared.Exported.{Exported}
use Rattle.exchange.specs.Exchange.{imported, import_of, exported, export_of}

-- ---- a call that refuses

-- A call answers and leaves x. `first` is the number of the first of its checks that does not hold (RULES 4.2), 0 where all hold; `number` is
-- the number in x; `nothing r` is a refusal: r with all else 0 or empty, and what was lent as it was
pub record Refuses {A : Type 0} (first : ℕ) (number : A → ℕ) (nothing : ℕ → A) (x : A) : Type 0 where
  -- the first check that does not hold decides
  pub checked : (r : ℕ) → first ≡ suc r → x ≡ nothing (suc r)
  -- and whatever the number, nothing is given and nothing changed
  pub unchanged : (r : ℕ) → number x ≡ suc r → x ≡ nothing (suc r)

-- the ear with its arena, then the shape and the records
abbrev pub ear_of : ℕ → ℕ → Pool → List ℕ → List ℕ → ℕ
ear_of ear c p left right = first_of ((ear_fits ear c (chosen ear (length left) (length right)), shape) ∷ checks c p)

-- the shape, then the room for the text
abbrev pub room_of : ℕ → Pool → List ℕ → List ℕ → ℕ
room_of c p log out = first_of ((fit c p, shape) ∷ (leb (lines_room (length log)) (length out), short_room) ∷ [])

-- a length past the buffer and a tag that no field has, then the log so far and the field, then the room for both (RULES 7.4)
abbrev pub append_first : List ℕ → ℕ → ℕ → ℕ → ℕ → ℕ
append_first log n tag x y =
    let f = tagged tag x y in
    let room : Check = (leb (n + length (written f)) (length log), short_room) in
    first_of ((leb n (length log), shape) ∷ (member tag tags, bad_field) ∷ append_checks log n f ++ (room ∷ []))

-- ---- a replay (RULES 8)

pub record Replays (c : ℕ) (p : Pool) (log : List ℕ) : Type 0 where
  -- 1 before the first byte; else 0, 8 or 9, and never 2
  pub checked : (r : ℕ) → shape_of c p ≡ suc r → replay_of c p log ≡ leaves (replayed (suc r) 0) p
  pub number : shape_of c p ≡ 0
      → ((replay_of c p log).answer.refusal ≡ 0)
      ⊎ (((replay_of c p log).answer.refusal ≡ cut_log) ⊎ ((replay_of c p log).answer.refusal ≡ bad_field))
  -- the calls before a bad field stand: what is left is what the bytes before the position leave, and so are the calls with their answers
  pub stand : (r : ℕ) → (replay_of c p log).answer.refusal ≡ suc r
      → ((replay_of c p log).left ≡ (replay_of c p (take (replay_of c p log).answer.position log)).left)
      × ((run_of c p log).events ≡ (run_of c p (take (replay_of c p log).answer.position log)).events)
  -- the calls are those of the bytes before the position, of all bytes where the log is accepted, at position 0
  pub position : (r : ℕ) → (replay_of c p log).answer.refusal ≡ suc r → bytes_in (run_of c p log).events ≡ (replay_of c p log).answer.position
  pub accepted : (replay_of c p log).answer.refusal ≡ 0
      → (bytes_in (run_of c p log).events ≡ length log) × ((replay_of c p log).answer.position ≡ 0)
  -- before an accepted start nothing changes; from it on the records are sound, whatever they were
  pub unstarted : (run_of c p log).events ≡ [] → (replay_of c p log).left ≡ p
  pub started : (e : Event) (l : List Event) → (run_of c p log).events ≡ e ∷ l → Good c (replay_of c p log).left

-- ---- an import and an export (RULES 9.6, 9.7), which answer and leave x of the buffer out

pub record ImportRefuses (out : List ℕ) (x : Left Imported (List ℕ)) : Type 0 where
  -- 0, 13 or 7
  pub number : (x.answer.refusal ≡ 0) ⊎ ((x.answer.refusal ≡ bad_line) ⊎ (x.answer.refusal ≡ short_room))
  -- whatever the number, the length is 0 and nothing is written; only 13 has a line
  pub unchanged : (r : ℕ) → x.answer.refusal ≡ suc r → x ≡ leaves (imported (suc r) x.answer.line 0) out
  pub line : x.answer.refusal ≢ bad_line → x.answer.line ≡ 0

pub record ExportRefuses (out : List ℕ) (x : Left Exported (List ℕ)) : Type 0 where
  -- 0, 8, 9 or 7
  pub number : (x.answer.refusal ≡ 0)
      ⊎ ((x.answer.refusal ≡ cut_log) ⊎ ((x.answer.refusal ≡ bad_field) ⊎ (x.answer.refusal ≡ short_room)))
  -- whatever the number, the length is 0 and nothing is written; only 8 and 9 have a position
  pub unchanged : (r : ℕ) → x.answer.refusal ≡ suc r → x ≡ leaves (exported (suc r) x.answer.position 0) out
  pub position : (x.answer.refusal ≡ 0) ⊎ (x.answer.refusal ≡ short_room) → x.answer.position ≡ 0

-- ---- the claim

pub record Demand1 : Type 0 where
  -- check: 1 where the shape is not that of c chunks, then 2 where the records are damaged, else 0
  pub unfit : (c : ℕ) (p : Pool) → (admit_of c p ≡ shape) ↔ (fit c p ≡ false)
  pub unsound : (c : ℕ) (p : Pool) → (admit_of c p ≡ damaged) ↔ ((fit c p ≡ true) × (sound c p ≡ false))
  pub good : (c : ℕ) (p : Pool) → (admit_of c p ≡ 0) ↔ Good c p
  -- the other calls
  pub fresh : (c : ℕ) (p : Pool) → Refuses (shape_of c p) (λ x. x.answer) (λ r. leaves r p) (fresh_of c p)
  pub reserve : (c : ℕ) (p : Pool) (n : ℕ) → Refuses (admit_of c p) (λ x. x.answer.refusal) (λ r. leaves (refused r) p) (reserve_of c p n)
  pub sweep : (c : ℕ) (p : Pool) → Refuses (admit_of c p) (λ x. x.answer.refusal) (λ r. leaves (gained r 0) p) (sweep_of c p)
  pub release : (c : ℕ) (p : Pool) (q : ℕ) → Refuses (admit_of c p) (λ x. x.answer) (λ r. leaves r p) (release_of c p q)
  pub resize : (c : ℕ) (p : Pool) (q n : ℕ) → Refuses (admit_of c p) (λ x. x.answer.refusal) (λ r. leaves (resizing.refused r) p) (resize_of c p q n)
  pub size : (c : ℕ) (p : Pool) (q : ℕ) → Refuses (admit_of c p) (λ x. x.refusal) (λ r. sized r 0) (size_of c p q)
  pub next : (c : ℕ) (p : Pool) (q : ℕ) → Refuses (admit_of c p) (λ x. x.refusal) (λ r. answered r 0 0) (next_of c p q)
  pub census : (c : ℕ) (p : Pool) (room : List ℕ)
      → Refuses (admit_of c p) (λ x. x.answer.refusal) (λ r. leaves (counted r 0) room) (census_of c p room)
  pub totals : (c : ℕ) (p : Pool) → Refuses (admit_of c p) (λ x. x.refusal) (λ r. totalled r 0 0 0) (totals_of c p)
  -- both calls, for the number and for the part
  pub bytes : (ear c : ℕ) (p : Pool) (q : ℕ) (left right : List ℕ)
      → Refuses (ear_of ear c p left right) (λ (x : ℕ × List ℕ). x.0) (λ r. (r, [])) (bytes_refusal_of ear c p q left right, bytes_of ear c p q left right)
  pub replay : (c : ℕ) (p : Pool) (log : List ℕ) → Replays c p log
  -- lines: 1 or 7; else what a replay answers and leaves, with its text at the buffer's front
  pub lines_checked : (c : ℕ) (p : Pool) (log out : List ℕ) (r : ℕ) → room_of c p log out ≡ suc r
      → printed_of c p log out ≡ leaves (printed (suc r) 0 0) (p, out)
  pub lines_replay : (c : ℕ) (p : Pool) (log out : List ℕ) → room_of c p log out ≡ 0 → (text : List ℕ) → text ≡ transcript c (run_of c p log)
      → printed_of c p log out
      ≡ leaves (printed (replay_of c p log).answer.refusal (replay_of c p log).answer.position (length text)) ((replay_of c p log).left, sets out 0 text)
  -- append, of a field by its tag and two numbers, as C has it
  pub append : (log : List ℕ) (n tag x y : ℕ)
      → Refuses (append_first log n tag x y) (λ z. z.answer.refusal) (λ r. leaves (appended r 0) log) (append_as log n tag x y)
  pub import : (text out : List ℕ) → ImportRefuses out (import_of text out)
  pub export : (log out : List ℕ) → ExportRefuses out (export_of log out)
  -- a log that a replay refuses, in a pool of the log's own count, is refused by an export, with the same number and position
  pub export_replay : (c : ℕ) (p : Pool) (log out : List ℕ) (r : ℕ) → fit c p ≡ true
      → ((n : ℕ) (k : Cursor) → read_at log outset ≡ Next (Start n) k → n ≡ c)
      → (replay_of c p log).answer.refusal ≡ suc r
      → export_of log out ≡ leaves (exported (suc r) (replay_of c p log).answer.position 0) out
