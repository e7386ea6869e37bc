-- Demand 1: what a refused call answers and leaves. Assumes nothing.
use mathlib.Core.Path.{◌≡◌, refl, sym, ap, ◌∙◌}
use mathlib.Core.Logic.{◌↔◌}
use mathlib.Core.Bool.{Bool, true, false, cond, false≢true}
use mathlib.Core.List.{List, []}
use Prim.Native.Nat.{ℕ, zero, suc, ◌*◌}
use native.Mathlib.Omega.{arith}
use lib.Dec.{leb, ltb}
use lib.ListN.{length, take, drop}
use lib.Seq.{sets}
use borrow.Author.Tests.{leb-true, leb-false, le-ltb, lt-ltb}
use Rattle.refusals.specs.Refusals.{unless, shape, short_room}
use Rattle.refusals.proofs.CallLaws as calls
use Rattle.records.specs.Pool.{Pool}
use Rattle.records.specs.Sound.{sound}
use Rattle.records.specs.Calls.{fit, shape_of, admit_of, Left, leaves, fresh_pool, fresh_of}
use Rattle.records.proofs.AdmitLaws.{shape_fits}
use Rattle.blocks.proofs.KeepLaws.{admit_good, good_admit}
use Rattle.reserve.specs.declared.Reserved.{Reserved}
use Rattle.reserve.specs.Reserve.{refused, serve, reserve_of}
use Rattle.reserve.proofs.ReadyLaws.{serve_kept}
use Rattle.sweep.specs.declared.Swept.{Swept}
use Rattle.sweep.specs.Sweep.{empty_from, swept, gained, sweep_of}
use Rattle.release.specs.declared.Sized.{Sized}
use Rattle.release.specs.declared.Spot.{Spot}
use Rattle.release.specs.declared.Spot.TheVariants as spots
use Rattle.release.specs.Release.{spot, give, release_of, sized, size_at, size_of}
use Rattle.release.proofs.MeanLaws.{give_kept}
use Rattle.resize.specs.declared.Resized.{Resized}
use Rattle.resize.specs.Resize.{resize_of}
use Rattle.resize.specs.Resize as resizing
use Rattle.resize.proofs.MeanLaws.{resize_kept}
use Rattle.std.specs.Prelude.{Option, Some, None}
use Rattle.next.specs.declared.Found.{Found}
use Rattle.next.specs.declared.Next.{Next}
use Rattle.next.specs.Next.{first_from, answered, answer_of, next_of}
use Rattle.blocks.specs.Blocks.{live}
use Rattle.census.specs.declared.Counted.{Counted}
use Rattle.census.specs.Census.{counted, list, census_of}
use Rattle.census.proofs.MeanLaws.{list_kept}
use Rattle.totals.specs.declared.Sums.{Sums}
use Rattle.totals.specs.Totals.{totalled, summed, totals_of}
use Rattle.blockbytes.specs.declared.Part.{Part}
use Rattle.blockbytes.specs.Bytes.{chosen, bytes_of, bytes_refusal_of}
use Rattle.blockbytes.proofs.PartLaws.{part_checked, part_kept}
use Rattle.replay.specs.Run.{Run, ended, run_all, run_of, replayed, replay_of}
use Rattle.replay.proofs.MeanLaws.{numbers, unstarted, started, accepted, stopped}
use Rattle.replay.proofs.PrefixLaws.{replay_prefix}
use Rattle.lines.specs.Lines.{transcript, lines_room, printed, telling, printed_of}
use Rattle.writer.specs.declared.Appended.{Appended}
use Rattle.writer.specs.Append.{appended, append_as}
use Rattle.demands.specs.Demand1.{Refuses, ear_of, room_of, append_first, Replays, Demand1}
use Rattle.demands.proofs.ExchangeClaim.{append_work, append_joined, import_refuses, export_refuses, export_replay}

-- ---- the check

module _ (c : ℕ) (p : Pool) where
  check_unfit : (admit_of c p ≡ 1) ↔ (fit c p ≡ false)
  unfolding admit_of
  check_unfit = go (fit c p) (sound c p)
    where
      go : (v u : Bool) → (◌≡◌ {A = ℕ} (cond v (cond u 0 2) 1) 1) ↔ (v ≡ false)
      go true true = (λ e. absurd (omega arith), λ e. absurd (false≢true (sym e)))
      go true false = (λ e. absurd (omega arith), λ e. absurd (false≢true (sym e)))
      go false u = (λ e. refl, λ e. refl)

  check_unsound : (admit_of c p ≡ 2) ↔ ((fit c p ≡ true) × (sound c p ≡ false))
  unfolding admit_of
  check_unsound = go (fit c p) (sound c p)
    where
      go : (v u : Bool) → (◌≡◌ {A = ℕ} (cond v (cond u 0 2) 1) 2) ↔ ((v ≡ true) × (u ≡ false))
      go true true = (λ e. absurd (omega arith), λ e. absurd (false≢true (sym e.1)))
      go true false = (λ e. (refl, refl), λ e. refl)
      go false u = (λ e. absurd (omega arith), λ e. absurd (false≢true e.0))

-- ---- calls that check first

-- the work, behind the checks, gives and changes nothing where it refuses
refuses_by : {A : Type 0} (first : ℕ) (number : A → ℕ) (nothing : ℕ → A) (work : A) → ((r : ℕ) → number (nothing r) ≡ r)
    → ((r : ℕ) → number work ≡ suc r → work ≡ nothing (suc r)) → Refuses first number nothing (unless first nothing work)
refuses_by zero number nothing work back kept = record { checked = λ r e. absurd (omega arith); unchanged = kept }
refuses_by (suc n) number nothing work back kept =
    record { checked = λ r e. ap nothing e; unchanged = λ r e. ap nothing (sym (back (suc n)) ∙ e) }

size_kept : (x : Spot) (r : ℕ) → (size_at x).refusal ≡ suc r → size_at x ≡ sized (suc r) 0
size_kept (spots.Nowhere n) r e = ap (λ (k : ℕ). sized k 0) e
size_kept (spots.Run g k) r e = absurd (omega arith)
size_kept (spots.Slot g b s) r e = absurd (omega arith)

next_kept : (x : Option Found) (r : ℕ) → (answer_of x).refusal ≡ suc r → answer_of x ≡ answered (suc r) 0 0
next_kept (Some x) r e = absurd (omega arith)
next_kept None r e = absurd (omega arith)

module _ (c : ℕ) (p : Pool) where
  fresh_refuses : Refuses (shape_of c p) (λ x. x.answer) (λ r. leaves r p) (fresh_of c p)
  unfolding fresh_of
  fresh_refuses =
      refuses_by (shape_of c p) (λ (x : Left ℕ Pool). x.answer) (λ r. leaves r p) (leaves 0 (fresh_pool c)) (λ r. refl) (λ r e. absurd (omega arith))

  reserve_refuses : (n : ℕ) → Refuses (admit_of c p) (λ x. x.answer.refusal) (λ r. leaves (refused r) p) (reserve_of c p n)
  unfolding reserve_of
  reserve_refuses n =
      refuses_by (admit_of c p) (λ (x : Left Reserved Pool). x.answer.refusal) (λ r. leaves (refused r) p) (serve c p n) (λ r. refl)
      (serve_kept c p n)

  sweep_refuses : Refuses (admit_of c p) (λ x. x.answer.refusal) (λ r. leaves (gained r 0) p) (sweep_of c p)
  unfolding sweep_of
  sweep_refuses =
      refuses_by (admit_of c p) (λ (x : Left Swept Pool). x.answer.refusal) (λ r. leaves (gained r 0) p)
      (leaves (gained 0 (empty_from p 0 (512 * c))) (swept c p)) (λ r. refl) (λ r e. absurd (omega arith))

  release_refuses : (q : ℕ) → Refuses (admit_of c p) (λ x. x.answer) (λ r. leaves r p) (release_of c p q)
  unfolding release_of
  release_refuses q =
      refuses_by (admit_of c p) (λ (x : Left ℕ Pool). x.answer) (λ r. leaves r p) (give c p q) (λ r. refl) (give_kept c p q)

  resize_refuses : (q n : ℕ) → Refuses (admit_of c p) (λ x. x.answer.refusal) (λ r. leaves (resizing.refused r) p) (resize_of c p q n)
  unfolding resize_of
  resize_refuses q n =
      refuses_by (admit_of c p) (λ (x : Left Resized Pool). x.answer.refusal) (λ r. leaves (resizing.refused r) p) (resizing.resize c p q n) (λ r. refl)
      (resize_kept c p q n)

  size_refuses : (q : ℕ) → Refuses (admit_of c p) (λ x. x.refusal) (λ r. sized r 0) (size_of c p q)
  unfolding size_of
  size_refuses q =
      refuses_by (admit_of c p) (λ (x : Sized). x.refusal) (λ r. sized r 0) (size_at (spot c p q)) (λ r. refl) (size_kept (spot c p q))

  next_refuses : (q : ℕ) → Refuses (admit_of c p) (λ x. x.refusal) (λ r. answered r 0 0) (next_of c p q)
  unfolding next_of
  next_refuses q =
      refuses_by (admit_of c p) (λ (x : Next). x.refusal) (λ r. answered r 0 0) (answer_of (first_from q (live c p))) (λ r. refl)
      (next_kept (first_from q (live c p)))

  census_refuses : (room : List ℕ) → Refuses (admit_of c p) (λ x. x.answer.refusal) (λ r. leaves (counted r 0) room) (census_of c p room)
  unfolding census_of
  census_refuses room =
      refuses_by (admit_of c p) (λ (x : Left Counted (List ℕ)). x.answer.refusal) (λ r. leaves (counted r 0) room) (list c p room) (λ r. refl)
      (list_kept c p room)

  totals_refuses : Refuses (admit_of c p) (λ x. x.refusal) (λ r. totalled r 0 0 0) (totals_of c p)
  unfolding totals_of summed
  totals_refuses =
      refuses_by (admit_of c p) (λ (x : Sums). x.refusal) (λ r. totalled r 0 0 0) (summed c p) (λ r. refl) (λ r e. absurd (omega arith))

module _ (ear c : ℕ) (p : Pool) (q : ℕ) (left right : List ℕ) where
  bytes_refuses : Refuses (ear_of ear c p left right) (λ (x : ℕ × List ℕ). x.0) (λ r. (r, []))
      (bytes_refusal_of ear c p q left right, bytes_of ear c p q left right)
  unfolding bytes_refusal_of bytes_of admit_of
  bytes_refuses =
      record {
        checked = λ r e. ap cut (part_checked ear c p q (length left) (length right) r e);
        unchanged = λ r e. ap cut (part_kept ear c p q (length left) (length right) r e);
      }
    where
      cut : Part → ℕ × List ℕ
      cut x = (x.refusal, take x.size (drop x.start (chosen ear left right)))

module _ (log : List ℕ) (n tag x y : ℕ) where
  append_refuses : Refuses (append_first log n tag x y) (λ z. z.answer.refusal) (λ r. leaves (appended r 0) log) (append_as log n tag x y)
  append_refuses =
      rw (append_joined log n tag x y)
      (refuses_by (append_first log n tag x y) (λ (z : Left Appended (List ℕ)). z.answer.refusal) (λ r. leaves (appended r 0) log)
      (append_work log n tag x y) (λ r. refl) (λ r e. absurd (omega arith)))

-- ---- a replay

module _ (c : ℕ) (p : Pool) (log : List ℕ) where
  replay_checked : (r : ℕ) → shape_of c p ≡ suc r → replay_of c p log ≡ leaves (replayed (suc r) 0) p
  unfolding replay_of run_of
  replay_checked r e =
      ap (λ (x : Run). leaves (replayed x.refusal x.position) x.left)
      (sym (calls.refused (shape_of c p) (suc r) (λ k. ended k 0 p) (run_all c p log) (sym e) (omega arith)))

  replay_stands : Replays c p log
  unfolding replay_of
  replay_stands =
      record {
        checked = replay_checked;
        number = λ e. numbers c p log (shape_fits c p e);
        stand = λ r e. let (events, pool) = replay_prefix c p log r e in (sym pool, sym events);
        position = stopped c p log;
        accepted = accepted c p log;
        unstarted = unstarted c p log;
        started = started c p log;
      }

  -- ---- its lines

  module _ (out : List ℕ) where
    lines_checked : (r : ℕ) → room_of c p log out ≡ suc r → printed_of c p log out ≡ leaves (printed (suc r) 0 0) (p, out)
    unfolding printed_of shape_of
    lines_checked r e = go (fit c p) (leb (lines_room (length log)) (length out)) refl e
      where
        go : (v u : Bool) → leb (lines_room (length log)) (length out) ≡ u → ◌≡◌ {A = ℕ} (cond v (cond u 0 short_room) shape) (suc r)
            → unless (cond v 0 shape) (λ k. leaves (printed k 0 0) (p, out))
            (cond (ltb (length out) (lines_room (length log))) (leaves (printed short_room 0 0) (p, out)) (telling c (run_of c p log) out))
            ≡ leaves (printed (suc r) 0 0) (p, out)
        go true true f x = absurd (omega arith)
        go true false f x = rw (lt-ltb _ _ (leb-false _ _ f)) (ap (λ (k : ℕ). leaves (printed k 0 0) (p, out)) x)
        go false u f x = ap (λ (k : ℕ). leaves (printed k 0 0) (p, out)) x

    lines_replay : room_of c p log out ≡ 0 → (text : List ℕ) → text ≡ transcript c (run_of c p log)
        → printed_of c p log out
        ≡ leaves (printed (replay_of c p log).answer.refusal (replay_of c p log).answer.position (length text)) ((replay_of c p log).left, sets out 0 text)
    unfolding printed_of shape_of replay_of telling
    lines_replay e text t = go (fit c p) (leb (lines_room (length log)) (length out)) refl e
      where
        x : Run
        x = run_of c p log

        go : (v u : Bool) → leb (lines_room (length log)) (length out) ≡ u → ◌≡◌ {A = ℕ} (cond v (cond u 0 short_room) shape) 0
            → unless (cond v 0 shape) (λ k. leaves (printed k 0 0) (p, out))
            (cond (ltb (length out) (lines_room (length log))) (leaves (printed short_room 0 0) (p, out)) (telling c x out))
            ≡ leaves (printed x.refusal x.position (length text)) (x.left, sets out 0 text)
        go true true f z = rw (le-ltb _ _ (leb-true _ _ f), t)
        go true false f z = absurd (omega arith)
        go false u f z = absurd (omega arith)

pub demand_1 : Demand1
demand_1 =
    record {
      unfit = check_unfit;
      unsound = check_unsound;
      good = λ c p. (admit_good c p, good_admit c p);
      fresh = fresh_refuses;
      reserve = reserve_refuses;
      sweep = sweep_refuses;
      release = release_refuses;
      resize = resize_refuses;
      size = size_refuses;
      next = next_refuses;
      census = census_refuses;
      totals = totals_refuses;
      bytes = bytes_refuses;
      replay = replay_stands;
      lines_checked = lines_checked;
      lines_replay = lines_replay;
      append = append_refuses;
      import = import_refuses;
      export = export_refuses;
      export_replay = export_replay;
    }
