-- Demand 2: every call follows its rules. Assumes nothing.
use mathlib.Core.Path.{◌≡◌, refl, sym, ap, ◌∙◌, subst}
use mathlib.Core.Logic.{by_cases}
use mathlib.Core.List.{List, ◌++◌}
use Prim.Native.Nat.{ℕ, ◌+◌, ◌*◌, ◌≤◌, ◌<◌}
use native.Mathlib.Decide.{dec_le}
use native.Mathlib.Omega.{arith}
use lib.ListN.{length, drop}
use Rattle.bitrow.specs.Row.{count_bits}
use Rattle.records.specs.Pool.{Pool}
use Rattle.records.specs.Calls.{Left, leaves}
use Rattle.records.proofs.FreshLaws.{fresh_served}
use Rattle.blocks.specs.Blocks.{Block, live}
use Rattle.blocks.specs.Stores.{Good}
use Rattle.blocks.proofs.ApartLaws.{live_is}
use Rattle.blocks.proofs.KeepLaws.{good_admit, fresh_empty, fresh_good}
use Rattle.blocks.proofs.SwapLaws.{ins_in}
use Rattle.reserve.proofs.ReadyLaws.{reserve_gains}
use Rattle.release.proofs.MeanLaws.{live_served, live_sized}
use Rattle.release.specs.Release.{release_of}
use Rattle.sweep.specs.declared.Swept.{Swept}
use Rattle.sweep.specs.Sweep.{empty_from, swept, sweep_of, Sweeps}
use Rattle.sweep.proofs.SweepLaws.{sweeps, sweep_count, sweep_by, sweep_idle}
use Rattle.census.specs.Census.{words_for, counted, census_of}
use Rattle.census.proofs.MeanLaws.{census_lists, census_short}
use Rattle.totals.specs.declared.Sums.{Sums}
use Rattle.totals.specs.Totals.{given, run_pages, totalled, summed, totals_of}
use Rattle.totals.proofs.PageLaws.{free_read, pages_add, totals_by}
use Rattle.blockbytes.proofs.PartLaws.{bytes_cut, bytes_none}
use Rattle.demands.specs.Demand2.{Reserves, Releases, Resizes, Nexts, Follows, Demand2}
use Rattle.demands.proofs.ReserveRules.{by_rule, rule, size_holds, page_stays}
use Rattle.demands.proofs.ResizeRules.{by_change, change_rule, swaps_there, resized_holds, grows_by, recut_by, copied}
use Rattle.demands.proofs.PlayRules.{log_plays, written_plays}
use Rattle.demands.proofs.PlaceRules.{by_place, place_rule, block_lost, unsized, serves_again, pages_freed, room_freed, by_next, next_rule}

totals_sum : (c : ℕ) (p : Pool) → Good c p → totals_of c p ≡ totalled 0 (length (live c p)) (given (live c p)) (totals_of c p).free
unfolding summed
totals_sum c p h =
    let e = totals_by c p h in e ∙ ap (λ (x : Sums). totalled 0 (length (live c p)) (given (live c p)) x.free) (sym e)

-- a sweep: the records, the free pages and every census
module _ (c : ℕ) (p : Pool) (h : Good c p) where
  left_is : (sweep_of c p).left ≡ swept c p
  left_is = ap (λ (x : Left Swept Pool). x.left) (sweep_by c p h)

  left_good : Good c (sweep_of c p).left
  left_good = subst (Good c) (sym left_is) (sweeps c p h).stays.good

  free_is : (q : Pool) → Good c q → (totals_of c q).free + count_bits q.bits 0 (512 * c) ≡ 512 * c
  unfolding summed
  free_is q g =
      let r = free_read c q (good_admit c q g) (512 * c) (count_bits q.bits 0 (512 * c)) refl refl in
      ap (λ (x : Sums). x.free + count_bits q.bits 0 (512 * c)) (totals_by c q g) ∙ omega arith

  pages_gained : (totals_of c (sweep_of c p).left).free ≡ (totals_of c p).free + (sweep_of c p).answer.pages
  pages_gained =
      let a = free_is (sweep_of c p).left left_good in let b = free_is p h in let d = sweep_count c p h in
      let e : count_bits (sweep_of c p).left.bits 0 (512 * c) ≡ count_bits (swept c p).bits 0 (512 * c) = ap (λ (q : Pool). count_bits q.bits 0 (512 * c)) left_is in
      let f : (sweep_of c p).answer.pages ≡ empty_from p 0 (512 * c) = ap (λ (x : Left Swept Pool). x.answer.pages) (sweep_by c p h) in
      omega arith

  census_same : (room : List ℕ) → census_of c (sweep_of c p).left room ≡ census_of c p room
  census_same room =
      let l : live c (sweep_of c p).left ≡ live c p = ap (live c) left_is ∙ (sweeps c p h).stays.same in
      by_cases (dec_le (2 * length (live c p)) (length room))
      (λ a. census_lists c (sweep_of c p).left room left_good (subst (λ (x : List Block). 2 * length x ≤ length room) (sym l) a)
      ∙ ap (λ (x : List Block). leaves (counted 0 (length x)) (words_for x ++ drop (2 * length x) room)) l ∙ sym (census_lists c p room h a))
      (λ a. census_short c (sweep_of c p).left room left_good (subst (λ (x : List Block). length room < 2 * length x) (sym l) (omega arith))
      ∙ sym (census_short c p room h (omega arith)))

follows : (c : ℕ) (p : Pool) → Good c p → Follows c p
unfolding summed
follows c p h =
    record {
      reserve = λ n x. (by_rule c p h n, λ e. subst (Reserves c p n) e (rule c p h n));
      holds = λ n. size_holds (rule c p h n);
      gains = reserve_gains c p h;
      stays = page_stays c p h;
      swept = (
        ap (λ (x : Left Swept Pool). x.answer.refusal) (sweep_by c p h),
        subst (Sweeps c p) (sym (left_is c p h)) (sweeps c p h),
      );
      gained = pages_gained c p h;
      listed = census_same c p h;
      idle = λ e. left_is c p h ∙ sweep_idle c p (sym (ap (λ (x : Left Swept Pool). x.answer.pages) (sweep_by c p h)) ∙ e);
      release = λ q x. (by_place c p h q, λ e. subst (Releases c p q) e (place_rule c p h q));
      served = λ q. (
        λ e. let (b, at, less) = block_lost c p h q e in (b, ins_in less.less, at),
        λ x. let (b, m, at) = x in subst (λ (y : ℕ). (release_of c p y).answer ≡ 0) at (live_served c p h (live_is c p m)),
      );
      loses = block_lost c p h;
      again = serves_again c p h;
      freed = pages_freed c p h;
      room = room_freed c p h;
      resize = λ q n x. (by_change c p h q n, λ e. subst (Resizes c p q n) e (change_rule c p h q n));
      swaps = λ q n x e z. (
        swaps_there c p h q n x e z,
        resized_holds c p h (subst (Resizes c p q n) (sym e) (change_rule c p h q n)) z,
      );
      grows = λ g k j n r. grows_by c p h g k r n j;
      recuts = λ g k n r. recut_by c p h g k r n;
      copies = λ q n x e. copied c p h (subst (Resizes c p q n) (sym e) (change_rule c p h q n));
      size = λ b m. live_sized c p h (live_is c p m);
      unsized = unsized c p h;
      next = λ q x. (by_next c p h q, λ e. subst (Nexts c p q) e (next_rule c p h q));
      census = λ room. census_lists c p room h;
      short = λ room. census_short c p room h;
      totals = totals_sum c p h;
      pages = ap (λ (x : Sums). x.free + run_pages c p + c) (totals_by c p h) ∙ pages_add c p h.whole;
      bytes = λ ear left right f b m. bytes_cut ear c p b.place left right f b.size (live_sized c p h (live_is c p m));
      partless = λ ear left right f q r e. bytes_none ear c p q left right f r (unsized c p h q r e);
    }

pub demand_2 : Demand2
demand_2 =
    record {
      follows = follows;
      fresh = λ c p f. (
        ap (λ (x : Left ℕ Pool). x.answer) (fresh_served c p f),
        fresh_good c p f,
        ap (λ (x : Left ℕ Pool). live c x.left) (fresh_served c p f) ∙ fresh_empty c,
      );
      replay = log_plays;
      log = written_plays;
    }
