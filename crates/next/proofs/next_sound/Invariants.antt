-- `next::next_sound` meets its contract. Assumes nothing.
use Prim.Native.Nat.{◌+◌, ◌-◌, ◌*◌, ◌≤◌}
use Rattle.records.specs.Pool.{pool}
use Rattle.next.specs.Walk.{Ahead}
use Rattle.next.proofs.next_sound.Given as goal

abbrev pub invariant-loop-slot : goal.invariant-loop-slot
invariant-loop-slot l = Ahead l.pool.chunks (pool l.pool.bits.now l.pool.words.now l.pool.slots.now) l.q l.g l.slot

abbrev pub decreases-loop-slot : goal.decreases-loop-slot
decreases-loop-slot l = l.n - l.slot

abbrev pub invariant-loop-page : goal.invariant-loop-page
invariant-loop-page l =
    record {
      some : 1 ≤ l.page;
      few : l.page ≤ 512;
      ahead : Ahead l.pool.chunks (pool l.pool.bits.now l.pool.words.now l.pool.slots.now) l.q (512 * l.chunk + l.page) l.slot;
    }

abbrev pub decreases-loop-page : goal.decreases-loop-page
decreases-loop-page l = 512 - l.page

abbrev pub invariant-search : goal.invariant-search
invariant-search l =
    record {
      inside : l.chunk ≤ l.pool.chunks;
      some : 1 ≤ l.page;
      few : l.page ≤ 512;
      ahead : Ahead l.pool.chunks (pool l.pool.bits.now l.pool.words.now l.pool.slots.now) l.q (512 * l.chunk + l.page) l.slot;
    }

abbrev pub decreases-search : goal.decreases-search
decreases-search l = l.pool.chunks - l.chunk
