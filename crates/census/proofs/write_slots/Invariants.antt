-- `census::write_slots` meets its contract. Assumes nothing.
use Prim.Native.Nat.{◌-◌, ◌≤◌}
use Rattle.records.specs.declared.Kind.TheVariants.{Class}
use Rattle.records.specs.Kinds.{slots_of}
use Rattle.census.specs.Writes.{slot_blocks}
use Rattle.census.proofs.WriteLaws.{Writing}
use Rattle.classes.proofs.ClassLaws.{Cut}
use Rattle.census.proofs.write_slots.Given as goal

abbrev pub invariant-loop-s : goal.invariant-loop-s
invariant-loop-s l = record {
  order : l.from ≤ l.n;
  cut : Cut l.b l.size l.n;
  writes : Writing l.initial.room l.i (slot_blocks l.slots l.g l.b 0 (slots_of (Class l.b))) l.room l.k (slot_blocks l.slots l.g l.b l.from (l.n - l.from));
}

abbrev pub decreases-loop-s : goal.decreases-loop-s
decreases-loop-s l = l.n - l.from
