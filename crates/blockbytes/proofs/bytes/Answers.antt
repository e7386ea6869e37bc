-- `blockbytes::bytes` meets its contract. Assumes nothing.
use Prim.Native.Nat.{◌^◌}
use native.Mathlib.Omega.{arith}
use Rattle.blockbytes.proofs.PartLaws.{ends_left, ends_right, ends_low, bytes_left, bytes_right}
use Rattle.blockbytes.proofs.bytes.Goals as goal

pub overflow_add-e : goal.overflow_add-e
overflow_add-e c = record { fits = ends_low _ _ _ _ _ _ c.part_of-x.ensures (2 ^ 64) (omega arith) (omega arith) }

pub returns-then-ear-eq0 : goal.returns-then-ear-eq0
returns-then-ear-eq0 c = bytes_left _ _ _ _ _ _ c.part_of-x.ensures c.if-ear-eq0.true

pub returns-else-ear-eq0 : goal.returns-else-ear-eq0
returns-else-ear-eq0 c = bytes_right _ _ _ _ _ _ c.part_of-x.ensures c.if-ear-eq0.false

pub slice_bounds-result-end : goal.slice_bounds-result-end
slice_bounds-result-end c = ends_left _ _ _ _ _ _ c.part_of-x.ensures c.if-ear-eq0.true

pub slice_bounds-result-end-else-ear-eq0 : goal.slice_bounds-result-end-else-ear-eq0
slice_bounds-result-end-else-ear-eq0 c = ends_right _ _ _ _ _ _ c.part_of-x.ensures c.if-ear-eq0.false
