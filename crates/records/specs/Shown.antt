-- The pool that lent records show. Assumes nothing.
use Rattle.records.specs.declared.Records.{Records}
use Rattle.records.specs.Pool.{Pool}
use Rattle.records.specs.Lent.{lent}

abbrev pub pool_of : Records → Pool
pool_of r = lent r.bits.now r.words.now r.slots.now
