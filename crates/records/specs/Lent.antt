-- The three lent buffers as one pool: when a call begins, and when it is over. Assumes nothing.
use Rattle.std.specs.Prelude.{List, ℕ}
use Rattle.records.specs.Pool.{Pool, pool}

-- what a lent buffer of numbers holds, and what one that was passed to a call holds at one end of it: as a clause of a contract names them
abbrev pub Buffer : Type 0
Buffer = List ℕ

abbrev pub Passed : Type 0
Passed = Buffer

-- page bits, page words and slot bits as they are: in a `requires`
abbrev pub lent : Buffer → Buffer → Buffer → Pool
lent bits words slots = pool bits words slots

-- in an `ensures`: as the call found them
abbrev pub before : Passed → Passed → Passed → Pool
before bits words slots = lent bits words slots

-- and as it leaves them
abbrev pub after : Passed → Passed → Passed → Pool
after bits words slots = lent bits words slots
