-- The pool that the programs draw (RULES 9.4). Assumes nothing.
use Rattle.std.specs.Prelude.{◌≡◌, List, ℕ, ◌≤◌, length, Option}
use Rattle.std.specs.Io.KnownBytes.{Consumes}
use Rattle.records.specs.Pool.{Pool}
use Rattle.records.specs.Calls.{fresh_of}
use Rattle.replay.specs.Run.{replay_of}

-- q is what a replay leaves of p, made fresh before it, for some log of at most 16,384 bytes
pub record FromLog (p q : Pool) : Type 0 where
  pub log : List ℕ
  pub short : length log ≤ 16384
  pub left : q ≡ (replay_of 1 (fresh_of 1 p).left log).left

-- The same of a log that was taken from the front of an input's bytes, where these are known: those that were left in it before and after. That
-- the log is standard input no contract can say: nothing is known of the bytes that a read of that gives
pub record FromInput (known after : Option (List ℕ)) (p q : Pool) : Type 0 where
  pub log : List ℕ
  pub short : length log ≤ 16384
  pub taken : Consumes known after log
  pub left : q ≡ (replay_of 1 (fresh_of 1 p).left log).left
