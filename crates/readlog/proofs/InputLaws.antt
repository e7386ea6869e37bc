-- What was read, replayed. Assumes nothing.
use mathlib.Core.Path.{◌≡◌, ap, ◌∙◌}
use mathlib.Core.List.{List}
use Prim.Native.Nat.{ℕ, ◌≤◌}
use lib.ListN.{length}
use Rattle.std.specs.Prelude.{Option}
use Rattle.std.specs.Io.KnownBytes.{Consumes}
use Rattle.records.specs.Pool.{Pool}
use Rattle.records.specs.Calls.{Left, leaves, fresh_of}
use Rattle.replay.specs.declared.Replayed.{Replayed}
use Rattle.replay.specs.Run.{replay_of}
use Rattle.readlog.specs.Input.{FromLog, FromInput}

-- a fresh call, then a replay of what it leaves
pub fresh_replayed : {n : ℕ} {r : Replayed} (p m q : Pool) (log : List ℕ) → leaves n m ≡ fresh_of 1 p → leaves r q ≡ replay_of 1 m log
    → leaves r q ≡ replay_of 1 (fresh_of 1 p).left log
fresh_replayed p m q log e h = h ∙ ap (λ (x : Left ℕ Pool). replay_of 1 x.left log) e

-- the log is what was read
pub from_read : {r : Replayed} (p q : Pool) (log : List ℕ) → leaves r q ≡ replay_of 1 (fresh_of 1 p).left log → length log ≤ 16384
    → FromLog p q
from_read p q log e h = record { log = log; short = h; left = ap (λ (x : Left Replayed Pool). x.left) e }

-- and it was taken from the input
pub from_taken : {r : Replayed} {known after : Option (List ℕ)} (p q : Pool) (log : List ℕ) → leaves r q ≡ replay_of 1 (fresh_of 1 p).left log
    → length log ≤ 16384 → Consumes known after log → FromInput known after p q
from_taken p q log e h t = record { log = log; short = h; taken = t; left = ap (λ (x : Left Replayed Pool). x.left) e }
