-- `readlog::replay_input` meets its contract. Assumes nothing.
use native.Mathlib.Omega.{arith}
use Rattle.readlog.proofs.InputLaws.{from_read, from_taken}
use Rattle.readlog.proofs.replay_input.Goals as goal

pub returns : goal.returns
returns g c = record {
  from_log = from_read _ _ _ c.replay_fresh-r.ensures (omega arith);
  from_input = from_taken _ _ _ c.replay_fresh-r.ensures (omega arith) c.read_full-n.ensures.taken;
}
