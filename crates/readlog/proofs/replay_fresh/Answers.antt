-- `readlog::replay_fresh` meets its contract. Assumes nothing.
use Rattle.readlog.proofs.InputLaws.{fresh_replayed}
use Rattle.readlog.proofs.replay_fresh.Goals as goal

pub returns : goal.returns
returns c =
    fresh_replayed _ _ _ _ c.fresh.ensures c.replay.ensures
