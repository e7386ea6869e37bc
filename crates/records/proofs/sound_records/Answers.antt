-- `records::sound_records` meets its contract. Assumes nothing.
use Rattle.records.proofs.RunLaws.{sound_runs}
use Rattle.records.proofs.FreshLaws.{fresh_sound}
use Rattle.records.proofs.sound_records.Goals as goal

pub returns : goal.returns
returns c = record { runs = sound_runs; fresh = fresh_sound }
