-- `records::Records::is_run_of` meets its contract. Assumes nothing.
use Rattle.records.proofs.AdmitLaws.{admitted}
use Rattle.records.proofs.WordLaws.{word_run}
use Rattle.records.proofs.Records.is_run_of.Goals as goal

pub returns : goal.returns
returns c =
    rw (c.word.ensures.value, c.class_word.ensures)
    (word_run _ _ (admitted _ _ c.args.self.now.sound).whole _ c.requires.class _ c.requires.inside)
