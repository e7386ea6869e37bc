-- `records::Records::class_part` meets its contract. Assumes nothing.
use Rattle.records.proofs.AdmitLaws.{admitted}
use Rattle.records.proofs.RunLaws.{part_is}
use Rattle.records.proofs.Records.class_part.Goals as goal

pub returns : goal.returns
returns c = part_is _ _ (admitted _ _ c.args.self.now.sound).whole _ c.requires _ c.word.ensures.value c.word.ensures.low
