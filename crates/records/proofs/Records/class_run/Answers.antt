-- `records::Records::class_run` meets its contract. Assumes nothing.
use mathlib.Core.Path.{refl}
use Rattle.records.proofs.AdmitLaws.{admitted}
use Rattle.records.proofs.RunLaws.{lies_in}
use Rattle.records.proofs.Records.class_run.Goals as goal

pub overflow_sub-result : goal.overflow_sub-result
overflow_sub-result c =
    (lies_in _ _ (admitted _ _ c.args.self.now.sound).whole _ c.requires.inside c.requires.class _ c.word-w.ensures.value c.word-w.ensures.low _ _ refl refl).0

pub returns : goal.returns
returns c =
    (lies_in _ _ (admitted _ _ c.args.self.now.sound).whole _ c.requires.inside c.requires.class _ c.word-w.ensures.value c.word-w.ensures.low _ _ refl refl).1
