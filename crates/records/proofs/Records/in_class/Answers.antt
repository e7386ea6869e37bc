-- `records::Records::in_class` meets its contract. Assumes nothing.
use native.Mathlib.Omega.{arith}
use Rattle.records.proofs.AdmitLaws.{admitted}
use Rattle.records.proofs.RunLaws.{in_class_lem}
use Rattle.records.proofs.Records.in_class.Goals as goal

pub returns : goal.returns
returns c =
    rw c.word.ensures.value (in_class_lem _ _ (admitted _ _ c.args.self.now.sound).whole _ c.requires
    (let v = c.word.ensures.value in let l = c.word.ensures.low in omega arith))
