-- `records::Records::word` meets its contract. Assumes nothing.
use native.Mathlib.Omega.{arith}
use Rattle.records.proofs.AdmitLaws.{admitted}
use Rattle.records.proofs.Records.word.Goals as goal

pub offset_bounds-self-g : goal.offset_bounds-self-g
offset_bounds-self-g c = let s = (admitted _ _ c.args.self.now.sound).shape in omega arith

pub bounds-self-g : goal.bounds-self-g
bounds-self-g c = let s = (admitted _ _ c.args.self.now.sound).shape in omega arith
