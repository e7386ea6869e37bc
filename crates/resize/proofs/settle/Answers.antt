-- `resize::settle` meets its contract. Assumes nothing.
use native.Mathlib.Omega.{arith}
use Rattle.resize.proofs.Forms.{spot_low, recut_there, settle_refused, settle_kept, settle_recut, settle_move}
use mathlib.Core.Path.{refl}
use Rattle.resize.proofs.settle.Goals as goal

pub change_of-requires : goal.change_of-requires
change_of-requires c = let ok = c.requires.sound in let at = c.requires.spot in spot_low _ _ ok _ at

pub returns-in-Refuse : goal.returns-in-Refuse
returns-in-Refuse c =
    let both = settle_refused _ _ _ _ _ c.change_of.ensures c.in-Refuse.is c.refused.ensures in record { left = both.0; told = both.1 }

pub returns-in-Stay : goal.returns-in-Stay
returns-in-Stay c =
    let both = settle_kept _ _ _ _ _ c.change_of.ensures c.in-Stay.is c.kept.ensures in record { left = both.0; told = both.1 }

pub recut_run-requires : goal.recut_run-requires
recut_run-requires c =
    let ok = c.requires.sound in let at = c.requires.spot in record { sound = ok; run = (recut_there _ _ _ _ _ c.change_of.ensures ok at c.in-Recut.is).0; pages = (recut_there _ _ _ _ _ c.change_of.ensures ok at c.in-Recut.is).1 }

pub overflow_add-j : goal.overflow_add-j
overflow_add-j c =
    let ok = c.requires.sound in let at = c.requires.spot in
    let few = (recut_there _ _ _ _ _ c.change_of.ensures ok at c.in-Recut.is).1.few in omega arith

pub overflow_mul-j : goal.overflow_mul-j
overflow_mul-j c =
    let ok = c.requires.sound in let at = c.requires.spot in
    let few = (recut_there _ _ _ _ _ c.change_of.ensures ok at c.in-Recut.is).1.few in omega arith

pub returns-in-Recut : goal.returns-in-Recut
returns-in-Recut c =
    let both = settle_recut _ _ _ _ _ c.change_of.ensures c.in-Recut.is c.recut_run.ensures
    refl c.kept-in-Recut.ensures in record { left = both.0; told = both.1 }

pub returns-in-Move : goal.returns-in-Move
returns-in-Move c =
    let both = settle_move _ _ _ _ _ c.change_of.ensures c.in-Move.is in record { left = both.0; told = both.1 }
