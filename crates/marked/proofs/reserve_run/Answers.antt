-- `marked::reserve_run` meets its contract. Assumes nothing.
use native.Mathlib.Omega.{arith}
use Rattle.records.proofs.AdmitLaws.{admitted}
use Rattle.marked.proofs.ReserveLaws.{run_huge, run_nowhere, run_room, run_put}
use mathlib.Core.Path.{refl}
use Rattle.marked.proofs.reserve_run.Goals as goal

pub returns-then-n-gt2093056 : goal.returns-then-n-gt2093056
returns-then-n-gt2093056 c =
    let sound = c.requires.sound in let large = c.requires.large in let both = run_huge _ _ sound _ large c.if-n-gt2093056.true in record { given = both.0; same = both.1 }

pub find_pages-requires : goal.find_pages-requires
find_pages-requires c =
    let s = (admitted _ _ c.requires.sound).shape in let m = c.pages_for-m.ensures in record { long = omega arith; few = s.few; some = omega arith }

pub put_large-requires : goal.put_large-requires
put_large-requires c =
    let sound = c.requires.sound in let large = c.requires.large in
    run_room _ _ sound _ large _ c.if-n-gt2093056.false c.pages_for-m.ensures c.find_pages.ensures _ c.in-Some.is

pub overflow_mul-result : goal.overflow_mul-result
overflow_mul-result c =
    let sound = c.requires.sound in let large = c.requires.large in
    let r = run_room _ _ sound _ large _ c.if-n-gt2093056.false c.pages_for-m.ensures c.find_pages.ensures _ c.in-Some.is in
    let l = r.low in omega arith

pub returns-in-Some : goal.returns-in-Some
returns-in-Some c =
    let sound = c.requires.sound in let large = c.requires.large in let both = run_put _ _ sound _ large _ c.if-n-gt2093056.false c.pages_for-m.ensures c.find_pages.ensures _ c.in-Some.is refl c.put_large.ensures in record { given = both.0; same = both.1 }

pub returns-in-None : goal.returns-in-None
returns-in-None c =
    let sound = c.requires.sound in let large = c.requires.large in let both = run_nowhere _ _ sound _ large _ c.if-n-gt2093056.false c.pages_for-m.ensures c.find_pages.ensures c.in-None.is in record { given = both.0; same = both.1 }
