-- `marked::reserve_marked` meets its contract. Assumes nothing.
use native.Mathlib.Omega.{arith}
use Rattle.marked.proofs.ReserveLaws.{coded_now, full_now, coded_later}
use Rattle.marked.proofs.reserve_marked.Goals as goal

pub returns-then-r-ne-NO_ROOM : goal.returns-then-r-ne-NO_ROOM
returns-then-r-ne-NO_ROOM c =
    let given = c.reserve_now-r.ensures.given in let marks = c.reserve_now-r.ensures.marks in record { given = coded_now _ _ c.requires.sound _ given c.if-r-ne-NO_ROOM.true; marks = marks }

pub reserve_swept-requires : goal.reserve_swept-requires
reserve_swept-requires c =
    let given = c.reserve_now-r.ensures.given in let marks = c.reserve_now-r.ensures.marks in let (sound, full) = full_now _ _ c.requires.sound _ given (omega arith) in record { sound = sound; marks = marks; full = full }

pub returns : goal.returns
returns c =
    let given = c.reserve_swept.ensures.given in let marks = c.reserve_swept.ensures.marks in record { given = coded_later _ _ c.requires.sound _ c.reserve_now-r.ensures.given (omega arith) given; marks = marks }
