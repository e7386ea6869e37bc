-- `wording::put_line` meets its contract. Assumes nothing.
use mathlib.Core.Path.{ap}
use native.Mathlib.Omega.{arith}
use Rattle.events.specs.Doing.{event_bytes}
use Rattle.wording.specs.Wording.{line_of}
use Rattle.wording.proofs.WordLaws.{line_as, line_none}
use Rattle.wording.proofs.put_line.Goals as goal

pub put_filled-requires : goal.put_filled-requires
put_filled-requires c = omega (arith, ap event_bytes c.in-Started.is)

pub put_filled-requires-in-Served : goal.put_filled-requires-in-Served
put_filled-requires-in-Served c = omega (arith, ap event_bytes c.in-Served.is)

pub put_filled-requires-in-Denied : goal.put_filled-requires-in-Denied
put_filled-requires-in-Denied c = omega (arith, ap event_bytes c.in-Denied.is)

pub put_filled-requires-in-Freed : goal.put_filled-requires-in-Freed
put_filled-requires-in-Freed c = omega (arith, ap event_bytes c.in-Freed.is)

pub put_filled-requires-in-Unfreed : goal.put_filled-requires-in-Unfreed
put_filled-requires-in-Unfreed c = omega (arith, ap event_bytes c.in-Unfreed.is)

pub put_filled-requires-in-Kept : goal.put_filled-requires-in-Kept
put_filled-requires-in-Kept c = omega (arith, ap event_bytes c.in-Kept.is)

pub put_filled-requires-in-Moved : goal.put_filled-requires-in-Moved
put_filled-requires-in-Moved c = omega (arith, ap event_bytes c.in-Moved.is)

pub put_filled-requires-in-Unresized : goal.put_filled-requires-in-Unresized
put_filled-requires-in-Unresized c = omega (arith, ap event_bytes c.in-Unresized.is)

pub returns-in-Started : goal.returns-in-Started
unfolding line_of
returns-in-Started c =
    let both = line_as c.in-Started.is c.put_filled.ensures.appends (omega arith) in record { text = both.0; room = both.1 }

pub returns-in-Served : goal.returns-in-Served
unfolding line_of
returns-in-Served c =
    let both = line_as c.in-Served.is c.put_filled-in-Served.ensures.appends (omega arith) in record { text = both.0; room = both.1 }

pub returns-in-Denied : goal.returns-in-Denied
unfolding line_of
returns-in-Denied c =
    let both = line_as c.in-Denied.is c.put_filled-in-Denied.ensures.appends (omega arith) in record { text = both.0; room = both.1 }

pub returns-in-Freed : goal.returns-in-Freed
unfolding line_of
returns-in-Freed c =
    let both = line_as c.in-Freed.is c.put_filled-in-Freed.ensures.appends (omega arith) in record { text = both.0; room = both.1 }

pub returns-in-Unfreed : goal.returns-in-Unfreed
unfolding line_of
returns-in-Unfreed c =
    let both = line_as c.in-Unfreed.is c.put_filled-in-Unfreed.ensures.appends (omega arith) in record { text = both.0; room = both.1 }

pub returns-in-Kept : goal.returns-in-Kept
unfolding line_of
returns-in-Kept c =
    let both = line_as c.in-Kept.is c.put_filled-in-Kept.ensures.appends (omega arith) in record { text = both.0; room = both.1 }

pub returns-in-Moved : goal.returns-in-Moved
unfolding line_of
returns-in-Moved c =
    let both = line_as c.in-Moved.is c.put_filled-in-Moved.ensures.appends (omega arith) in record { text = both.0; room = both.1 }

pub returns-in-Unresized : goal.returns-in-Unresized
unfolding line_of
returns-in-Unresized c =
    let both = line_as c.in-Unresized.is c.put_filled-in-Unresized.ensures.appends (omega arith) in record { text = both.0; room = both.1 }

pub returns-in-Ended : goal.returns-in-Ended
returns-in-Ended c =
    let both = line_as c.in-Ended.is line_none (omega arith) in record { text = both.0; room = both.1 }
