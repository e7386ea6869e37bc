-- `pagemap::put_foot` meets its contract. Assumes nothing.
use mathlib.Core.Path.{ap}
use native.Mathlib.Omega.{arith}
use Rattle.pagemap.specs.Drawing.{is_svg, foot_of, foot_room}
use Rattle.pagemap.proofs.put_foot.Goals as goal

pub put_filled-requires : goal.put_filled-requires
put_filled-requires c = omega (arith, ap (λ f. foot_room (is_svg f)) c.in-Text.is)

pub returns-in-Text : goal.returns-in-Text
unfolding foot_of
returns-in-Text c = record { text = rw c.in-Text.is (c.put_filled.ensures.appends); room = rw c.in-Text.is (omega arith) }

pub put_filled-requires-in-Svg : goal.put_filled-requires-in-Svg
put_filled-requires-in-Svg c = omega (arith, ap (λ f. foot_room (is_svg f)) c.in-Svg.is)

pub returns-in-Svg : goal.returns-in-Svg
unfolding foot_of
returns-in-Svg c = record { text = rw c.in-Svg.is (c.put_filled-in-Svg.ensures.appends); room = rw c.in-Svg.is (omega arith) }
