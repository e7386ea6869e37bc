-- `pagemap::put_head` meets its contract. Assumes nothing.
use mathlib.Core.Path.{ap}
use native.Mathlib.Omega.{arith}
use Rattle.text.proofs.TextLaws.{appends_none}
use Rattle.pagemap.specs.Drawing.{is_svg, head_of, head_room}
use Rattle.pagemap.proofs.put_head.Goals as goal

pub returns-in-Text : goal.returns-in-Text
unfolding head_of
returns-in-Text c = record { text = rw c.in-Text.is (appends_none); room = rw c.in-Text.is (omega arith) }

pub put_filled-requires : goal.put_filled-requires
put_filled-requires c = omega (arith, ap (λ f. head_room (is_svg f)) c.in-Svg.is)

pub returns-in-Svg : goal.returns-in-Svg
unfolding head_of
returns-in-Svg c = record { text = rw c.in-Svg.is (c.put_filled.ensures.appends); room = rw c.in-Svg.is (omega arith) }
