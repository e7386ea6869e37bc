-- `pagemap::put_page` meets its contract. Assumes nothing.
use mathlib.Core.Path.{ap}
use native.Mathlib.Omega.{arith}
use Rattle.pagemap.specs.Drawing.{is_svg, text_page, page_room}
use Rattle.pagemap.proofs.put_page.Goals as goal

pub put_filled-requires : goal.put_filled-requires
put_filled-requires c = let room = c.requires.room in omega (arith, ap (λ f. page_room (is_svg f)) c.in-Text.is, room)

pub returns-in-Text : goal.returns-in-Text
unfolding text_page
returns-in-Text c = record { text = rw c.in-Text.is (c.put_filled.ensures.appends); room = rw c.in-Text.is (omega arith) }

pub put_svg_page-requires : goal.put_svg_page-requires
put_svg_page-requires c =
    let e = c.requires in
    record { room = omega (arith, ap (λ f. page_room (is_svg f)) c.in-Svg.is, e.room); low = e.low; joined = e.joined; level = e.level }

pub returns-in-Svg : goal.returns-in-Svg
returns-in-Svg c = record { text = rw c.in-Svg.is c.put_svg_page.ensures.text; room = rw c.in-Svg.is c.put_svg_page.ensures.room }
