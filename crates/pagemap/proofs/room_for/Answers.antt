-- `pagemap::room_for` meets its contract. Assumes nothing.
use mathlib.Core.Path.{ap}
use Rattle.pagemap.specs.Drawing.{is_svg}
use Rattle.pagemap.proofs.DrawLaws.{room_svg, room_text}
use Rattle.pagemap.proofs.room_for.Goals as goal

pub returns-in-Text : goal.returns-in-Text
returns-in-Text c = room_text _ (ap is_svg c.in-Text.is)

pub returns-in-Svg : goal.returns-in-Svg
returns-in-Svg c = room_svg _ (ap is_svg c.in-Svg.is)
