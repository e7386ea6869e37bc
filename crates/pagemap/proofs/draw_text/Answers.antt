-- `pagemap::draw_text` meets its contract. Assumes nothing.
use Rattle.text.proofs.TextLaws.{counted}
use Rattle.pagemap.proofs.draw_text.Goals as goal

pub returns : goal.returns
returns c = record { drawn = c.draw.ensures.drawn; within = counted _ _ c.draw.ensures.within }
