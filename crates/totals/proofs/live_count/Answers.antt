-- `totals::live_count` meets its contract. Assumes nothing.
use Rattle.totals.proofs.AmountLaws.{count_as}
use Rattle.totals.proofs.live_count.Goals as goal

pub returns : goal.returns
returns c = count_as _ c.live_amount.ensures
