-- `gaps::gap_search` meets its contract. Assumes nothing.
use Rattle.gaps.proofs.Answers.{gaps_mean}
use Rattle.gaps.proofs.gap_search.Goals as goal

pub returns : goal.returns
returns c = gaps_mean
