-- `gaps::edges_of` meets its contract.
-- Assumes nothing.
use Rattle.bitrow.specs.Row.{digit}
use Rattle.bitrow.proofs.Words.{digit_lt}
use Rattle.gaps.proofs.Edges.{edges_of}
use Rattle.gaps.proofs.edges_of.Goals as goal

pub returns : goal.returns
returns c = edges_of c.args.w (digit c.args.before) (digit_lt c.args.before)
