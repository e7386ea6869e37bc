-- `blockbytes::bytes_refusal` meets its contract. Assumes nothing.
use Rattle.blockbytes.proofs.PartLaws.{refusal_as}
use Rattle.blockbytes.proofs.bytes_refusal.Goals as goal

pub returns : goal.returns
returns c = refusal_as _ _ _ _ _ _ c.part_of.ensures
