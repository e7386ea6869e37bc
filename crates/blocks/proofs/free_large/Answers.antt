-- `blocks::free_large` meets its contract. Assumes nothing.
use Rattle.std.proofs.Common.{refl, arith}
use Rattle.blocks.proofs.StoreForms.{first_put}
use Rattle.blocks.proofs.free_large.Goals as goal

pub returns : goal.returns
returns c =
    first_put _ _ _ _ _ c.requires.zero _ _ _ (omega arith) c.put_bits.ensures refl
