-- `release::release_sound` meets its contract. Assumes nothing.
use Rattle.release.proofs.GiveLaws.{gave_at}
use mathlib.Core.Path.{◌∙◌}
use Rattle.release.proofs.release_sound.Goals as goal

pub give_back-requires : goal.give_back-requires
give_back-requires c =
    let d = c in
    (d.requires, (_, c.spot_at-x.ensures))

pub returns : goal.returns
returns c =
    c.give_back.ensures ∙ gave_at _ _ _ c.spot_at-x.ensures
