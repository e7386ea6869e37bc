-- `resize::recut_run` meets its contract. Assumes nothing.
use Rattle.resize.proofs.Forms.{run_room, pages_room, recut_as}
use Rattle.resize.proofs.recut_run.Goals as goal

pub free_large-requires : goal.free_large-requires
free_large-requires c = let ok = c.requires.sound in let run = c.requires.run in let pages = c.requires.pages in run_room _ _ ok run

pub put_large-requires : goal.put_large-requires
put_large-requires c =
    let ok = c.requires.sound in let run = c.requires.run in let pages = c.requires.pages in
    pages_room _ _ ok _ c.args.k pages c.free_large.ensures

pub returns : goal.returns
returns c =
    recut_as _ _ _ _
    c.free_large.ensures c.put_large.ensures
