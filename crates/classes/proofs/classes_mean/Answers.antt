-- `classes::classes_mean` meets its contract. Assumes nothing.
use Rattle.classes.proofs.ClassLaws.{classes_mean}
use Rattle.classes.proofs.classes_mean.Goals as goal

pub returns : goal.returns
returns c = classes_mean
