-- `resize::fit_run` meets its contract. Assumes nothing.
use native.Mathlib.Omega.{arith}
use Rattle.resize.proofs.Forms.{run_small, run_large}
use mathlib.Core.Path.{refl}
use Rattle.resize.proofs.fit_run.Goals as goal

pub returns-then-n-le3072 : goal.returns-then-n-le3072
returns-then-n-le3072 c = run_small _ _ _ _ (omega arith) refl

pub returns : goal.returns
returns c = run_large _ _ _ _ (omega arith) c.pages_for-m.ensures c.fit_pages.ensures
