-- The row by which a page's blocks are counted. Assumes nothing.
use Rattle.std.specs.Prelude.{ℕ}
use Rattle.records.specs.Kinds.{begins}
use Rattle.records.specs.declared.Kind.{Kind}

-- the class of the run that starts at a page of a kind; 0 where no class run does
abbrev pub class_in : Kind → ℕ
class_in k = begins k 0 (λ n. 0) (λ b. b)
