-- Next (RULES 6.3): the live block with the lowest place at or above a place. Assumes nothing.
use Rattle.std.specs.Prelude.{cond, List, [], ◌∷◌, Option, Some, None, ℕ, leb}
use Rattle.refusals.specs.Refusals.{unless}
use Rattle.records.specs.Pool.{Pool}
use Rattle.records.specs.Calls.{admit_of}
use Rattle.blocks.specs.Blocks.{Block, live}
use Rattle.next.specs.declared.Found.{Found}
use Rattle.next.specs.declared.Next.{Next}

abbrev pub found : ℕ → ℕ → Found
found y z = record { place = y; size = z }

-- the first block of a list at or above the place q
unfoldable pub first_from : ℕ → List Block → Option Found
first_from q [] = None
first_from q (b ∷ l) = let later = first_from q l in cond (leb q b.place) (Some (found b.place b.size)) later

abbrev pub answered : ℕ → ℕ → ℕ → Next
answered r y z = record { refusal = r; place = y; size = z }

-- the answer: none has place 0 and size 0, and is no refusal
abbrev pub answer_of : Option Found → Next
answer_of None = answered 0 0 0
answer_of (Some x) = answered 0 x.place x.size

-- the call
unfoldable pub next_of : ℕ → Pool → ℕ → Next
next_of c p q = unless (admit_of c p) (λ r. answered r 0 0) (answer_of (first_from q (live c p)))
