-- Census (RULES 6.4): place and size of each live block, and refusal 7. Assumes nothing.
use Rattle.std.specs.Prelude.{cond, List, [], ◌∷◌, ℕ, ◌*◌, ltb, length}
use Rattle.std.proofs.lemmas.List.Edits.{sets}
use Rattle.refusals.specs.Refusals.{unless, short_room}
use Rattle.records.specs.Pool.{Pool}
use Rattle.records.specs.Calls.{admit_of, Left, leaves}
use Rattle.blocks.specs.Blocks.{Block, live}
use Rattle.census.specs.declared.Counted.{Counted}

-- place and size of each block, one after the other
unfoldable pub words_for : List Block → List ℕ
words_for [] = []
words_for (b ∷ l) = b.place ∷ b.size ∷ words_for l

abbrev pub counted : ℕ → ℕ → Counted
counted r n = record { refusal = r; count = n }

-- the work of a census on records that are sound: refusal 7 where the room is shorter than two words a live block
unfoldable pub list : ℕ → Pool → List ℕ → Left Counted (List ℕ)
list c p room =
    cond (ltb (length room) (2 * length (live c p))) (leaves (counted short_room 0) room)
    (leaves (counted 0 (length (live c p))) (sets room 0 (words_for (live c p))))

-- the call
unfoldable pub census_of : ℕ → Pool → List ℕ → Left Counted (List ℕ)
census_of c p room = unless (admit_of c p) (λ r. leaves (counted r 0) room) (list c p room)
