-- Bytes (RULES 6.6): a block's part of one ear's arena. Assumes nothing.
use Rattle.std.specs.Prelude.{Bool, cond, ◌&&◌, List, ℕ, ◌*◌, eqb, leb, length, take, drop}
use Rattle.refusals.specs.Refusals.{shape}
use Rattle.records.specs.Pool.{Pool}
use Rattle.release.specs.declared.Sized.{Sized}
use Rattle.release.specs.Release.{size_of}
use Rattle.blockbytes.specs.declared.Part.{Part}

-- the one that the ear picks: 0 left, 1 right
abbrev pub chosen : {A : Type 0} → ℕ → A → A → A
chosen ear left right = cond (eqb ear 0) left right

-- an ear is 0 or 1, and the chosen arena is that of c chunks
unfoldable pub ear_fits : ℕ → ℕ → ℕ → Bool
ear_fits ear c n = leb ear 1 && eqb n (2097152 * c)

abbrev pub part : ℕ → ℕ → ℕ → Part
part r a n = record { refusal = r; start = a; size = n }

-- the part of the block at the place q, by what block size says of it
abbrev pub part_at : ℕ → Sized → Part
part_at q s = cond (eqb s.refusal 0) (part 0 q s.size) (part s.refusal 0 0)

-- the part within the chosen arena, by the lengths of both; or refusal 1, 2, 5 or 6 and nothing
unfoldable pub part_of : ℕ → ℕ → Pool → ℕ → ℕ → ℕ → Part
part_of ear c p q nleft nright = cond (ear_fits ear c (chosen ear nleft nright)) (part_at q (size_of c p q)) (part shape 0 0)

-- the call for the part: its bytes
unfoldable pub bytes_of : ℕ → ℕ → Pool → ℕ → List ℕ → List ℕ → List ℕ
bytes_of ear c p q left right =
    let x = part_of ear c p q (length left) (length right) in
    take x.size (drop x.start (chosen ear left right))

-- the call for the number
unfoldable pub bytes_refusal_of : ℕ → ℕ → Pool → ℕ → List ℕ → List ℕ → ℕ
bytes_refusal_of ear c p q left right = (part_of ear c p q (length left) (length right)).refusal
