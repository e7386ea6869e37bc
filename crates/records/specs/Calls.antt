-- Refusals 1 and 2, what a call leaves, and the fresh call (RULES 4, 5.1).
-- Assumes nothing.
use Rattle.std.specs.Prelude.{Bool, ◌&&◌, List, [], ◌∷◌, ◌++◌, ℕ, zero, suc, ◌*◌, eqb, leb, length}
use Rattle.refusals.specs.Refusals.{shape, damaged, Check, first_of, unless}
use Rattle.records.specs.Kinds.{edge_word, zeros}
use Rattle.records.specs.Pool.{Pool, pool}
use Rattle.records.specs.Sound.{sound}

-- there is such a pool: c from 1 to 16, and page bits, page words and slot bits of just c parts
unfoldable pub shaped : ℕ → ℕ → ℕ → ℕ → Bool
shaped c nbits nwords nslots =
    leb 1 c && (leb c 16 && (eqb nbits (8 * c) && (eqb nwords (512 * c) && eqb nslots (4096 * c))))

abbrev pub fit : ℕ → Pool → Bool
fit c p = shaped c (length p.bits) (length p.words) (length p.slots)

-- what a call checks that makes no use of the records: the refusal that it gives, else 0
unfoldable pub shape_of : ℕ → Pool → ℕ
shape_of c p = first_of ((fit c p, shape) ∷ [])

-- what each call on an existing pool checks first, in this order
abbrev pub checks : ℕ → Pool → List Check
checks c p = (fit c p, shape) ∷ (sound c p, damaged) ∷ []

-- the refusal that it gives, else 0
unfoldable pub admit_of : ℕ → Pool → ℕ
admit_of c p = first_of (checks c p)

-- what a call answers, and what it was lent as it leaves it
pub record Left (A S : Type 0) : Type 0 where
  pub answer : A
  pub left : S

abbrev pub leaves : {A S : Type 0} → A → S → Left A S
leaves a x = record { answer = a; left = x }

-- c chunks alike
unfoldable pub repeat : ℕ → List ℕ → List ℕ
repeat zero l = []
repeat (suc c) l = l ++ repeat c l

-- fresh records: of each chunk only page 0 is taken
unfoldable pub fresh_pool : ℕ → Pool
fresh_pool c = pool (repeat c (1 ∷ zeros 7)) (repeat c (edge_word ∷ zeros 511)) (zeros (4096 * c))

-- the call: it checks only the shape
unfoldable pub fresh_of : ℕ → Pool → Left ℕ Pool
fresh_of c p = unless (shape_of c p) (λ r. leaves r p) (leaves 0 (fresh_pool c))
