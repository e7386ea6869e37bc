-- Text as lists of bytes: decimal numbers, and what a buffer holds once a text was written into it.
use Rattle.std.specs.Prelude.{ℕ, zero, suc, ◌+◌, ◌/◌, ◌%◌, ◌≡◌, List, [], ◌∷◌, ◌++◌, Bool, true, cond, eqb, ltb, length, drop, get_or}
use Prim.Native.Char.{code}
use Rattle.std.proofs.lemmas.List.Edits.{sets}

-- the decimal digits of n, the last one alone where no more than k steps are left
unfoldable pub digits : ℕ → ℕ → List ℕ
digits zero n = (48 + n % 10) ∷ []
digits (suc k) n = cond (ltb n 10) ((48 + n) ∷ []) (digits k (n / 10) ++ (48 + n % 10) ∷ [])

-- n in decimal, without needless zeros
unfoldable pub decimal : ℕ → List ℕ
decimal n = digits n n

-- the text t was written into a buffer from position i on: the buffer before and after, and the position behind t
pub record Appends (before after : List ℕ) (i j : ℕ) (t : List ℕ) : Type 0 where
  pub next : j ≡ i + length t
  pub text : after ≡ sets before i t

-- ---- Templates: texts with places for numbers. $ stands for the next number in decimal, ~ for the byte of that number; what stands
-- between [ and ] is written only where the next number is not 0; any other byte stands for itself. A number that is missing is 0.

-- what the byte b of a template writes, where n is the next number
unfoldable pub piece : ℕ → ℕ → List ℕ
piece b n =
    cond (eqb b (code "[")) [] (cond (eqb b (code "]")) [] (cond (eqb b (code "$")) (decimal n) (cond (eqb b (code "~")) (n % 256 ∷ [])
    (b ∷ []))))

-- how many numbers it takes
unfoldable pub takes : ℕ → ℕ
takes b = cond (eqb b (code "[")) 1 (cond (eqb b (code "$")) 1 (cond (eqb b (code "~")) 1 0))

-- whether what follows it is written, where v says whether it is
unfoldable pub shows : Bool → ℕ → ℕ → Bool
shows v b n = cond (eqb b (code "[")) (ltb 0 n) (cond (eqb b (code "]")) true v)

unfoldable pub only : Bool → List ℕ → List ℕ
only v t = cond v t []

unfoldable pub filled_from : Bool → List ℕ → List ℕ → List ℕ
filled_from v [] ns = []
filled_from v (b ∷ t) ns = only v (piece b (get_or ns 0 0)) ++ filled_from (shows v b (get_or ns 0 0)) t (drop (takes b) ns)

-- the template t with the numbers ns in their places
abbrev pub filled : List ℕ → List ℕ → List ℕ
filled t ns = filled_from true t ns

-- room that is enough for what b writes, and for the whole, whatever the numbers
abbrev pub piece_room : ℕ → ℕ
piece_room b = cond (eqb b (code "[")) 0 (cond (eqb b (code "]")) 0 (cond (eqb b (code "$")) 20 1))

abbrev pub room : List ℕ → ℕ
room [] = 0
room (b ∷ t) = piece_room b + room t
