-- The samples of classes and gaps (RULES 12.1), as rows under one claim.
-- Assumes nothing.
use Rattle.std.specs.Prelude.{◌≡◌, List, [], ◌∷◌, ℕ, Some, None}
use Rattle.classes.specs.Classes.{class_for}
use Rattle.gaps.specs.declared.Gap.{Gap}
use Rattle.gaps.specs.Gaps.{gap, gaps_of, find_pages}

-- the page bits of one chunk with the gaps 10 to 13, 40 to 42, 90 to 92 and 200 to 511 only
unfoldable pub page_bits : List ℕ
page_bits = 0xfffff8ffffffc3ff ∷ 0xffffffffe3ffffff ∷ 0xffffffffffffffff ∷ 0xff ∷ 0 ∷ 0 ∷ 0 ∷ 0 ∷ []

pub data Sample : Type 0 where
  -- a request of this many bytes has this class
  class : ℕ → ℕ → Sample
  -- these page bits have these gaps only
  gaps : List Gap → Sample
  -- this many pages start at this page
  starts : ℕ → ℕ → Sample
  -- this many pages have no gap
  no_gap : ℕ → Sample

unfoldable pub samples : List Sample
samples =
    class 0 0 ∷
    class 8 0 ∷
    class 9 1 ∷
    class 64 7 ∷
    class 65 8 ∷
    class 320 16 ∷
    class 321 17 ∷
    class 3072 29 ∷
    gaps (gap 10 4 ∷ gap 40 3 ∷ gap 90 3 ∷ gap 200 312 ∷ []) ∷
    starts 2 40 ∷
    starts 4 10 ∷
    starts 5 200 ∷
    no_gap 313 ∷
    []

-- what a row says
unfoldable pub Says : Sample → Type 0
Says (class n b) = class_for n ≡ b
Says (gaps gs) = gaps_of page_bits 0 ≡ gs
Says (starts n g) = find_pages 1 page_bits n ≡ Some g
Says (no_gap n) = find_pages 1 page_bits n ≡ None

-- each row holds
pub data Each : List Sample → Type 0 where
  none : Each []
  row : {s : Sample} {rest : List Sample} → Says s → Each rest → Each (s ∷ rest)
