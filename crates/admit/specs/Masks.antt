-- The bits of slot words that name no slot, for each class: what the check reads instead of counting slots. Assumes nothing.
use Rattle.std.specs.Prelude.{List, [], ◌∷◌, ℕ, ◌-◌, ◌*◌, ◌^◌}
use Rattle.classes.specs.declared.Row.{Row}
use Rattle.classes.specs.Classes.{rows}

-- of the 64 bits of slot word j of a run's first page, those that name none of n slots
abbrev pub stray_mask : ℕ → ℕ → ℕ
stray_mask n j = 2 ^ 64 - 2 ^ (n - 64 * j)

abbrev pub mask_row : ℕ → List ℕ → List ℕ
mask_row n l = stray_mask n 0 ∷ stray_mask n 1 ∷ stray_mask n 2 ∷ stray_mask n 3 ∷ stray_mask n 4 ∷ stray_mask n 5 ∷ stray_mask n 6 ∷ stray_mask n 7 ∷ l

unfoldable pub masks_of : List Row → List ℕ
masks_of [] = []
masks_of (r ∷ rs) = mask_row r.slots (masks_of rs)

-- eight masks for each class
unfoldable pub mask_table : List ℕ
mask_table = masks_of rows
