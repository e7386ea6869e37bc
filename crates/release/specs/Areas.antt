-- What a place lies in tells what starts there. Assumes nothing.
use Rattle.std.specs.Prelude.{◌≡◌, ℕ, ◌-◌, ◌*◌, ◌≤◌, ◌<◌, Option, Some, None}
use Rattle.refusals.specs.Refusals.{no_block}
use Rattle.records.specs.Pool.{Pool}
use Rattle.release.specs.declared.Spot.{Spot}
use Rattle.release.specs.declared.Spot.TheVariants.{Nowhere, Run}
use Rattle.release.specs.declared.Area.{Area}
use Rattle.release.specs.declared.Area.TheVariants.{Large, Class}
use Rattle.release.specs.Release.{slot_spot, spot}

abbrev pub Leads : ℕ → Pool → ℕ → Option Area → Type 0
Leads c p q None = Nowhere no_block ≡ spot c p q
Leads c p q (Some (Large g k)) = Run g k ≡ spot c p q
Leads c p q (Some (Class g b)) = (g < 512 * c) × (b < 30) × (4096 * g ≤ q) × (slot_spot p.slots g b (q - 4096 * g) ≡ spot c p q)

-- it starts at some place
abbrev pub IsSpot : ℕ → Pool → Spot → Type 0
IsSpot c p x = (q : ℕ) × (x ≡ spot c p q)
