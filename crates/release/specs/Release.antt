-- Release and block size (RULES 5.4, 6.2): which block or slot starts at a place (RULES 3.7). Assumes nothing.
use Rattle.std.specs.Prelude.{Bool, true, false, cond, List, ℕ, zero, suc, ◌+◌, ◌-◌, ◌*◌, ◌/◌, ◌%◌, eqb, ltb}
use Rattle.refusals.specs.Refusals.{unless, no_block, free_slot}
use Rattle.bitrow.specs.Row.{is_set}
use Rattle.classes.specs.Classes.{size, slots}
use Rattle.records.specs.declared.Kind.{Kind}
use Rattle.records.specs.declared.Kind.TheVariants.{Edge, Free, Damaged, Large, Class, Inner}
use Rattle.records.specs.Kinds.{zeros, begins}
use Rattle.records.specs.Pool.{Pool, kind_at}
use Rattle.records.specs.Calls.{admit_of, Left, leaves}
use Rattle.blocks.specs.Stores.{put_run, put_slot}
use Rattle.release.specs.declared.Spot.{Spot}
use Rattle.release.specs.declared.Spot.TheVariants.{Nowhere, Run, Slot}
use Rattle.release.specs.declared.Sized.{Sized}

-- ---- the run that a page lies in

abbrev pub is_inner : Kind → Bool
is_inner Edge = false
is_inner Free = false
is_inner Damaged = false
is_inner (Large k) = false
is_inner (Class b) = false
is_inner (Inner w) = true

-- the first page of the run that page g lies in: the nearest page at or below g that is not inside a run
unfoldable pub first_page : Pool → ℕ → ℕ
first_page p zero = zero
first_page p (suc g) = let lower = first_page p g in cond (is_inner (kind_at p (suc g))) lower (suc g)

-- ---- what starts at a place

-- byte `off` of a run of class b that starts at page g: the slot's number is counted from the run's first page
unfoldable pub slot_spot : List ℕ → ℕ → ℕ → ℕ → Spot
slot_spot bits g b off =
    cond (eqb (off % size b) 0)
    (cond (ltb (off / size b) (slots b)) (cond (is_set bits (512 * g + off / size b)) (Slot g b (off / size b)) (Nowhere free_slot)) (Nowhere no_block))
    (Nowhere no_block)

-- byte `off` of what starts at page g, by the page's kind
abbrev pub spot_in : Pool → ℕ → ℕ → Kind → Spot
spot_in p g off k = begins k (Nowhere no_block) (λ n. cond (eqb off 0) (Run g n) (Nowhere no_block)) (λ b. slot_spot p.slots g b off)

abbrev pub spot_from : Pool → ℕ → ℕ → Spot
spot_from p q g = spot_in p g (q - 4096 * g) (kind_at p g)

-- the block or slot at the place q: a large run with so many pages behind its first, a taken slot of a class, or a refusal
unfoldable pub spot : ℕ → Pool → ℕ → Spot
spot c p q = cond (ltb (q / 4096) (512 * c)) (spot_from p q (first_page p (q / 4096))) (Nowhere no_block)

-- ---- release

abbrev pub give_back : Pool → Spot → Pool
give_back p (Nowhere r) = p
give_back p (Run g k) = put_run 0 p g (zeros (suc k))
give_back p (Slot g b s) = put_slot 0 p g s

abbrev pub released : Spot → ℕ
released (Nowhere r) = r
released (Run g k) = 0
released (Slot g b s) = 0

-- the work of a release on records that are sound
unfoldable pub give : ℕ → Pool → ℕ → Left ℕ Pool
give c p q = leaves (released (spot c p q)) (give_back p (spot c p q))

-- the call
unfoldable pub release_of : ℕ → Pool → ℕ → Left ℕ Pool
release_of c p q = unless (admit_of c p) (λ r. leaves r p) (give c p q)

-- ---- block size

abbrev pub sized : ℕ → ℕ → Sized
sized r n = record { refusal = r; size = n }

abbrev pub size_at : Spot → Sized
size_at (Nowhere r) = sized r 0
size_at (Run g k) = sized 0 (4096 * suc k)
size_at (Slot g b s) = sized 0 (size b)

unfoldable pub size_of : ℕ → Pool → ℕ → Sized
size_of c p q = unless (admit_of c p) (λ r. sized r 0) (size_at (spot c p q))
