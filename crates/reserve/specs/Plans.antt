-- What a plan may rely on: the slot is free, the pages are free. Assumes nothing.
use Rattle.std.specs.Prelude.{◌≡◌, false, cond, List, ℕ, suc, ◌+◌, ◌*◌, ◌≤◌, ◌<◌, leb}
use Rattle.classes.specs.Classes.{pages, class_for}
use Rattle.records.specs.declared.Kind.TheVariants.{Free}
use Rattle.records.specs.Pool.{Pool, kind_at}
use Rattle.blocks.specs.Blocks.{IsSlot}
use Rattle.reserve.specs.declared.Plan.{Plan}
use Rattle.reserve.specs.declared.Plan.TheVariants.{Refuse, TakeSlot, NewClass, NewLarge}
use Rattle.reserve.specs.Reserve.{plan_class, plan_large}

-- the n pages from page g on are free
pub record PagesFree (c : ℕ) (p : Pool) (g n : ℕ) : Type 0 where
  pub some : 1 ≤ n
  pub few : n ≤ 511
  pub inside : g + n ≤ 512 * c
  pub clear : (i : ℕ) → g ≤ i → i < g + n → kind_at p i ≡ Free

abbrev pub PlanOk : ℕ → Pool → Plan → Type 0
PlanOk c p (Refuse r) = 1 ≤ r
PlanOk c p (TakeSlot g b s) = IsSlot c p g b s false
PlanOk c p (NewClass g b) = (b < 30) × PagesFree c p g (pages b)
PlanOk c p (NewLarge g k) = PagesFree c p g (suc k)

-- the numbers of a plan are those of a pool
abbrev pub PlanLow : Plan → Type 0
PlanLow (Refuse r) = Unit {0}
PlanLow (TakeSlot g b s) = (g < 8192) × (b < 30) × (s < 512)
PlanLow (NewClass g b) = (g < 8192) × (b < 30)
PlanLow (NewLarge g k) = (g < 8192) × (k < 511)

-- where no slot is free, n bytes take new pages: the plan by the page bits alone
unfoldable pub plan_pages : ℕ → List ℕ → ℕ → Plan
plan_pages c bits n = cond (leb n 3072) (plan_class c bits (class_for n)) (plan_large c bits n)
