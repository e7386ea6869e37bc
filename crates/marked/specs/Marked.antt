-- A reserve that is told by one number. Assumes nothing.
use Rattle.std.specs.Prelude.{◌≡◌, ℕ, ◌+◌, ◌*◌}
use Rattle.records.specs.Kinds.{is_run_of}
use Rattle.records.specs.Pool.{Pool, kind_at}
use Rattle.records.specs.Calls.{Left, leaves}
use Rattle.reserve.specs.declared.Plan.{Plan}
use Rattle.reserve.specs.declared.Plan.TheVariants.{Refuse, TakeSlot, NewClass, NewLarge}
use Rattle.reserve.specs.Reserve.{plan, ready, perform}

-- what is given, as 512 times its first page and, of a slot, its number: where the slot's bit is; below 512, the refusal
abbrev pub code_of : Plan → ℕ
code_of (Refuse r) = r
code_of (TakeSlot g b s) = 512 * g + s
code_of (NewClass g b) = 512 * g
code_of (NewLarge g k) = 512 * g

-- what a plan comes to
abbrev pub carried : Pool → Plan → Left ℕ Pool
carried p x = leaves (code_of x) (perform p x)

-- a reserve of n bytes
unfoldable pub coded : ℕ → Pool → ℕ → Left ℕ Pool
coded c p n = carried (ready c p n) (plan c (ready c p n) n)

-- the same class runs, with the same slot bits: their marks are the same
pub record SameRuns (p q : Pool) : Type 0 where
  pub runs : (d i : ℕ) → is_run_of d (kind_at p i) ≡ is_run_of d (kind_at q i)
  pub slots : p.slots ≡ q.slots
