-- What a census answers and leaves in the room. Assumes nothing.
use mathlib.Core.Path.{◌≡◌, refl, sym, ap, ap₂, ◌∙◌}
use mathlib.Core.Logic.{by_cases}
use mathlib.Core.Bool.{true}
use mathlib.Core.List.{List, ◌++◌}
use Prim.Native.Nat.{ℕ, suc, ◌*◌, ◌/◌, ◌≤◌, ◌<◌}
use native.Mathlib.Decide.{dec_lt}
use native.Mathlib.Omega.{arith}
use lib.ListN.{length, drop}
use lib.Seq.{sets}
use Rattle.refusals.proofs.CallLaws.{served}
use Rattle.refusals.specs.Refusals.{short_room}
use Rattle.records.specs.Pool.{Pool}
use Rattle.records.specs.Calls.{admit_of, Left, leaves}
use Rattle.records.proofs.Flags.{cond_lt, cond_nlt}
use Rattle.records.proofs.AdmitLaws.{admit_fit}
use Rattle.blocks.specs.Blocks.{live}
use Rattle.blocks.specs.Stores.{Good}
use Rattle.census.specs.declared.Counted.{Counted}
use Rattle.census.specs.Census.{words_for, counted, list, census_of}
use Rattle.census.proofs.WriteLaws.{words_behind}

-- ---- the work on sound records

module _ (c : ℕ) (p : Pool) (room : List ℕ) where
  pub list_short : length room < 2 * length (live c p) → leaves (counted short_room 0) room ≡ list c p room
  unfolding list
  list_short h = sym (cond_lt (length room) (2 * length (live c p)) _ _ h)

  pub list_long : 2 * length (live c p) ≤ length room
      → leaves (counted 0 (length (live c p))) (sets room 0 (words_for (live c p))) ≡ list c p room
  unfolding list
  list_long h = sym (cond_nlt (length room) (2 * length (live c p)) _ _ h)

  -- by the count n of the live blocks, and half of the room's words
  pub listed_none : (n : ℕ) → n ≡ length (live c p) → length room / 2 < n → leaves (counted short_room 0) room ≡ list c p room
  listed_none n e h = list_short (omega arith)

  pub listed_all : (n : ℕ) (after : List ℕ) → n ≡ length (live c p) → n ≤ length room / 2 → after ≡ sets room 0 (words_for (live c p))
      → leaves (counted 0 n) after ≡ list c p room
  listed_all n after e h f = ap₂ (λ (x : ℕ) (r : List ℕ). leaves (counted 0 x) r) e f ∙ list_long (omega arith)

-- ---- behind the check

module _ (c : ℕ) (p : Pool) (room : List ℕ) (n : ℕ) (e : n ≡ admit_of c p) where
  pub census_served : n ≡ 0 → {x : Left Counted (List ℕ)} → x ≡ list c p room → x ≡ census_of c p room
  unfolding census_of
  census_served z f = f ∙ served (admit_of c p) n (λ r. leaves (counted r 0) room) (list c p room) e z

-- ---- what that means

module _ (c : ℕ) (p : Pool) (room : List ℕ) where
  good_work : Good c p → list c p room ≡ census_of c p room
  good_work h = census_served c p room 0 (admit_fit c p h.shape true (sym h.whole)) refl refl

  pub list_kept : (r : ℕ) → (list c p room).answer.refusal ≡ suc r → list c p room ≡ leaves (counted (suc r) 0) room
  list_kept r e =
      by_cases (dec_lt (length room) (2 * length (live c p)))
      (λ h. let x = list_short c p room h in let y : 7 ≡ suc r = ap (λ (z : Left Counted (List ℕ)). z.answer.refusal) x ∙ e in sym x ∙ ap (λ (k : ℕ). leaves (counted k 0) room) y)
      (λ h. let y : 0 ≡ suc r = ap (λ (z : Left Counted (List ℕ)). z.answer.refusal) (list_long c p room (omega arith)) ∙ e in absurd (omega arith))

  -- on sound records, with room for two words a live block
  pub census_lists : Good c p → 2 * length (live c p) ≤ length room
      → census_of c p room ≡ leaves (counted 0 (length (live c p))) (words_for (live c p) ++ drop (2 * length (live c p)) room)
  census_lists h l = sym (good_work h) ∙ sym (list_long c p room l) ∙ ap (leaves (counted 0 (length (live c p)))) (words_behind room (live c p) l)

  -- with less
  pub census_short : Good c p → length room < 2 * length (live c p) → census_of c p room ≡ leaves (counted short_room 0) room
  census_short h l = sym (good_work h) ∙ sym (list_short c p room l)
