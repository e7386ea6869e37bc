-- A line, as the code puts it. Assumes nothing.
use mathlib.Core.Path.{◌≡◌}
use mathlib.Core.List.{List, [], ◌∷◌}
use Prim.Native.Nat.{ℕ, ◌+◌, ◌*◌, ◌≤◌}
use borrow.Author.Tests.{eq-eqb, ne_eqb}
use Rattle.totals.specs.declared.Sums.{Sums}
use Rattle.text.specs.Ascii.{ascii}
use Rattle.text.specs.Text.{filled, Appends}
use Rattle.text.proofs.TextLaws.{appends_none}
use Rattle.events.specs.declared.Event.{Event}
use Rattle.events.specs.declared.Event.TheVariants.{Ended}
use Rattle.events.specs.Doing.{event_bytes}
use Rattle.wording.specs.Wording.{line_of, last_of}

module _ {a b : List ℕ} {i j : ℕ} where
  -- the event of a match's arm
  pub line_as : {e f : Event} → e ≡ f → Appends a b i j (line_of f) → j ≤ i + 12 * event_bytes f
      → (Appends a b i j (line_of e)) × (j ≤ i + 12 * event_bytes e)
  line_as m w h = rw m (w, h)

  pub last_live : (r q : ℕ) (t : Sums) → r ≡ 0
      → Appends a b i j (filled (ascii "live $ free pages $\n") (t.blocks ∷ t.free ∷ [])) → Appends a b i j (last_of r q t)
  unfolding last_of
  last_live r q t m w = rw (eq-eqb r 0 m) w

  pub last_refused : (r q : ℕ) (t : Sums) → (r ≡ 0 → ⊥)
      → Appends a b i j (filled (ascii "log refused $ at $\n") (r ∷ q ∷ [])) → Appends a b i j (last_of r q t)
  unfolding last_of
  last_refused r q t m w = rw (ne_eqb r 0 m) w

pub line_none : {a : List ℕ} {i : ℕ} → Appends a a i i (line_of Ended)
unfolding line_of
line_none = appends_none
