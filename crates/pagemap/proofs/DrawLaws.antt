-- Laws of the drawings. Assumes nothing.
use mathlib.Core.Path.{◌≡◌, sym, ap, ◌∙◌}
use mathlib.Core.Logic.{◌≢◌}
use mathlib.Core.Bool.{Bool, true, false}
use mathlib.Core.List.{List, [], ◌++◌, append_assoc, append-nil}
use Prim.Native.Nat.{ℕ, suc, ◌+◌, ◌-◌, ◌*◌, ◌≤◌, ◌<◌}
use native.Mathlib.Nat.{mul-suc}
use native.Mathlib.Omega.{arith}
use lib.ListN.{length}
use Rattle.refusals.specs.Refusals.{short_room}
use Rattle.refusals.proofs.CallLaws.{refused, served}
use Rattle.text.specs.Text.{Appends}
use Rattle.text.proofs.TextLaws.{appends_none, appends_more, appends_length}
use Rattle.totals.specs.declared.Sums.{Sums}
use Rattle.totals.specs.Totals.{summed}
use Rattle.records.specs.Calls.{admit_of, Left, leaves}
use Rattle.records.proofs.Flags.{cond_lt, cond_nlt}
use Rattle.records.specs.Pool.{Pool}
use Rattle.cells.specs.declared.Cell.{Cell}
use Rattle.cells.specs.Cells.{no_cell, cell_at}
use Rattle.pagemap.specs.declared.Drawn.{Drawn}
use Rattle.pagemap.specs.Drawing.{head_of, page_of, foot_of, pages_from}
use Rattle.pagemap.specs.Drawing.{head_room, page_room, foot_room, room_for, drawing, drawn_as, showing, drawn_of}
use Rattle.cells.proofs.CellLaws.{Shows}

-- ---- the pages one after the other

pages_none : (v : Bool) (p : Pool) (last : Cell) (g n : ℕ) → n ≡ 0 → pages_from v p last g n ≡ []
unfolding pages_from
pages_none v p last g n e = rw e

pages_step : (v : Bool) (p : Pool) (last s : Cell) (g h n m : ℕ) → s ≡ cell_at p last g → h ≡ suc g → n ≡ suc m
    → pages_from v p last g n ≡ page_of v g s ++ pages_from v p s h m
unfolding pages_from
pages_step v p last s g h n m e f k = rw (e, f, k)

-- some text was written, and with the pages from g on it is that of all pages; there is room for them
pub record Drawing (v : Bool) (c : ℕ) (p : Pool) (out₀ : List ℕ) (at : ℕ) (out : List ℕ) (last : Cell) (i g : ℕ) : Type 0 where
  pub text : List ℕ
  pub wrote : Appends out₀ out at i text
  pub rest : text ++ pages_from v p last g (512 * c - g) ≡ pages_from v p no_cell 0 (512 * c)
  pub room : i + page_room v * (512 * c - g) ≤ at + page_room v * (512 * c)
  pub level : last.level ≤ 10

module _ {v : Bool} {c : ℕ} {p : Pool} {out₀ : List ℕ} {at : ℕ} where
  pub drawing_first : Drawing v c p out₀ at out₀ no_cell at 0
  drawing_first =
      let z : 512 * c - 0 ≡ 512 * c = omega arith in
      record { text = []; wrote = appends_none; rest = rw z; room = rw z (omega arith); level = omega arith }

  module _ {out : List ℕ} {last : Cell} {i g : ℕ} (d : Drawing v c p out₀ at out last i g) where
    pub drawing_kept : length out ≡ length out₀
    drawing_kept = appends_length d.wrote

    pub drawing_done : 512 * c ≤ g → (Appends out₀ out at i (pages_from v p no_cell 0 (512 * c))) × (i ≤ at + page_room v * (512 * c))
    drawing_done l =
        let e : d.text ≡ pages_from v p no_cell 0 (512 * c) =
        sym (append-nil d.text)
        ∙ ap (λ (t : List ℕ). d.text ++ t) (sym (pages_none v p last g (512 * c - g) (omega arith))) ∙ d.rest in
        (rw (← e) d.wrote, omega (arith, d.room))

    module _ (l : g < 512 * c) where
      room_step : page_room v * (512 * c - g) ≡ page_room v * (512 * c - (g + 1)) + page_room v
      room_step = let e : 512 * c - g ≡ suc (512 * c - (g + 1)) = omega arith in rw e (mul-suc (page_room v) (512 * c - (g + 1)))

      pub drawing_room : at + page_room v * (512 * c) ≤ length out₀ → i + page_room v ≤ length out
      drawing_room h = omega (arith, d.room, room_step, drawing_kept)

      pub drawing_next : {s : Cell} {j : ℕ} {out' : List ℕ} → Shows p last g s → Appends out out' i j (page_of v g s)
          → j ≤ i + page_room v → Drawing v c p out₀ at out' s j (g + 1)
      drawing_next {s} {j} {out'} (e, u, x) w h =
          record {
            text = d.text ++ page_of v g s;
            wrote = appends_more d.wrote w;
            rest = append_assoc d.text (page_of v g s) (pages_from v p s (g + 1) (512 * c - (g + 1)))
                ∙ ap (λ (t : List ℕ). d.text ++ t)
                (sym (pages_step v p last s g (g + 1) (512 * c - g) (512 * c - (g + 1)) e (omega arith) (omega arith)))
                ∙ d.rest;
            room = omega (arith, d.room, room_step);
            level = x;
          }

-- ---- the whole drawing

pub room_whole : (v : Bool) (c : ℕ) {n : ℕ} → room_for v c ≤ n → head_room v + (page_room v * (512 * c) + foot_room v) ≤ n
unfolding room_for
room_whole v c h = h

module _ (v : Bool) (c : ℕ) (p : Pool) {o a b d : List ℕ} {i j k : ℕ} (x : Appends o a 0 i (head_of v c))
    (y : Appends a b i j (pages_from v p no_cell 0 (512 * c))) where
  pub draw_made : {t : Sums} → t ≡ summed c p → Appends b d j k (foot_of v c t) → leaves (drawn_as 0 k) d ≡ showing v c p o
  unfolding showing drawing
  draw_made {t} e z =
      let w : Appends o d 0 k (head_of v c ++ (pages_from v p no_cell 0 (512 * c) ++ foot_of v c (summed c p))) =
      appends_more x (appends_more y (rw (← e) z)) in
      let l : k ≡ length (head_of v c ++ (pages_from v p no_cell 0 (512 * c) ++ foot_of v c (summed c p))) = omega (arith, w.next) in
      rw (← l, ← w.text)

-- ---- the call

pub room_svg : {v : Bool} (c : ℕ) → v ≡ true → 1024 + (420 * (512 * c) + 1024) ≡ room_for v c
unfolding room_for
room_svg c e = rw e

pub room_text : {v : Bool} (c : ℕ) → v ≡ false → 29 * (512 * c) + 256 ≡ room_for v c
unfolding room_for
room_text c e = rw e (omega arith)

module _ (v : Bool) (c : ℕ) (p : Pool) (out : List ℕ) {n : ℕ} (e : n ≡ admit_of c p) where
  pub draw_refused : n ≢ 0 → leaves (drawn_as n 0) out ≡ drawn_of v c p out
  unfolding drawn_of
  draw_refused z = refused (admit_of c p) n (λ r. leaves (drawn_as r 0) out) _ e z

  module _ (z : n ≡ 0) where
    pub draw_short : length out < room_for v c → leaves (drawn_as short_room 0) out ≡ drawn_of v c p out
    unfolding drawn_of
    draw_short h =
        sym (cond_lt (length out) (room_for v c) (leaves (drawn_as short_room 0) out) (showing v c p out) h)
        ∙ served (admit_of c p) n (λ r. leaves (drawn_as r 0) out) _ e z

    pub draw_whole : room_for v c ≤ length out → {s : Left Drawn (List ℕ)} → s ≡ showing v c p out → s ≡ drawn_of v c p out
    unfolding drawn_of
    draw_whole h k =
        k ∙ sym (cond_nlt (length out) (room_for v c) (leaves (drawn_as short_room 0) out) (showing v c p out) h)
        ∙ served (admit_of c p) n (λ r. leaves (drawn_as r 0) out) _ e z
