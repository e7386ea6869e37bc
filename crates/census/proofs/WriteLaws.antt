-- Blocks written into a room one after the other. Assumes nothing.
use mathlib.Core.Path.{◌≡◌, refl, sym, ap, ap₂, ◌∙◌, subst}
use mathlib.Core.List.{List, [], ◌∷◌, ◌++◌}
use Prim.Native.Nat.{ℕ, ◌+◌, ◌*◌, ◌≤◌}
use native.Mathlib.Numerals.{add-one}
use native.Mathlib.Omega.{arith}
use lib.ListN.{length, set, drop, length-append}
use lib.Seq.{sets, sets-eq}
use Rattle.blocks.specs.Blocks.{block, Block}
use Rattle.text.proofs.TextLaws.{sets_append, appends_none, appends_length}
use Rattle.census.specs.Census.{words_for}
use Rattle.census.specs.Writes.{Wrote}

words_append : (a l : List Block) → words_for (a ++ l) ≡ words_for a ++ words_for l
unfolding words_for
words_append [] l = refl
words_append (b ∷ a) l = ap (λ (v : List ℕ). b.place ∷ b.size ∷ v) (words_append a l)

pub length_words : (l : List Block) → length (words_for l) ≡ 2 * length l
unfolding words_for
length_words [] = refl
length_words (b ∷ l) = let h = length_words l in omega arith

-- ---- one block, none

pub wrote_block : (room : List ℕ) (i place size : ℕ) → Wrote (set (set room i place) (i + 1) size) room (i + 2) i (block place size ∷ [])
unfolding words_for
wrote_block room i place size =
    record { next = refl; text = ap (λ (k : ℕ). set (set room i place) k size) (add-one i) }

pub wrote_none : (room : List ℕ) (i : ℕ) (l : List Block) → l ≡ [] → Wrote room room i i l
unfolding words_for
wrote_none room i l e = subst (Wrote room room i i) (sym e) appends_none

pub wrote_as : {after before : List ℕ} {r i : ℕ} {l m : List Block} → Wrote after before r i l → l ≡ m → Wrote after before r i m
wrote_as {after} {before} {r} {i} w e = subst (Wrote after before r i) e w

pub room_as : (n i : ℕ) {l m : List Block} → l ≡ m → i + 2 * length m ≤ n → i + 2 * length l ≤ n
room_as n i e h = let n = ap length e in omega arith

-- ---- the blocks that are left, written from here, give the whole

pub record Writing (before : List ℕ) (i : ℕ) (whole : List Block) (room : List ℕ) (k : ℕ) (rest : List Block) : Type 0 where
  pub goes : sets room k (words_for rest) ≡ sets before i (words_for whole)
  pub ends : k + 2 * length rest ≡ i + 2 * length whole
  pub long : length room ≡ length before

pub writing_none : (room : List ℕ) (i : ℕ) (l rest : List Block) → l ≡ rest → Writing room i l room i rest
writing_none room i l rest e = subst (Writing room i l room i) e (record { goes = refl; ends = refl; long = refl })

module _ {before : List ℕ} {i : ℕ} {whole : List Block} {room : List ℕ} {k : ℕ} {rest : List Block} where
  -- the next of them
  pub writing_on : {after : List ℕ} {r : ℕ} (l later : List Block) → Writing before i whole room k rest → Wrote after room r k l → rest ≡ l ++ later
      → Writing before i whole after r later
  writing_on {after} {r} l later w v e =
      let n = length_words l in
      let a = v.next in
      let b = w.ends in
      let m : length rest ≡ length l + length later = ap length e ∙ length-append l later in
      record {
        goes =
            ap₂ (λ (x : List ℕ) (j : ℕ). sets x j (words_for later)) v.text v.next
            ∙ sym (sets_append room k (words_for l) (words_for later))
            ∙ ap (sets room k) (sym (words_append l later) ∙ ap words_for (sym e))
            ∙ w.goes;
        ends = omega arith;
        long = appends_length v ∙ w.long;
      }

  -- there is room for the next of them
  pub writing_room : (l later : List Block) → Writing before i whole room k rest → rest ≡ l ++ later → i + 2 * length whole ≤ length before
      → k + 2 * length l ≤ length room
  writing_room l later w e h =
      let b = w.ends in
      let z = w.long in
      let m : length rest ≡ length l + length later = ap length e ∙ length-append l later in
      omega arith

  pub writing_all : Writing before i whole room k rest → rest ≡ [] → Wrote room before k i whole
  unfolding words_for
  writing_all w e =
      let b = w.ends in
      let m : length rest ≡ 0 = ap length e in
      record { next = omega (arith, length_words whole); text = sym (ap (λ (l : List Block). sets room k (words_for l)) e) ∙ w.goes }

-- ---- all of them, from the first word on

pub words_behind : (room : List ℕ) (l : List Block) → 2 * length l ≤ length room
    → sets room 0 (words_for l) ≡ words_for l ++ drop (2 * length l) room
words_behind room l h =
    let n = length_words l in
    let e : 0 + length (words_for l) ≡ 2 * length l = omega arith in
    sets-eq (words_for l) room 0 (omega arith) ∙ ap (λ (k : ℕ). words_for l ++ drop k room) e
