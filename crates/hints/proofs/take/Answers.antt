-- `hints::take` meets its contract. Assumes nothing.
use native.Mathlib.Omega.{arith}
use Prim.Native.Nat.{ℕ, ◌+◌, ◌*◌, ◌^◌, ◌<◌}
use mathlib.Core.Path.{◌≡◌}
use mathlib.Core.Logic.{◌≢◌}
use mathlib.Core.List.{List}
use Rattle.bitrow.specs.Row.{Lowest}
use Rattle.records.specs.Pool.{Pool}
use Rattle.records.specs.Calls.{admit_of}
use Rattle.hints.specs.Hints.{Marks}
use lib.ListN.{get_or}
use Rattle.hints.proofs.FrontLaws.{Leads, leads_low, leads_high, taken_none}
use Rattle.hints.proofs.take.Goals as goal

low_leads : (c : ℕ) {p : Pool} {rows opens : List ℕ} {b t : ℕ} → admit_of c p ≡ 0 → Marks (512 * c) p rows opens → b < 30
    → get_or rows (144 * b + 128) 0 < 2 ^ 64 → get_or rows (144 * b + 128) 0 ≢ 0 → Lowest 64 (get_or rows (144 * b + 128) 0) 1 t
    → Leads c p rows opens b t (get_or rows (144 * b + 128) 0)
low_leads c sound marks class fits some first = leads_low _ _ sound _ _ marks _ class _ fits (omega arith) first

high_leads : (c : ℕ) {p : Pool} {rows opens : List ℕ} {b t : ℕ} → admit_of c p ≡ 0 → Marks (512 * c) p rows opens → b < 30
    → get_or rows (144 * b + 128) 0 ≡ 0 → get_or rows (144 * b + 128 + 1) 0 < 2 ^ 64 → get_or rows (144 * b + 128 + 1) 0 ≢ 0
    → Lowest 64 (get_or rows (144 * b + 128 + 1) 0) 1 t → Leads c p rows opens b (64 + t) (get_or rows (144 * b + 128 + 1) 0)
high_leads c sound marks class none fits some first = leads_high _ _ sound _ _ marks _ class none _ fits (omega arith) first

pub take_at-requires : goal.take_at-requires
take_at-requires c =
    (low_leads c.args.c c.requires.sound c.requires.marks c.requires.class (omega arith) c.if-low-ne0.true c.first_one-j.ensures).0

pub returns-then-low-ne0 : goal.returns-then-low-ne0
returns-then-low-ne0 c =
    let leads = low_leads c.args.c c.requires.sound c.requires.marks c.requires.class (omega arith) c.if-low-ne0.true c.first_one-j.ensures in
    let both = leads.1 _ _ _ _ c.take_at.ensures in record { taken = both.0; marks = both.1 }

pub take_at-requires-then-high-ne0 : goal.take_at-requires-then-high-ne0
take_at-requires-then-high-ne0 c =
    (high_leads c.args.c c.requires.sound c.requires.marks c.requires.class c.if-low-ne0.false (omega arith) c.if-high-ne0.true c.first_one.ensures).0

pub returns-then-high-ne0 : goal.returns-then-high-ne0
returns-then-high-ne0 c =
    let leads = high_leads c.args.c c.requires.sound c.requires.marks c.requires.class c.if-low-ne0.false (omega arith) c.if-high-ne0.true c.first_one.ensures in
    let both = leads.1 _ _ _ _ c.take_at-then-high-ne0.ensures in record { taken = both.0; marks = both.1 }

pub returns : goal.returns
returns c =
    let last = c.if-high-ne0.false in let none = c.if-low-ne0.false in let sound = c.requires.sound in let marks = c.requires.marks in let class = c.requires.class in record { taken = taken_none _ _ sound _ _ marks _ class (omega arith) (omega arith); marks = marks }
