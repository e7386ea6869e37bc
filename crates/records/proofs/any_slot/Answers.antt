-- `records::any_slot` meets its contract. Assumes nothing.
use Rattle.std.proofs.Common.{◌≡◌, ◌*◌, rules, eqb, fold, take, drop, ap, ◌∙◌, ℕ}
use Rattle.std.proofs.iter.runs.Made.{chains}
use lib.Bits.{bit_or}
use Rattle.records.proofs.SlotLaws.{any_slots}
use Rattle.records.proofs.any_slot.Goals as goal

pub returns : goal.returns
returns c =
    let e : c.fold.result ≡ fold bit_or 0 (take 8 (drop (8 * c.args.g) c.args.slots.now)) = search (rules, chains) in
    ap (λ (x : ℕ). eqb x 0) e ∙ any_slots _ _ c.requires.1
