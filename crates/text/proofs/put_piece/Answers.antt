-- `text::put_piece` meets its contract. Assumes nothing.
use Rattle.std.proofs.Common.{refl, ap, inl, inr, arith}
use Rattle.text.specs.Text.{piece, piece_room}
use Rattle.text.proofs.TextLaws.{piece_none, piece_number, piece_byte, piece_itself, decimal_short}
use Rattle.text.proofs.put_piece.Goals as goal

pub returns-in-91 : goal.returns-in-91
unfolding piece
returns-in-91 c = elim c.in-91.is [ inl e ↦ piece_none _ _ 91 refl e | inr e ↦ piece_none _ _ 93 refl e ]

pub put_decimal-requires : goal.put_decimal-requires
put_decimal-requires c =
    omega (arith, ap piece_room c.in-36.is, decimal_short 19 c.args.n (omega arith))

pub returns-in-36 : goal.returns-in-36
returns-in-36 c =
    piece_number _ _ c.in-36.is c.put_decimal.ensures (decimal_short 19 c.args.n (omega arith))

pub returns-in-126 : goal.returns-in-126
returns-in-126 c = piece_byte _ _ c.in-126.is

pub returns-in_default : goal.returns-in_default
returns-in_default c = piece_itself _ _ (grind arith) (grind arith) (grind arith) (grind arith)
