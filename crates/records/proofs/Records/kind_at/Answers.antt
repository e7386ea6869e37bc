-- `records::Records::kind_at` meets its contract. Assumes nothing.
use mathlib.Core.Path.{sym, ◌∙◌}
use native.Mathlib.Omega.{arith}
use Rattle.records.proofs.AdmitLaws.{admitted}
use Rattle.records.proofs.WordLaws.{page_inner, page_class, page_large, page_inside, page_edge, page_free}
use Rattle.records.proofs.Records.kind_at.Goals as goal

pub returns-then-w-ge3221225472 : goal.returns-then-w-ge3221225472
returns-then-w-ge3221225472 c =
    let v = c.word-w.ensures.value in let a = c.if-w-ge3221225472.true in
    rw v (sym (page_inner _ _ (admitted _ _ c.args.self.now.sound).whole _ c.requires (omega arith)))

pub is_set-requires : goal.is_set-requires
is_set-requires c = let s = (admitted _ _ c.args.self.now.sound).shape in let i = c.requires in omega arith

pub returns-then-is_set : goal.returns-then-is_set
returns-then-is_set c =
    let v = c.word-w.ensures.value in let a = c.if-w-lt1073741825.true in
    sym (page_inside _ _ (admitted _ _ c.args.self.now.sound).whole _ c.requires (sym c.is_set.ensures ∙ c.if-is_set.true) (omega arith))

pub returns-then-w-lt1073741825 : goal.returns-then-w-lt1073741825
returns-then-w-lt1073741825 c =
    sym (page_free _ _ (admitted _ _ c.args.self.now.sound).whole _ c.requires (sym c.is_set.ensures ∙ c.if-is_set.false))

pub returns-then-w-ge2147483648 : goal.returns-then-w-ge2147483648
returns-then-w-ge2147483648 c =
    let v = c.word-w.ensures.value in let a = c.if-w-ge2147483648.true in let b = c.if-w-ge3221225472.false in
    rw v (sym (page_class _ _ (admitted _ _ c.args.self.now.sound).whole _ c.requires (omega arith) (omega arith)).1)

pub returns-then-g-eq0 : goal.returns-then-g-eq0
returns-then-g-eq0 c = sym (page_edge _ _ (admitted _ _ c.args.self.now.sound).whole _ c.requires c.if-g-eq0.true)

pub returns : goal.returns
returns c =
    let v = c.word-w.ensures.value in let a = c.if-w-lt1073741825.false in let b = c.if-w-ge2147483648.false in
    rw v (sym (page_large _ _ (admitted _ _ c.args.self.now.sound).whole _ c.requires c.if-g-eq0.false (omega arith) (omega arith)).1)
