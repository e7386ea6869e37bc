-- `hints::note_page` meets its contract. Assumes nothing.
use Rattle.hints.proofs.NoteLaws.{next_bare, others_none, page_noted}
use mathlib.Core.Path.{◌∙◌, sym}
use Rattle.hints.proofs.note_page.Goals as goal

pub note-requires : goal.note-requires
note-requires c =
    let marks = c.requires.marks in
    record { cuts = (marks.cuts, marks.wide); run = sym c.kind_at.ensures ∙ c.in-Class.is; inside = c.requires.inside }

pub returns-in-Class : goal.returns-in-Class
returns-in-Class c = page_noted c.requires.marks (sym c.kind_at.ensures ∙ c.in-Class.is) c.note.ensures

pub returns-in_default : goal.returns-in_default
returns-in_default c = next_bare c.requires.marks c.kind_at.result c.kind_at.ensures (others_none c.kind_at.result c.in_default.not-Class)
