-- The drawings of a pool, byte for byte: a head, what each page shows, and a foot. As text, or as an SVG picture. Assumes nothing.
use Rattle.std.specs.Prelude.{Bool, true, false, cond, List, [], ◌∷◌, ◌++◌, ℕ, zero, suc, ◌+◌, ◌-◌, ◌*◌, ◌/◌, ◌%◌, eqb, ltb, length}
use Rattle.std.proofs.lemmas.List.Edits.{sets}
use Rattle.refusals.specs.Refusals.{unless, short_room}
use Rattle.bitrow.specs.Row.{digit}
use Rattle.records.specs.Pool.{Pool}
use Rattle.records.specs.Calls.{admit_of, Left, leaves}
use Rattle.totals.specs.declared.Sums.{Sums}
use Rattle.totals.specs.Totals.{summed}
use Rattle.text.specs.Ascii.{ascii}
use Rattle.text.specs.Text.{filled}
use Rattle.cells.specs.declared.Cell.{Cell}
use Rattle.cells.specs.Cells.{no_cell, cell_at}
use Rattle.pagemap.specs.declared.Drawn.{Drawn}
use Rattle.pagemap.specs.declared.Form.{Form}
use Rattle.pagemap.specs.declared.Form.TheVariants.{Text, Svg}

-- ---- as text: for each chunk a line and 8 rows of 64 characters, one a page; then what they say, and the totals

unfoldable pub text_page : ℕ → Cell → List ℕ
text_page g s = filled (ascii "[chunk $\n]~[\n]") (digit (eqb (g % 512) 0) ∷ g / 512 ∷ s.mark ∷ digit (eqb (g % 64) 63) ∷ [])

abbrev pub text_foot : List ℕ
text_foot =
    ascii "@ page 0  . free  L large run  = run goes on\n"
    ++ ascii "0-9 class run, tenths of its slots taken  X all of them\n"
    ++ ascii "live $ bytes $ free pages $\n"

-- ---- as SVG: a box for each page, 15 by 20 in cells of 16 by 22, filled from below as its slots are taken

-- the upper end of page g's box
abbrev pub top : ℕ → ℕ
top g = 26 + 22 * (g / 64) + 28 * (g / 512)

-- its left end: a box that is joined begins where the one before ends
abbrev pub left : ℕ → ℕ → ℕ
left g j = 17 + 16 * (g % 64) - j

-- above a chunk its number; then the page's box, as many tenths of it as its level filled from below, and the number in it
abbrev pub svg_cell : List ℕ
svg_cell =
    ascii "[<text x=\"17\" y=\"$\">chunk $</text>\n]"
    ++ ascii "<rect class=\"~\" x=\"$\" y=\"$\" width=\"$\" height=\"20\"/>\n"
    ++ ascii "[<rect class=\"u\" x=\"$\" y=\"$\" width=\"$\" height=\"$\"/>\n]"
    ++ ascii "[<text class=\"n\" x=\"$\" y=\"$\">$</text>\n]"

-- its numbers, a line for each line of the template
unfoldable pub svg_page : ℕ → Cell → List ℕ
svg_page g s =
    let x = left g s.joined in
    let w = 15 + s.joined in
    let v = s.level in
    filled svg_cell
    (digit (eqb (g % 512) 0) ∷ (top g - 7) ∷ g / 512
    ∷ s.fill ∷ x ∷ top g ∷ w
    ∷ v ∷ x ∷ (top g + (20 - 2 * v)) ∷ w ∷ 2 * v
    ∷ s.label ∷ (x + 1) ∷ (top g + 13) ∷ s.label ∷ [])

-- the picture's size, and the fills: p paper, e page 0, f free, l large run, c class run, u its taken slots; labels are n. Orange and blue
-- are told apart by most who see few colours, and fullness is a height
abbrev pub svg_head : List ℕ
svg_head =
    ascii "<svg xmlns=\"http://www.w3.org/2000/svg\" width=\"1058\" height=\"$\" viewBox=\"0 0 1058 $\">\n"
    ++ ascii "<style>text{font:13px sans-serif}.n{font:5.5px Arial,Helvetica,sans-serif}rect{shape-rendering:crispEdges}"
    ++ ascii ".p{fill:#fff}.e{fill:#555}.f{fill:#eee}.l{fill:#e69f00}.c{fill:#d6eaf8}.u{fill:#56b4e9}</style>\n"
    ++ ascii "<rect class=\"p\" width=\"100%\" height=\"100%\"/>\n"

-- below the chunks: what boxes and labels say, and the totals
abbrev pub svg_foot : List ℕ
svg_foot =
    ascii "<g transform=\"translate(17 $)\">\n"
    ++ ascii "<rect class=\"e\" width=\"15\" height=\"20\"/>\n<text x=\"22\" y=\"15\">page 0</text>\n"
    ++ ascii "<rect class=\"f\" x=\"84\" width=\"15\" height=\"20\"/>\n<text x=\"106\" y=\"15\">free</text>\n"
    ++ ascii "<rect class=\"l\" x=\"154\" width=\"47\" height=\"20\"/>\n<text class=\"n\" x=\"155\" y=\"13\">3</text>\n"
    ++ ascii "<text x=\"208\" y=\"15\">large run with its pages</text>\n"
    ++ ascii "<rect class=\"c\" x=\"388\" width=\"15\" height=\"20\"/>\n<rect class=\"u\" x=\"388\" y=\"14\" width=\"15\" height=\"6\"/>\n"
    ++ ascii "<text class=\"n\" x=\"389\" y=\"13\">24</text>\n<rect class=\"c\" x=\"404\" width=\"79\" height=\"20\"/>\n"
    ++ ascii "<rect class=\"u\" x=\"404\" y=\"6\" width=\"79\" height=\"14\"/>\n<text class=\"n\" x=\"405\" y=\"13\">320</text>\n"
    ++ ascii "<text x=\"490\" y=\"15\">class runs with their slot size, filled as their slots are taken</text>\n"
    ++ ascii "<text y=\"44\">$ live blocks, $ bytes given, $ free pages</text>\n</g>\n</svg>\n"

-- ---- a drawing, as SVG or as text

-- whether a drawing is made as SVG: what follows goes by that
abbrev pub is_svg : Form → Bool
is_svg Text = false
is_svg Svg = true

unfoldable pub head_of : Bool → ℕ → List ℕ
head_of true c = filled svg_head ((204 * c + 74) ∷ (204 * c + 74) ∷ [])
head_of false c = []

abbrev pub page_of : Bool → ℕ → Cell → List ℕ
page_of true g s = svg_page g s
page_of false g s = text_page g s

unfoldable pub foot_of : Bool → ℕ → Sums → List ℕ
foot_of true c t = filled svg_foot ((204 * c + 20) ∷ t.blocks ∷ t.bytes ∷ t.free ∷ [])
foot_of false c t = filled text_foot (t.blocks ∷ t.bytes ∷ t.free ∷ [])

-- n pages from page g on, behind the cell `last`
unfoldable pub pages_from : Bool → Pool → Cell → ℕ → ℕ → List ℕ
pages_from v p last g zero = []
pages_from v p last g (suc n) = page_of v g (cell_at p last g) ++ pages_from v p (cell_at p last g) (suc g) n

-- the drawing of sound records
unfoldable pub drawing : Bool → ℕ → Pool → List ℕ
drawing v c p = head_of v c ++ (pages_from v p no_cell 0 (512 * c) ++ foot_of v c (summed c p))

-- room that is enough: for the head, for a page, for the foot, for a pool of c chunks
abbrev pub head_room : Bool → ℕ
head_room true = 1024
head_room false = 0

abbrev pub page_room : Bool → ℕ
page_room true = 420
page_room false = 29

abbrev pub foot_room : Bool → ℕ
foot_room true = 1024
foot_room false = 256

unfoldable pub room_for : Bool → ℕ → ℕ
room_for v c = head_room v + (page_room v * (512 * c) + foot_room v)

-- ---- the call

abbrev pub drawn_as : ℕ → ℕ → Drawn
drawn_as r n = record { refusal = r; length = n }

-- the drawing stands at the buffer's front
unfoldable pub showing : Bool → ℕ → Pool → List ℕ → Left Drawn (List ℕ)
showing v c p out = leaves (drawn_as 0 (length (drawing v c p))) (sets out 0 (drawing v c p))

-- refusal 1 or 2, then 7 where the buffer has not room enough; each changes nothing
unfoldable pub drawn_of : Bool → ℕ → Pool → List ℕ → Left Drawn (List ℕ)
drawn_of v c p out =
    unless (admit_of c p) (λ r. leaves (drawn_as r 0) out)
    (cond (ltb (length out) (room_for v c)) (leaves (drawn_as short_room 0) out) (showing v c p out))
