-- What each page of a pool shows in a drawing. Assumes nothing.
use Rattle.std.specs.Prelude.{cond, ℕ, suc, ◌+◌, ◌*◌, ◌/◌, ltb}
use Prim.Native.Char.{code}
use Rattle.bitrow.specs.Row.{count_bits}
use Rattle.classes.specs.Classes.{size, slots}
use Rattle.records.specs.declared.Kind.{Kind}
use Rattle.records.specs.declared.Kind.TheVariants.{Edge, Free, Damaged, Large, Class, Inner}
use Rattle.records.specs.Pool.{Pool, kind_at}
use Rattle.cells.specs.declared.Cell.{Cell}

-- a cell: its character, its fill, 1 where it goes on with the cell before, how full it is in tenths, and its label, 0 for none
abbrev pub cell : ℕ → ℕ → ℕ → ℕ → ℕ → Cell
cell m f j v n = record { mark = m; fill = f; joined = j; level = v; label = n }

-- before the first page
abbrev pub no_cell : Cell
no_cell = cell 0 0 0 0 0

-- n of s slots in tenths: 10 where all are taken, and only there
unfoldable pub tenths : ℕ → ℕ → ℕ
tenths n s = 10 * n / s

-- the tenths as one character: a digit, or X
unfoldable pub mark_of : ℕ → ℕ
mark_of t = cond (ltb t 10) (48 + t) (code "X")

-- the first page of a run of class b, t tenths of whose slots are taken
unfoldable pub run_cell : ℕ → ℕ → Cell
run_cell b t = cell (mark_of t) (code "c") 0 t (size b)

-- a page behind a run's first goes on with its fill
unfoldable pub goes_on : Cell → Cell
goes_on last = cell (code "=") last.fill 1 last.level 0

-- What page g shows, by its kind and the cell before. A large run is labelled with its pages, a class run with its slot size.
-- (Sound records have no damaged page.)
abbrev pub cell_of : Pool → ℕ → Cell → Kind → Cell
cell_of p g last Edge = cell (code "@") (code "e") 0 0 0
cell_of p g last Free = cell (code ".") (code "f") 0 0 0
cell_of p g last Damaged = cell (code "?") (code "f") 0 0 0
cell_of p g last (Large k) = cell (code "L") (code "l") 0 0 (suc k)
cell_of p g last (Class b) = run_cell b (tenths (count_bits p.slots (512 * g) (slots b)) (slots b))
cell_of p g last (Inner w) = goes_on last

-- the same, of a pool
unfoldable pub cell_at : Pool → Cell → ℕ → Cell
cell_at p last g = cell_of p g last (kind_at p g)
