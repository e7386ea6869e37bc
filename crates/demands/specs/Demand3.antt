-- Demand 3 (RULES 10, 11): "Take any series of these calls on one pool, refused ones among them. The book gains each block handed out, loses
-- each block released, and is emptied by each accepted fresh call. After every such series the census, given room, returns the number of
-- blocks in the book and lists exactly these, each once, by rising place, with the size it was given. No two of them share a byte, and none
-- touches the first page of a chunk."
-- The series runs the definitions that the calls' own contracts cite. Assumes nothing.
use Rattle.std.specs.Prelude.{◌≡◌, ◌≢◌, cond, ℕ, ◌+◌, ◌*◌, ◌/◌, ◌%◌, ◌≤◌, ◌<◌, eqb, leb, ltb, length, drop, get_or}
use mathlib.Core.List.{List, [], ◌∷◌, ◌++◌, Memᴰ}
use Rattle.records.specs.Kinds.{zeros}
use Rattle.records.specs.Pool.{Pool, pool}
use Rattle.records.specs.Calls.{fresh_of, leaves}
use Rattle.blocks.specs.Blocks.{Block, block, Rising}
use Rattle.reserve.specs.Reserve.{reserve_of}
use Rattle.sweep.specs.Sweep.{sweep_of}
use Rattle.release.specs.Release.{release_of}
use Rattle.resize.specs.Resize.{resize_of}
use Rattle.census.specs.Census.{words_for, counted, census_of}
use Rattle.events.specs.declared.Event.{Event}
use Rattle.events.specs.declared.Event.TheVariants.{Started, Served, Denied, Freed, Unfreed, Kept, Moved, Unresized, Ended}
use Rattle.events.specs.Doing.{reserve_event, release_event, resize_event}
use Rattle.replay.specs.Run.{run_of, replay_of}
use Rattle.lines.specs.Lines.{lines_room, printed_of}

-- ---- the book: a list of blocks, each a place and a size

-- without the block at the place q
unfoldable pub take_out : ℕ → List Block → List Block
take_out q [] = []
take_out q (b ∷ l) = let later = take_out q l in cond (eqb b.place q) l (b ∷ later)

-- what one call books, by its answer: an accepted fresh call empties the book, a served reserve puts in the answered place and size, a
-- served release takes out the block at the place that it named, a served resize does both: kept, the block is put in at the same place;
-- nothing else changes it
unfoldable pub note : Event → List Block → List Block
note (Started n) book = []
note (Served n q z) book = block q z ∷ book
note (Denied n r) book = book
note (Freed q) book = take_out q book
note (Unfreed q r) book = book
note (Kept q n z) book = block q z ∷ take_out q book
note (Moved q n to z) book = block to z ∷ take_out q book
note (Unresized q n r) book = book
note Ended book = book

-- several calls in turn
unfoldable pub notes : List Event → List Block → List Block
notes [] book = book
notes (e ∷ l) book = notes l (note e book)

-- ---- a call, with any arguments of its own

pub data Call : Type 0 where
  -- c
  check fresh totals sweep : ℕ → Call
  -- c, size
  reserve : ℕ → ℕ → Call
  -- c, place
  release block_size next : ℕ → ℕ → Call
  -- c, place, size
  resize : ℕ → ℕ → ℕ → Call
  -- c, room
  census : ℕ → List ℕ → Call
  -- c, log
  replay : ℕ → List ℕ → Call
  -- c, log, buffer
  lines : ℕ → List ℕ → List ℕ → Call
  -- ear, c, place, left and right arena: both calls, for the part and for the number
  bytes : ℕ → ℕ → ℕ → List ℕ → List ℕ → Call

-- the three buffers, and the book
pub record State : Type 0 where
  pub pool : Pool
  pub book : List Block

abbrev pub state : Pool → List Block → State
state p book = record { pool = p; book = book }

-- a call on the pool as the last one left it. Those that only read are lent the records for reading, and book nothing
unfoldable pub call : Call → State → State
call (fresh c) x = state (fresh_of c x.pool).left (cond (eqb (fresh_of c x.pool).answer 0) (note (Started c) x.book) x.book)
call (reserve c n) x = state (reserve_of c x.pool n).left (note (reserve_event n (reserve_of c x.pool n).answer) x.book)
call (release c q) x = state (release_of c x.pool q).left (note (release_event q (release_of c x.pool q).answer) x.book)
call (resize c q n) x = state (resize_of c x.pool q n).left (note (resize_event q n (resize_of c x.pool q n).answer) x.book)
-- a sweep books nothing
call (sweep c) x = state (sweep_of c x.pool).left x.book
-- its fields in turn: all of an accepted log, else those before the position, none at refusal 1
call (replay c log) x = state (replay_of c x.pool log).left (notes (run_of c x.pool log).events x.book)
-- a replay, unless the buffer is refused
call (lines c log out) x =
    state (printed_of c x.pool log out).left.0
    (cond (ltb (length out) (lines_room (length log))) x.book (notes (run_of c x.pool log).events x.book))
call (check c) x = x
call (block_size c q) x = x
call (next c q) x = x
call (census c room) x = x
call (totals c) x = x
call (bytes ear c q left right) x = x

-- one after another
unfoldable pub series : List Call → State → State
series [] x = x
series (a ∷ l) x = series l (call a x)

-- ---- the claim

-- by rising place
unfoldable pub insert : Block → List Block → List Block
insert b [] = b ∷ []
insert b (x ∷ l) = let later = insert b l in cond (leb b.place x.place) (b ∷ x ∷ l) (x ∷ later)

unfoldable pub sort : List Block → List Block
sort [] = []
sort (b ∷ l) = insert b (sort l)

-- the block b has the byte q
abbrev pub Holds : Block → ℕ → Type 0
Holds b q = (b.place ≤ q) × (q < b.place + b.size)

-- the census lists the book
pub record Lists (c : ℕ) (x : State) : Type 0 where
  -- a census with the same c and at least two words for each block in the book is served; its count is the book's length, and its words
  -- are the book's blocks by rising place, place then size; the words behind them are as they were
  pub census : (room : List ℕ) → 2 * length x.book ≤ length room
      → census_of c x.pool room
      ≡ leaves (counted 0 (length x.book)) (words_for (sort x.book) ++ drop (2 * length x.book) room)
  -- they rise, none is empty, each ends at or before the next one's place, and all lie inside the pool
  pub rising : Rising 0 (sort x.book) (2097152 * c)
  -- no two of them share a byte
  pub apart : (i j : ℕ) → i < length x.book → j < length x.book → (q : ℕ)
      → Holds (get_or (sort x.book) i (block 0 0)) q → Holds (get_or (sort x.book) j (block 0 0)) q → i ≡ j
  -- none touches the first page of a chunk
  pub off : (b : Block) → Memᴰ b x.book → (q : ℕ) → Holds b q → q / 4096 % 512 ≢ 0

pub record Demand3 : Type 0 where
  -- for every c from 1 to 16 there are buffers that a fresh call accepts
  pub opens : (c : ℕ) → 1 ≤ c → c ≤ 16 → (fresh_of c (pool (zeros (8 * c)) (zeros (512 * c)) (zeros (4096 * c)))).answer ≡ 0
  -- whatever they held, and whatever calls follow
  pub lists : (c : ℕ) (p : Pool) → (fresh_of c p).answer ≡ 0 → (calls : List Call) → Lists c (series calls (state (fresh_of c p).left []))
