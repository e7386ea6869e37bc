-- Demand 2 (RULES 11): "Sizes, places and refusals follow the rules: the smallest class that holds the request, the lowest free slot of that
-- class, otherwise the shortest gap that is long enough in the first chunk that has one. 'No room' is answered exactly when neither exists. A
-- freed slot serves its class again; the pages of a freed run count as free for any request."; and as request 1 of the engineer's twelve has
-- it: "When 4 is due, every class run with no taken slot counts as free pages and the search is made once more; 4 is given exactly when that
-- finds nothing too. If the second search succeeds, all such runs are given back and the block is taken; if not, the records stay unchanged."
-- Request 2: "A slot whose class, or a large run whose page count, doesn't change stays. A large run that stays large shrinks by giving back its
-- last pages, or grows when enough pages right behind it are free, unswept. Else a new block is reserved by the usual rules while the old one is
-- live, and then the old one is released"
-- It is said of what the calls answer and leave on sound records, for every number of chunks, size and place; what they answer on others is
-- in Demand1. Assumes nothing.
use Rattle.std.specs.Prelude.{◌≡◌, ◌≢◌, ◌⊎◌, ◌↔◌, Bool, true, false, ℕ, suc, ◌+◌, ◌*◌, ◌≤◌, ◌<◌, min, length, take, drop}
use mathlib.Core.List.{List, [], ◌∷◌, ◌++◌, Memᴰ}
use Rattle.refusals.specs.Refusals.{too_big, no_room, no_block, free_slot, short_room, bad_field}
use Rattle.classes.specs.Classes.{size, pages, Smallest}
use Rattle.records.specs.declared.Kind.TheVariants.{Free, Large, Class}
use Rattle.records.specs.Kinds.{zeros, words_of}
use Rattle.records.specs.Pool.{Pool, kind_at}
use Rattle.records.specs.Calls.{fit, Left, leaves, fresh_of}
use Rattle.gaps.specs.Gaps.{HoldsNone, IsPlace}
use Rattle.blocks.specs.Blocks.{Block, block, slot_block, run_block, IsSlot, IsLarge, live}
use Rattle.blocks.specs.Stores.{put_run, put_slot, Good, Gains, Loses, Swaps}
use Rattle.reserve.specs.declared.Reserved.{Reserved}
use Rattle.reserve.specs.Reserve.{refused, slot_given, run_given, reserve_of}
use Rattle.sweep.specs.Sweep.{sweep_of, Sweeps}
use Rattle.release.specs.Release.{release_of, sized, size_of}
use Rattle.resize.specs.declared.Resized.{Resized}
use Rattle.resize.specs.Resize.{FreeBehind, recut, kept, moved, resize_of}
use Rattle.resize.specs.Resize as resizing
use Rattle.next.specs.declared.Next as next
use Rattle.next.specs.Next.{answered, next_of}
use Rattle.census.specs.Census.{words_for, counted, census_of}
use Rattle.totals.specs.Totals.{given, run_pages, totalled, totals_of}
use Rattle.blockbytes.specs.Bytes.{chosen, ear_fits, bytes_of, bytes_refusal_of}
use Rattle.requestlog.specs.declared.Field.{Field}
use Rattle.requestlog.specs.declared.Field.TheVariants.{Start, Reserve, Release, Resize, End}
use Rattle.requestlog.specs.declared.Cursor.{Cursor}
use Rattle.requestlog.specs.declared.Read.TheVariants.{Next, Done, Refused}
use Rattle.requestlog.specs.Log.{written, outset, read_at}
use Rattle.requestlog.specs.Walk.{row}
use Rattle.events.specs.declared.Event.TheVariants.{Started, Ended}
use Rattle.events.specs.Doing.{reserve_event, release_event, resize_event, do_field}
use Rattle.replay.specs.Run.{Run, ended, with_event, run_of}

-- ---- reserve (RULES 5.2)

-- the free slot of class b with the lowest place: slot s of the run at page g
pub record LowestSlot (c : ℕ) (p : Pool) (b g s : ℕ) : Type 0 where
  pub is : IsSlot c p g b s false
  pub lowest : (f t : ℕ) → IsSlot c p f b t false → (slot_block g b s).place ≤ (slot_block f b t).place

-- no slot of class b is free
abbrev pub NoSlot : ℕ → Pool → ℕ → Type 0
NoSlot c p b = (g s : ℕ) → IsSlot c p g b s false → ⊥

-- no chunk has a gap of k pages or more
abbrev pub NoGap : ℕ → List ℕ → ℕ → Type 0
NoGap c bits k = (i : ℕ) → i < c → HoldsNone bits i k

-- k pages hold n bytes, and no fewer do
pub record Fewest (n k : ℕ) : Type 0 where
  pub holds : n ≤ 4096 * k
  pub fewer : (j : ℕ) → j < k → 4096 * j < n

-- the pages that n bytes take where they take new ones
pub data Takes (n : ℕ) : ℕ → Type 0 where
  class_pages : (b : ℕ) → n ≤ 3072 → Smallest n b → Takes n (pages b)
  large_pages : (k : ℕ) → 3072 < n → n ≤ 2093056 → Fewest n k → Takes n k

-- n bytes find no room: no slot of their class is free, and no gap in these page bits is long enough
pub data NoRoom (c : ℕ) (p : Pool) (bits : List ℕ) (n : ℕ) : Type 0 where
  no_slot : (b : ℕ) → n ≤ 3072 → Smallest n b → NoSlot c p b → NoGap c bits (pages b) → NoRoom c p bits n
  no_run : (k : ℕ) → 3072 < n → n ≤ 2093056 → Fewest n k → NoGap c bits k → NoRoom c p bits n

-- they find room: what is answered and left, a line for each rule. `IsPlace c bits k g`: page g is the first of the shortest gap of at least
-- k pages in the first chunk that has one
pub data Places (c : ℕ) (p : Pool) (n : ℕ) : Left Reserved Pool → Type 0 where
  -- a slot of the smallest class that holds n bytes: the lowest that is free
  lowest_slot : (b g s : ℕ) → n ≤ 3072 → Smallest n b → LowestSlot c p b g s → Places c p n (leaves (slot_given g b s) (put_slot 1 p g s))
  -- where none is free, slot 0 of a new run
  new_run : (b g : ℕ) → n ≤ 3072 → Smallest n b → NoSlot c p b → IsPlace c p.bits (pages b) g
      → Places c p n (leaves (slot_given g b 0) (put_slot 1 (put_run 1 p g (words_of (Class b))) g 0))
  -- a large run of the fewest pages that hold n bytes
  large_run : (k g : ℕ) → 3072 < n → n ≤ 2093056 → Fewest n (suc k) → IsPlace c p.bits (suc k) g
      → Places c p n (leaves (run_given g (suc k)) (put_run 1 p g (words_of (Large k))))

-- what a reserve of n bytes answers and leaves
pub data Reserves (c : ℕ) (p : Pool) (n : ℕ) : Left Reserved Pool → Type 0 where
  -- it finds room
  at_once : {x : Left Reserved Pool} → Places c p n x → Reserves c p n x
  -- it finds none, but does when the pool is swept: then all empty runs are given back, and the block is taken
  sweep_first : {x : Left Reserved Pool} → NoRoom c p p.bits n → Places c (sweep_of c p).left n x → Reserves c p n x
  -- no slot of the class is free, and no gap is long enough even in the swept page bits
  finds_no_room : NoRoom c p (sweep_of c p).left.bits n → Reserves c p n (leaves (refused no_room) p)
  -- too big
  size_too_big : 2093056 < n → Reserves c p n (leaves (refused too_big) p)

-- the block that an answer names
abbrev pub block_of : Reserved → Block
block_of r = block r.place r.size

-- ---- release (RULES 3.7, 5.4)

-- what a release of the place q answers and leaves
pub data Releases (c : ℕ) (p : Pool) (q : ℕ) : Left ℕ Pool → Type 0 where
  -- a large run starts there: its pages are free pages
  run_there : (g k : ℕ) → IsLarge c p g k → (run_block g k).place ≡ q → Releases c p q (leaves 0 (put_run 0 p g (zeros (suc k))))
  -- a taken slot starts there: it is a free slot
  slot_taken : (g b s : ℕ) → IsSlot c p g b s true → (slot_block g b s).place ≡ q → Releases c p q (leaves 0 (put_slot 0 p g s))
  -- a free slot starts there
  slot_free : (g b s : ℕ) → IsSlot c p g b s false → (slot_block g b s).place ≡ q → Releases c p q (leaves free_slot p)
  -- nothing starts there
  nothing : ((g k : ℕ) → IsLarge c p g k → (run_block g k).place ≢ q)
      → ((g b s : ℕ) (taken : Bool) → IsSlot c p g b s taken → (slot_block g b s).place ≢ q) → Releases c p q (leaves no_block p)

-- ---- resize (RULES 5.6)

-- n bytes are more than a slot holds, and take a large run of k pages
pub record TakesRun (n k : ℕ) : Type 0 where
  pub large : 3072 < n
  pub most : n ≤ 2093056
  pub fewest : Fewest n k

-- the block at the place q cannot stay where n bytes are asked for
pub data Moves (c : ℕ) (p : Pool) (q n : ℕ) : Type 0 where
  -- a slot that is not of the class of n bytes
  other_class : (g b s : ℕ) → IsSlot c p g b s true → (slot_block g b s).place ≡ q → n ≤ 2093056 → (Smallest n b → ⊥) → Moves c p q n
  -- a large run, and a slot holds n bytes
  slot_enough : (g k : ℕ) → IsLarge c p g k → (run_block g k).place ≡ q → n ≤ 3072 → Moves c p q n
  -- a large run that needs more pages, and not all of those right behind it are free
  pages_taken : (g k j : ℕ) → IsLarge c p g k → (run_block g k).place ≡ q → TakesRun n (suc j) → k < j → (FreeBehind p g k j → ⊥) → Moves c p q n

-- what a resize of the block at the place q to n bytes answers and leaves. `recut p g k j`: the large run at page g has j pages behind its
-- first in place of k
pub data Resizes (c : ℕ) (p : Pool) (q n : ℕ) : Left Resized Pool → Type 0 where
  -- no block is there: 5 or 6, as a release of the place answers
  none_there : (r : ℕ) → (release_of c p q).answer ≡ suc r → Resizes c p q n (leaves (resizing.refused (suc r)) p)
  -- one is, and too much is asked for
  over_most : (release_of c p q).answer ≡ 0 → 2093056 < n → Resizes c p q n (leaves (resizing.refused too_big) p)
  -- a slot of the class of n bytes stays as it is
  slot_stays : (g b s : ℕ) → IsSlot c p g b s true → (slot_block g b s).place ≡ q → Smallest n b → Resizes c p q n (leaves (kept q (size b)) p)
  -- so does a large run of the pages that they take
  run_stays : (g k : ℕ) → IsLarge c p g k → (run_block g k).place ≡ q → TakesRun n (suc k) → Resizes c p q n (leaves (kept q (4096 * suc k)) p)
  -- one that has more pages keeps these
  run_shrinks : (g k j : ℕ) → IsLarge c p g k → (run_block g k).place ≡ q → TakesRun n (suc j) → j < k
      → Resizes c p q n (leaves (kept q (4096 * suc j)) (recut p g k j))
  -- one that has fewer takes those right behind it, where they are free
  run_grows : (g k j : ℕ) → IsLarge c p g k → (run_block g k).place ≡ q → TakesRun n (suc j) → k < j → FreeBehind p g k j
      → Resizes c p q n (leaves (kept q (4096 * suc j)) (recut p g k j))
  -- any other block is moved: n bytes are reserved while it is live, and then it is released
  moves : Moves c p q n → (reserve_of c p n).answer.refusal ≡ 0
      → Resizes c p q n (leaves (moved (reserve_of c p n).answer (size_of c p q).size n) (release_of c (reserve_of c p n).left q).left)
  -- unless there is no room
  cannot_move : Moves c p q n → (reserve_of c p n).answer.refusal ≡ no_room → Resizes c p q n (leaves (resizing.refused no_room) p)

-- what became of the pages where the large run at page g, with k pages behind its first, was kept with z bytes
pub record Recuts (p left : Pool) (g k z : ℕ) : Type 0 where
  -- those that it got were free
  pub got : (i : ℕ) → g + suc k ≤ i → 4096 * i < 4096 * g + z → kind_at p i ≡ Free
  -- those that it gave back are free
  pub gave : (i : ℕ) → i < g + suc k → 4096 * g + z ≤ 4096 * i → kind_at left i ≡ Free
  -- and those that it never had are what they were
  pub others : (i : ℕ) → (i < g) ⊎ ((g + suc k ≤ i) × (4096 * g + z ≤ 4096 * i)) → kind_at left i ≡ kind_at p i

-- what the caller has to copy where a resize of the block at the place q, of so many bytes, to n bytes answers r
pub record Copies (q old n : ℕ) (r : Resized) : Type 0 where
  -- no more than the old block has, nor than the new one has
  pub within : (r.copy ≤ old) × (r.copy ≤ r.size)
  -- where the block is kept it has its place, and nothing is to be copied
  pub keeps : r.how ≡ 1 → (r.place ≡ q) × (r.copy ≡ 0)
  -- where it is moved, all that both sizes hold; and the new block shares no byte with the old one
  pub carries : r.how ≡ 2 → (r.copy ≡ min old n) × ((i : ℕ) → q ≤ i → i < q + old → r.place ≤ i → i < r.place + r.size → ⊥)

-- ---- next (RULES 6.3)

-- what it answers for the place q
pub data Nexts (c : ℕ) (p : Pool) (q : ℕ) : next.Next → Type 0 where
  -- the live block with the lowest place at or above q
  next_block : (b : Block) → Memᴰ b (live c p) → q ≤ b.place → ((x : Block) → Memᴰ x (live c p) → q ≤ x.place → b.place ≤ x.place)
      → Nexts c p q (answered 0 b.place b.size)
  -- there is none
  block_nowhere : ((x : Block) → Memᴰ x (live c p) → x.place < q) → Nexts c p q (answered 0 0 0)

-- ---- replay (RULES 8)

-- what the fields of a log do, from a cursor on: the calls with their answers, the number and position at the end, and the pool that is left.
-- `read_at log k` is the field at a cursor, with the cursor behind it, or what ends the log (RULES 7.3)
pub data Plays (c : ℕ) (log : List ℕ) : Cursor → Pool → Run → Type 0 where
  -- the log is accepted
  log_done : {k : Cursor} {p : Pool} → read_at log k ≡ Done → Plays c log k p (ended 0 0 p)
  -- it is refused at a position
  log_refused : {k : Cursor} {p : Pool} {r q : ℕ} → read_at log k ≡ Refused r q → Plays c log k p (ended r q p)
  -- a start of another count than the pool's is refused 9
  other_count : {k j : Cursor} {p : Pool} {n : ℕ} → read_at log k ≡ Next (Start n) j → n ≢ c → Plays c log k p (ended bad_field k.at p)
  -- a start is a fresh call
  start_field : {k j : Cursor} {p : Pool} {x : Run} → read_at log k ≡ Next (Start c) j → Plays c log j (fresh_of c p).left x
      → Plays c log k p (with_event (Started c) x)
  -- a reserve, a release and a resize are these calls on the pool at that point, refused ones too
  reserve_field : {k j : Cursor} {p : Pool} {n : ℕ} {x : Run} → read_at log k ≡ Next (Reserve n) j → Plays c log j (reserve_of c p n).left x
      → Plays c log k p (with_event (reserve_event n (reserve_of c p n).answer) x)
  release_field : {k j : Cursor} {p : Pool} {q : ℕ} {x : Run} → read_at log k ≡ Next (Release q) j → Plays c log j (release_of c p q).left x
      → Plays c log k p (with_event (release_event q (release_of c p q).answer) x)
  resize_field : {k j : Cursor} {p : Pool} {q n : ℕ} {x : Run} → read_at log k ≡ Next (Resize q n) j → Plays c log j (resize_of c p q n).left x
      → Plays c log k p (with_event (resize_event q n (resize_of c p q n).answer) x)
  -- the end changes nothing
  end_field : {k j : Cursor} {p : Pool} {x : Run} → read_at log k ≡ Next End j → Plays c log j p x → Plays c log k p (with_event Ended x)

-- a call that a log can hold: a reserve, a release or a resize, of numbers of 32 bits
abbrev pub Loggable : Field → Type 0
Loggable (Start n) = ⊥
Loggable (Reserve n) = n < 4294967296
Loggable (Release q) = q < 4294967296
Loggable (Resize q n) = (q < 4294967296) × (n < 4294967296)
Loggable End = ⊥

-- such calls as fields, with the end behind them
abbrev pub logged : List Field → List ℕ
logged l = row written (l ++ (End ∷ []))

-- what they do to a pool, one after another
abbrev pub in_turn : ℕ → Pool → List Field → Run
in_turn c p [] = with_event Ended (ended 0 0 p)
in_turn c p (f ∷ l) = with_event (do_field c p f).answer (in_turn c (do_field c p f).left l)

-- ---- the claim

-- of a sound pool p of c chunks
pub record Follows (c : ℕ) (p : Pool) : Type 0 where
  -- A reserve answers and leaves what a rule says, and whatever a rule says is what it answers and leaves. So the rules cover every size,
  -- and no two of them overlap; 3 is answered exactly above 2,093,056 bytes, and 4 exactly where neither a free slot is there nor, swept, a gap
  pub reserve : (n : ℕ) (x : Left Reserved Pool) → Reserves c p n x ↔ (reserve_of c p n ≡ x)
  -- what is served holds the request, and is put into the live blocks; they are the same otherwise
  pub holds : (n : ℕ) → (reserve_of c p n).answer.refusal ≡ 0 → n ≤ (reserve_of c p n).answer.size
  pub gains : (n : ℕ) → (reserve_of c p n).answer.refusal ≡ 0 → Gains c p (reserve_of c p n).left (block_of (reserve_of c p n).answer)
  -- where it finds room as the pool is, each taken page stays what it is: no empty run is given back
  pub stays : (n : ℕ) → (NoRoom c p p.bits n → ⊥) → (i : ℕ) → kind_at p i ≢ Free → kind_at (reserve_of c p n).left i ≡ kind_at p i
  -- a sweep is served: the pages of empty runs are free, all else is as it was, and no empty run is left
  pub swept : ((sweep_of c p).answer.refusal ≡ 0) × Sweeps c p (sweep_of c p).left
  -- it gains these pages, and every census is the same as before
  pub gained : (totals_of c (sweep_of c p).left).free ≡ (totals_of c p).free + (sweep_of c p).answer.pages
  pub listed : (room : List ℕ) → census_of c (sweep_of c p).left room ≡ census_of c p room
  -- where there is nothing to gain, nothing changes
  pub idle : (sweep_of c p).answer.pages ≡ 0 → (sweep_of c p).left ≡ p
  -- so a release, over every place
  pub release : (q : ℕ) (x : Left ℕ Pool) → Releases c p q x ↔ (release_of c p q ≡ x)
  -- it is served exactly where a live block has the place, and takes that one out of the live blocks
  pub served : (q : ℕ) → ((release_of c p q).answer ≡ 0) ↔ ((b : Block) × Memᴰ b (live c p) × (b.place ≡ q))
  pub loses : (q : ℕ) → (release_of c p q).answer ≡ 0 → (b : Block) × (b.place ≡ q) × Loses c p (release_of c p q).left b
  -- a freed slot serves its class again: a reserve of that class that follows is served, there or lower
  pub again : (g b s : ℕ) → IsSlot c p g b s true → (n : ℕ) → Smallest n b → (x : Left Reserved Pool)
      → x ≡ reserve_of c (release_of c p (slot_block g b s).place).left n
      → (x.answer.refusal ≡ 0) × (x.answer.place ≤ (slot_block g b s).place)
  -- the pages of a freed run are free, and count for any request: one that takes no more pages is served
  pub freed : (g k : ℕ) → IsLarge c p g k → (i : ℕ) → g ≤ i → i < g + suc k → kind_at (release_of c p (run_block g k).place).left i ≡ Free
  pub room : (g k : ℕ) → IsLarge c p g k → (n m : ℕ) → Takes n m → m ≤ suc k
      → (reserve_of c (release_of c p (run_block g k).place).left n).answer.refusal ≡ 0
  -- a resize answers and leaves what a rule says, over every place and size
  pub resize : (q n : ℕ) (x : Left Resized Pool) → Resizes c p q n x ↔ (resize_of c p q n ≡ x)
  -- one that is served: the answered block is live in place of the one at q, and all others are as they were; it holds what is asked for
  pub swaps : (q n : ℕ) (x : Left Resized Pool) → x ≡ resize_of c p q n → x.answer.refusal ≡ 0
      → Swaps c p x.left (block q (size_of c p q).size) (block x.answer.place x.answer.size) × (n ≤ x.answer.size)
  -- a run that needs more pages is kept exactly where those right behind it are free
  pub grows : (g k j n : ℕ) → IsLarge c p g k → TakesRun n (suc j) → k < j → FreeBehind p g k j ↔ ((resize_of c p (run_block g k).place n).answer.how ≡ 1)
  -- of a kept run no page is taken but its own, and none is given back but its last
  pub recuts : (g k n : ℕ) → IsLarge c p g k → (x : Left Resized Pool) → x ≡ resize_of c p (run_block g k).place n → x.answer.how ≡ 1
      → Recuts p x.left g k x.answer.size
  -- it tells what is to be copied
  pub copies : (q n : ℕ) (x : Left Resized Pool) → x ≡ resize_of c p q n → Copies q (size_of c p q).size n x.answer
  -- block size gives the size of each live block, and is refused where a release is
  pub size : (b : Block) → Memᴰ b (live c p) → size_of c p b.place ≡ sized 0 b.size
  pub unsized : (q r : ℕ) → (release_of c p q).answer ≡ suc r → size_of c p q ≡ sized (suc r) 0
  -- next answers what its rules say
  pub next : (q : ℕ) (x : next.Next) → Nexts c p q x ↔ (next_of c p q ≡ x)
  -- a census with room for two words a live block writes place and size of each, by rising place, and answers their count; the words behind
  -- are as they were. With less room: 7
  pub census : (room : List ℕ) → 2 * length (live c p) ≤ length room
      → census_of c p room ≡ leaves (counted 0 (length (live c p))) (words_for (live c p) ++ drop (2 * length (live c p)) room)
  pub short : (room : List ℕ) → length room < 2 * length (live c p) → census_of c p room ≡ leaves (counted short_room 0) room
  -- totals: how many live blocks there are, and their bytes; each page is free, in a run, or page 0 of its chunk
  pub totals : totals_of c p ≡ totalled 0 (length (live c p)) (given (live c p)) (totals_of c p).free
  pub pages : (totals_of c p).free + run_pages c p + c ≡ 512 * c
  -- bytes: where the ear fits, each live block's own part of the chosen arena, whole; refused where a release is
  pub bytes : (ear : ℕ) (left right : List ℕ) → ear_fits ear c (chosen ear (length left) (length right)) ≡ true → (b : Block) → Memᴰ b (live c p)
      → (bytes_refusal_of ear c p b.place left right ≡ 0)
      × (bytes_of ear c p b.place left right ≡ take b.size (drop b.place (chosen ear left right)))
      × (length (bytes_of ear c p b.place left right) ≡ b.size)
  pub partless : (ear : ℕ) (left right : List ℕ) → ear_fits ear c (chosen ear (length left) (length right)) ≡ true → (q r : ℕ)
      → (release_of c p q).answer ≡ suc r → bytes_refusal_of ear c p q left right ≡ suc r

pub record Demand2 : Type 0 where
  -- on sound records
  pub follows : (c : ℕ) (p : Pool) → Good c p → Follows c p
  -- fresh is served wherever the shape is right, whatever the buffers held: what it leaves is sound, and has no live block
  pub fresh : (c : ℕ) (p : Pool) → fit c p ≡ true → ((fresh_of c p).answer ≡ 0) × Good c (fresh_of c p).left × (live c (fresh_of c p).left ≡ [])
  -- and there a replay runs as its rules say: `replay_of` and `printed_of` tell and leave this run
  pub replay : (c : ℕ) (p : Pool) (log : List ℕ) → fit c p ≡ true → (x : Run) → Plays c log outset p x ↔ (run_of c p log ≡ x)
  -- so the log of any calls is accepted, and does these calls on a fresh pool
  pub log : (c : ℕ) (p : Pool) (calls : List Field) → fit c p ≡ true → ((f : Field) → Memᴰ f calls → Loggable f)
      → run_of c p (written (Start c) ++ logged calls) ≡ with_event (Started c) (in_turn c (fresh_of c p).left calls)
