-- Resize (RULES 5.6): what becomes of the block at a place. Assumes nothing.
use Rattle.std.specs.Prelude.{◌≡◌, Bool, cond, ◌&&◌, List, ℕ, suc, ◌+◌, ◌-◌, ◌*◌, ◌%◌, ◌≤◌, ◌<◌, min, eqb, ltb, leb}
use Rattle.refusals.specs.Refusals.{unless, too_big}
use Rattle.bitrow.specs.Row.{next_bit}
use Rattle.classes.specs.Classes.{size, class_for}
use Rattle.records.specs.declared.Kind.TheVariants.{Free, Large}
use Rattle.records.specs.Kinds.{zeros, words_of}
use Rattle.records.specs.Pool.{Pool, kind_at}
use Rattle.records.specs.Calls.{admit_of, Left, leaves}
use Rattle.blocks.specs.Stores.{put_run}
use Rattle.reserve.specs.declared.Reserved.{Reserved}
use Rattle.reserve.specs.Reserve.{pages_for, reserve_of}
use Rattle.release.specs.declared.Spot.{Spot}
use Rattle.release.specs.declared.Spot.TheVariants.{Nowhere, Run, Slot}
use Rattle.release.specs.Release.{spot, release_of}
use Rattle.resize.specs.declared.Change.{Change}
use Rattle.resize.specs.declared.Change.TheVariants.{Refuse, Stay, Recut, Move}
use Rattle.resize.specs.declared.Resized.{Resized}

-- ---- what becomes of the block, by the page bits

-- What may become of a block is declared in src/lib.rt: Refuse r, nothing, with the number r; Stay z, it stays as it is, of z bytes; Recut g k j,
-- it is the large run at page g, and gets j pages behind its first in place of k; Move z, it is moved, and has z bytes.

-- a large run at page g, with k pages behind its first, may have j: the pages that it takes besides are of its chunk, and free
unfoldable pub can_grow : List ℕ → ℕ → ℕ → ℕ → Bool
can_grow bits g k j = leb (g % 512 + suc j) 512 && eqb (next_bit 1 bits (g + suc k) (j - k)) (g + suc j)

-- what that comes to on sound records: they are free pages, which page 0 of a chunk never is
abbrev pub FreeBehind : Pool → ℕ → ℕ → ℕ → Type 0
FreeBehind p g k j = (i : ℕ) → g + suc k ≤ i → i < g + suc j → kind_at p i ≡ Free

-- such a run gets j pages behind its first: it stays, gives back its last pages, or takes those right behind it
unfoldable pub fit_pages : List ℕ → ℕ → ℕ → ℕ → Change
fit_pages bits g k j =
    cond (eqb j k) (Stay (4096 * suc k))
    (cond (ltb j k) (Recut g k j)
    (cond (can_grow bits g k j) (Recut g k j)
    (Move (4096 * suc k))))

-- n bytes for a large run
unfoldable pub fit_run : List ℕ → ℕ → ℕ → ℕ → Change
fit_run bits g k n = cond (leb n 3072) (Move (4096 * suc k)) (fit_pages bits g k (pages_for n - 1))

-- and for a slot of class b
unfoldable pub fit_slot : ℕ → ℕ → Change
fit_slot b n = cond (leb n 3072) (cond (eqb (class_for n) b) (Stay (size b)) (Move (size b))) (Move (size b))

-- n bytes for what starts at a place
unfoldable pub change : List ℕ → Spot → ℕ → Change
change bits (Nowhere r) n = Refuse r
change bits (Run g k) n = cond (leb n 2093056) (fit_run bits g k n) (Refuse too_big)
change bits (Slot g b s) n = cond (leb n 2093056) (fit_slot b n) (Refuse too_big)

-- ---- what it leaves and answers

-- a large run at page g is given back, and written there with j pages behind its first in place of k
unfoldable pub recut : Pool → ℕ → ℕ → ℕ → Pool
recut p g k j = put_run 1 (put_run 0 p g (zeros (suc k))) g (words_of (Large j))

-- nothing
abbrev pub refused : ℕ → Resized
refused r = record { refusal = r; place = 0; size = 0; how = 0; copy = 0 }

-- the block at the place q is kept, with z bytes
abbrev pub kept : ℕ → ℕ → Resized
kept q z = record { refusal = 0; place = q; size = z; how = 1; copy = 0 }

-- the block that was reserved for n bytes, in place of one of z bytes
abbrev pub moved : Reserved → ℕ → ℕ → Resized
moved r z n = record { refusal = 0; place = r.place; size = r.size; how = 2; copy = min z n }

-- n bytes are reserved while the block of z bytes at the place q is live, and then that one is released
unfoldable pub moving : ℕ → Pool → ℕ → ℕ → ℕ → Left Resized Pool
moving c p q z n =
    let x = reserve_of c p n in
    unless x.answer.refusal (λ r. leaves (refused r) p) (leaves (moved x.answer z n) (release_of c x.left q).left)

-- n bytes for the block at the place q, by what becomes of it
unfoldable pub done : ℕ → Pool → ℕ → ℕ → Change → Left Resized Pool
done c p q n (Refuse r) = leaves (refused r) p
done c p q n (Stay z) = leaves (kept q z) p
done c p q n (Recut g k j) = leaves (kept q (4096 * suc j)) (recut p g k j)
done c p q n (Move z) = moving c p q z n

-- the work of a resize on records that are sound
unfoldable pub resize : ℕ → Pool → ℕ → ℕ → Left Resized Pool
resize c p q n = done c p q n (change p.bits (spot c p q) n)

-- the call
unfoldable pub resize_of : ℕ → Pool → ℕ → ℕ → Left Resized Pool
resize_of c p q n = unless (admit_of c p) (λ r. leaves (refused r) p) (resize c p q n)
