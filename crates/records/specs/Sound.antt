-- Sound records (RULES 3.5): each chunk a row of free pages, large runs and class runs, each wholly inside
-- the chunk and written exactly so, page bits agreeing, page 0 taken, no stray slot bit. Assumes nothing.
use Rattle.std.specs.Prelude.{Bool, true, false, cond, ◌&&◌, List, [], ◌∷◌, ℕ, zero, suc, ◌*◌, eqb, ltb}
use Rattle.std.proofs.Math.Option.{Option, none, some}
use Rattle.records.specs.declared.Kind.{Kind}
use Rattle.records.specs.declared.Kind.TheVariants.{Edge, Free, Damaged, Large, Class, Inner}
use Rattle.records.specs.Kinds.{words_of, slots_of}
use Rattle.records.specs.Pool.{Pool, kind_at, slot_at}

-- f holds of each number below n
unfoldable pub all : ℕ → (ℕ → Bool) → Bool
all zero f = true
all (suc n) f = f n && all n f

-- no stray slot bit: each of a page's 512 slot bits that is 1 names a slot of the run that starts there
unfoldable pub named : Pool → ℕ → ℕ → Bool
named p g s = cond (slot_at p g s) (ltb s (slots_of (kind_at p g))) true

unfoldable pub clean : Pool → ℕ → Bool
clean p g = all 512 (named p g)

-- none of the slots of the run that starts at page g is taken: all 512 bits are 0
unfoldable pub idle : Pool → ℕ → Bool
idle p g = all 512 (λ s. cond (slot_at p g s) false true)

-- of the words of a run, those of the pages behind its first
abbrev pub tail : List ℕ → Option (List ℕ)
tail [] = none
tail (w ∷ ws) = some ws

-- The pages are read upward. `due` are the words that the pages to come must have: none between runs. A page between runs begins
-- something; a page inside a run has the next word that is due. (Page 0 of the next chunk is inside no run: so a run ends in its chunk.)
abbrev pub step : List ℕ → Kind → Option (List ℕ)
step [] k = tail (words_of k)
step (w ∷ ws) Edge = none
step (w ∷ ws) Free = none
step (w ∷ ws) Damaged = none
step (w ∷ ws) (Large k) = none
step (w ∷ ws) (Class b) = none
step (w ∷ ws) (Inner v) = cond (eqb w v) (some ws) none

abbrev pub follow : Option (List ℕ) → (List ℕ → Bool) → Bool
follow none f = false
follow (some due) f = f due

-- the n pages from page g on are sound, where the pages before left these words due
unfoldable pub sound_from : Pool → List ℕ → ℕ → ℕ → Bool
sound_from p [] g zero = true
sound_from p (w ∷ ws) g zero = false
sound_from p due g (suc n) = clean p g && follow (step due (kind_at p g)) (λ later. sound_from p later (suc g) n)

-- the records of c chunks are sound
unfoldable pub sound : ℕ → Pool → Bool
sound c p = sound_from p [] 0 (512 * c)
