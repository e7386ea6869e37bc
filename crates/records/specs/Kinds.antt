-- Pages: what a page's word means, and how a run is written (RULES 3.2).
-- Assumes nothing.
use Rattle.std.specs.Prelude.{◌≡◌, Bool, true, false, cond, not, List, [], ◌∷◌, ℕ, zero, suc, ◌+◌, ◌-◌, ◌*◌, ◌<◌, eqb, ltb, leb, replicate}
use Rattle.classes.specs.Classes.{slots, pages}
use Rattle.records.specs.declared.Kind.{Kind}
use Rattle.records.specs.declared.Kind.TheVariants.{Edge, Free, Damaged, Large, Class, Inner}

-- What a page is, is declared in src/lib.rt: Edge, page 0 of a chunk; Free; Large k, the first page of a large run that has k pages behind
-- it; Class b, the first page of a run of class b; Inner w, another page of a run, by its word; Damaged, anything else.

-- the word of page 0
abbrev pub edge_word : ℕ
edge_word = 0x40000001

-- of the first page of a large run of n pages; the run's other pages have the word 0
abbrev pub large_word : ℕ → ℕ
large_word n = 0x40000000 + n

-- of the first page of a run of class b
abbrev pub class_word : ℕ → ℕ
class_word b = 0x80000000 + b

-- of its page at offset k, k from 1
abbrev pub inner_word : ℕ → ℕ → ℕ
inner_word b k = 0xC0000000 + 65536 * k + b

-- What a word means: on page 0 of a chunk or another page, with the page's bit
abbrev pub kind_of : Bool → Bool → ℕ → Kind
kind_of true false w = Damaged
kind_of true true w = cond (eqb w edge_word) Edge Damaged
kind_of false false w = cond (eqb w 0) Free Damaged
kind_of false true w =
    cond (leb 0xC0000000 w) (Inner w)
    (cond (leb 0x80000000 w) (cond (ltb w 0x8000001E) (Class (w - 0x80000000)) Damaged)
    (cond (leb 0x40000001 w) (cond (ltb w 0x40000200) (Large (w - 0x40000001)) Damaged)
    (cond (eqb w 0) (Inner w) Damaged)))

-- n zeros
abbrev pub zeros : ℕ → List ℕ
zeros n = replicate n 0

-- the pages of a run of class b behind its first
unfoldable pub behind : ℕ → ℕ
behind b = pages b - 1

-- the words of n pages of a run of class b, from offset k on
unfoldable pub inner_words : ℕ → ℕ → ℕ → List ℕ
inner_words b k zero = []
inner_words b k (suc n) = inner_word b k ∷ inner_words b (suc k) n

-- How a page 0, a free page or a run is written: the words of its pages
abbrev pub words_of : Kind → List ℕ
words_of Edge = edge_word ∷ []
words_of Free = 0 ∷ []
words_of Damaged = []
words_of (Large k) = large_word (suc k) ∷ zeros k
words_of (Class b) = class_word b ∷ inner_words b 1 (behind b)
words_of (Inner w) = []

-- What a page begins: nothing, a large run with so many pages behind its first, or a run of a class. What depends on that goes by it
abbrev pub begins : {A : Type 0} → Kind → A → (ℕ → A) → (ℕ → A) → A
begins Edge none large class = none
begins Free none large class = none
begins Damaged none large class = none
begins (Large k) none large class = large k
begins (Class b) none large class = class b
begins (Inner w) none large class = none

-- the slots of the run that starts at a page
abbrev pub slots_of : Kind → ℕ
slots_of k = begins k 0 (λ n. 0) slots

-- a run of class b starts at the page
abbrev pub is_run_of : ℕ → Kind → Bool
is_run_of b k = begins k false (λ n. false) (λ d. eqb d b)

-- the pages of the run that starts at a page; none where no run starts
abbrev pub span_of : Kind → ℕ
span_of k = begins k 0 suc (λ b. suc (behind b))

-- the page lies in a class run
abbrev pub in_class : Kind → Bool
in_class Edge = false
in_class Free = false
in_class Damaged = false
in_class (Large k) = false
in_class (Class b) = true
in_class (Inner w) = not (eqb w 0)

-- the part of a class run that a page is, as a number: 2 its first page, 3 one behind it, less where it is none
abbrev pub ClassPart : ℕ → Kind → Type 0
ClassPart r Edge = r < 2
ClassPart r Free = r < 2
ClassPart r Damaged = r < 2
ClassPart r (Large k) = r < 2
ClassPart r (Class b) = r ≡ 2
ClassPart r (Inner w) = r ≡ cond (eqb w 0) 0 3
