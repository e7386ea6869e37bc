-- Laws of decimal text, and of texts written one after another.
use Prim.Native.Nat.{ℕ, zero, suc, ◌+◌, ◌-◌, ◌*◌, ◌/◌, ◌%◌, ◌^◌, ◌≤◌, ◌<◌}
use mathlib.Core.Path.{◌≡◌, refl, sym, ap, ◌∙◌}
use mathlib.Core.List.{List, [], ◌∷◌, ◌++◌}
use mathlib.Core.Bool.{Bool, true, false, cond}
use native.Mathlib.Nat.{add-zero, add-suc, suc-add, pow-suc}
use native.Mathlib.Numerals.{add-one}
use native.Mathlib.Decide.{dec_lt}
use native.Mathlib.Omega.{arith}
use mathlib.Core.Logic.{by_cases, ◌≢◌}
use borrow.Author.Tests.{lt-ltb, le-ltb, ne_eqb}
use mir.Val.{Fits}
use mir.Syntax.{w64}
use lib.ListN.{length, drop, set, length-append, get_or, drop_of_length-le, take}
use lib.Seq.{sets, set_comm, drop-cons, length-sets, get_or-drop, drop-drop, length-take-le}
use Rattle.text.specs.Text.{digits, decimal, Appends, piece, takes, shows, only, filled_from, filled, piece_room, room}

-- ---- stores

pub sets_append : (l : List ℕ) (i : ℕ) (t u : List ℕ) → sets l i (t ++ u) ≡ sets (sets l i t) (i + length t) u
sets_append l i [] u = rw add-zero
sets_append l i (a ∷ t) u = sets_append (set l i a) (suc i) t u ∙ rw (suc-add i (length t), add-suc i (length t))

pub sets_store : (l : List ℕ) (i j x : ℕ) (t : List ℕ) → i + length t ≤ j → sets (set l j x) i t ≡ set (sets l i t) j x
sets_store l i j x [] h = refl
sets_store l i j x (a ∷ t) h =
    rw (set_comm l j i x a (λ e. omega arith)) (sets_store (set l i a) (suc i) j x t (omega arith))

-- the last byte of a text may be stored first
pub sets_last : (l : List ℕ) (i x : ℕ) (t : List ℕ) → sets (set l (i + length t) x) i t ≡ sets l i (t ++ x ∷ [])
sets_last l i x t = sets_store l i (i + length t) x t (omega arith) ∙ sym (sets_append l i t (x ∷ []))

-- ---- texts one after another

pub appends_none : {a : List ℕ} {i : ℕ} → Appends a a i i []
appends_none {a} {i} = record { next = sym (add-zero i); text = refl }

pub appends_more : {a b c : List ℕ} {i j k : ℕ} {t u : List ℕ} → Appends a b i j t → Appends b c j k u → Appends a c i k (t ++ u)
appends_more {a} {b} {c} {i} {j} {k} {t} {u} w v =
    record {
      next = rw (length-append t u) (omega (arith, w.next, v.next));
      text = v.text ∙ rw (w.text, w.next, sets_append a i t u);
    }

pub appends_length : {a b : List ℕ} {i j : ℕ} {t : List ℕ} → Appends a b i j t → length b ≡ length a
appends_length {a} {b} {i} {j} {t} w = ap length w.text ∙ length-sets a i t

-- what `&out[..n]` asks of the text at the front of a buffer
pub counted : (n : ℕ) (l : List ℕ) → n ≤ length l → (n ≤ length l) × (n ≡ length (take n l))
counted n l h = (h, sym (length-take-le n l h))

-- ---- decimal numbers

digits_small : (k n : ℕ) → n < 10 → digits k n ≡ (48 + n) ∷ []
unfolding digits
digits_small zero n h = ap (λ (d : ℕ). (48 + d) ∷ []) (omega arith)
digits_small (suc k) n h = rw (lt-ltb n 10 h)

digits_large : (k n : ℕ) → 10 ≤ n → digits (suc k) n ≡ digits k (n / 10) ++ (48 + n % 10) ∷ []
unfolding digits
digits_large k n h = rw (le-ltb n 10 h)

-- any number of steps that is enough gives the same digits
digits_same : (k j n : ℕ) → n ≤ k → n ≤ j → digits k n ≡ digits j n
digits_same zero j n h g = digits_small zero n (omega arith) ∙ sym (digits_small j n (omega arith))
digits_same (suc k) zero n h g = digits_small (suc k) n (omega arith) ∙ sym (digits_small zero n (omega arith))
digits_same (suc k) (suc j) n h g =
    by_cases (dec_lt n 10)
    (λ s. digits_small (suc k) n s ∙ sym (digits_small (suc j) n s))
    (λ s. let b : 10 ≤ n = omega arith in
    digits_large k n b ∙ ap (λ (l : List ℕ). l ++ (48 + n % 10) ∷ []) (digits_same k j (n / 10) (omega arith) (omega arith)) ∙ sym (digits_large j n b))

pub decimal_small : (n : ℕ) → n < 10 → decimal n ≡ (48 + n) ∷ []
unfolding decimal
decimal_small n h = digits_small n n h

pub decimal_large : (n : ℕ) → 10 ≤ n → decimal n ≡ decimal (n / 10) ++ (48 + n % 10) ∷ []
unfolding decimal
decimal_large zero h = Prim.absurd (omega arith)
decimal_large (suc k) h =
    digits_large k (suc k) h ∙ ap (λ (l : List ℕ). l ++ (48 + suc k % 10) ∷ []) (digits_same k (suc k / 10) (suc k / 10) (omega arith) (omega arith))

pub decimal_length_large : (n : ℕ) → 10 ≤ n → length (decimal n) ≡ length (decimal (n / 10)) + 1
decimal_length_large n h = ap length (decimal_large n h) ∙ length-append (decimal (n / 10)) ((48 + n % 10) ∷ [])

pub decimal_length_small : (n : ℕ) → n < 10 → length (decimal n) ≡ 1
decimal_length_small n h = ap length (decimal_small n h)

pub decimal_some : (n : ℕ) → 1 ≤ length (decimal n)
decimal_some n = by_cases (dec_lt n 10) (λ s. omega (arith, decimal_length_small n s)) (λ s. omega (arith, decimal_length_large n (omega arith)))

-- a number below ten to the power k + 1 has at most k + 1 digits
pub decimal_short : (k n : ℕ) → n < 10 ^ suc k → length (decimal n) ≤ suc k
decimal_short zero n h = omega (arith, decimal_length_small n h)
decimal_short (suc k) n h =
    by_cases (dec_lt n 10) (λ s. omega (arith, decimal_length_small n s))
    (λ s. omega (arith, decimal_length_large n (omega arith), decimal_short k (n / 10) (omega (arith, pow-suc 10 (suc k)))))

-- a number from ten to the power k on has more than k digits
power_less : (j d : ℕ) → 10 ^ j ≤ 10 ^ (j + d)
power_less j zero = rw (add-zero j) (omega arith)
power_less j (suc d) = rw (add-suc j d) (omega (arith, pow-suc 10 (j + d), power_less j d))

pub power_most : (j k : ℕ) → j ≤ k → 10 ^ j ≤ 10 ^ k
power_most j k l = let e : j + (k - j) ≡ k = omega arith in rw e at (power_less j (k - j))

pub decimal_long : (k n : ℕ) → 10 ^ k ≤ n → suc k ≤ length (decimal n)
decimal_long zero n h = decimal_some n
decimal_long (suc k) n h =
    let one : 1 ≤ 10 ^ k = power_most 0 k (omega arith) in
    let large : 10 ^ k * 10 ≤ n = rw (pow-suc 10 k) at h in
    omega (arith, decimal_length_large n (omega arith), decimal_long k (n / 10) (omega arith))

-- ---- the loops

-- k - 1 digits are counted: n has k or more, and p is the least number that has k
pub record Digits (n p k : ℕ) : Type 0 where
  pub power : p * 10 ≡ 10 ^ k
  pub least : k ≤ length (decimal n)

abbrev pub Long : ℕ → ℕ → Type 0
Long n k = (k ≡ length (decimal n)) × (1 ≤ k) × (k ≤ 20)

pub digits_first : (n : ℕ) → Digits n 1 1
digits_first n = record { power = refl; least = decimal_some n }

module _ {n p k : ℕ} (d : Digits n p k) where
  pub digits_next : p * 10 ≤ n → Digits n (p * 10) (k + 1)
  digits_next l =
      let longer = decimal_long k n (omega (arith, d.power)) in
      record { power = rw (add-one k, pow-suc 10 k) (omega (arith, d.power)); least = omega (arith, longer) }

  pub digits_done : 1 ≤ k → k ≤ 20 → n < p * 10 → Long n k
  digits_done h g l =
      let e : suc (k - 1) ≡ k = omega arith in
      let below : n < 10 ^ suc (k - 1) = rw e (omega (arith, d.power)) in
      (omega (arith, d.least, decimal_short (k - 1) n below), h, g)

  pub digits_full : k ≡ 20 → Fits w64 n → Long n 20
  digits_full e h = (omega (arith, d.least, decimal_short 19 n (omega arith)), omega arith, omega arith)

-- the last digit of m is stored; those in front are left
pub digit_turn : (o : List ℕ) (at i m : ℕ) → 10 ≤ m → i + 1 ≡ at + length (decimal m) → sets (set o i (48 + m % 10)) at (decimal (m / 10)) ≡ sets o at (decimal m)
digit_turn o at i m h e =
    let p : i ≡ at + length (decimal (m / 10)) = omega (arith, decimal_length_large m h) in
    rw (p, decimal_large m h) (sets_last o at (48 + m % 10) (decimal (m / 10)))

pub digit_done : (o : List ℕ) (at i m : ℕ) → m < 10 → i + 1 ≡ at + length (decimal m) → set o i (48 + m) ≡ sets o at (decimal m)
digit_done o at i m h e =
    let p : i ≡ at = omega (arith, decimal_length_small m h) in
    rw (p, decimal_small m h)

-- ---- what a byte of a template writes

abbrev pub Pieced : ℕ → ℕ → List ℕ → List ℕ → ℕ → ℕ → Type 0
Pieced b n o o' i j = (Appends o o' i j (piece b n)) × (j ≤ i + piece_room b)

module _ (b n : ℕ) {o : List ℕ} {i : ℕ} where
  pub piece_none : (m : ℕ) → piece m n ≡ [] → b ≡ m → Pieced b n o o i i
  piece_none m h e = (rw (e, h) appends_none, omega arith)

  pub piece_number : b ≡ 36 → {o' : List ℕ} {j : ℕ} → Appends o o' i j (decimal n) → length (decimal n) ≤ 20 → Pieced b n o o' i j
  unfolding piece
  piece_number e w l = rw e (w, omega (arith, w.next))

  pub piece_byte : b ≡ 126 → Pieced b n o (set o i (n % 256)) i (i + 1)
  unfolding piece
  piece_byte e = rw e (record { next = refl; text = refl }, omega arith)

  pub piece_itself : b ≢ 91 → b ≢ 93 → b ≢ 36 → b ≢ 126 → Pieced b n o (set o i b) i (i + 1)
  unfolding piece
  piece_itself d e f g = rw (ne_eqb b 91 d, ne_eqb b 93 e, ne_eqb b 36 f, ne_eqb b 126 g) (record { next = refl; text = refl }, omega arith)

-- a byte that is not written counts as a bracket
piece_seen : (v : Bool) (b n : ℕ) → piece (cond v b 93) n ≡ only v (piece b n)
unfolding piece only
piece_seen true b n = refl
piece_seen false b n = refl

room_seen : (v : Bool) (b : ℕ) → piece_room (cond v b 93) ≤ piece_room b
room_seen true b = omega arith
room_seen false b = omega arith

-- ---- templates

module _ (t : List ℕ) (i : ℕ) (l : i < length t) where
  filled_step : (v : Bool) (ns : List ℕ) (k : ℕ)
      → filled_from v (drop i t) (drop k ns) ≡ only v (piece (get_or t i 0) (get_or ns k 0))
      ++ filled_from (shows v (get_or t i 0) (get_or ns k 0)) (drop (i + 1) t) (drop (k + takes (get_or t i 0)) ns)
  unfolding filled_from
  filled_step v ns k = rw (add-one i, drop-cons t i 0 l, get_or-drop k ns 0 0, add-zero k, drop-drop (takes (get_or t i 0)) k ns)

  room_step : room (drop i t) ≡ piece_room (get_or t i 0) + room (drop (i + 1) t)
  room_step = rw (add-one i, drop-cons t i 0 l)

filled_none : (v : Bool) (t ns : List ℕ) (i : ℕ) → length t ≤ i → filled_from v (drop i t) ns ≡ []
unfolding filled_from
filled_none v t ns i h = rw (drop_of_length-le t {i = i} h)

-- a template of which i bytes and k numbers are done: what is left, written from here, gives the whole
pub record Filling (o₀ : List ℕ) (at : ℕ) (t ns o : List ℕ) (v : Bool) (i j k : ℕ) : Type 0 where
  pub text : sets o j (filled_from v (drop i t) (drop k ns)) ≡ sets o₀ at (filled t ns)
  pub next : j + length (filled_from v (drop i t) (drop k ns)) ≡ at + length (filled t ns)
  pub within : j + room (drop i t) ≤ at + room t
  pub few : k ≤ i

module _ {o₀ : List ℕ} {at : ℕ} {t ns : List ℕ} where
  module _ {o : List ℕ} {v : Bool} {i j k : ℕ} (f : Filling o₀ at t ns o v i j k) where
    pub filling_done : length t ≤ i → (Appends o₀ o at j (filled t ns)) × (j ≤ at + room t)
    filling_done h =
        let e = filled_none v t (drop k ns) i h in
        (record { next = omega (arith, f.next, ap length e); text = ap (sets o j) (sym e) ∙ f.text }, omega (arith, f.within))

    module _ (l : i < length t) {b : ℕ} (e : b ≡ cond v (get_or t i 0) 93) where
      pub filling_next : {o' : List ℕ} {v' : Bool} {n m j' : ℕ} → n ≡ get_or ns k 0 → Pieced b n o o' j j' → v' ≡ shows v (get_or t i 0) n
          → m ≡ takes (get_or t i 0) → m ≤ 1 → Filling o₀ at t ns o' v' (i + 1) j' (k + m)
      filling_next {o'} {v'} {n} {m} {j'} g (w, h) x y z =
          let p = only v (piece (get_or t i 0) (get_or ns k 0)) in
          let u = filled_from v' (drop (i + 1) t) (drop (k + m) ns) in
          let s : filled_from v (drop i t) (drop k ns) ≡ p ++ u = rw (x, y, g) (filled_step t i l v ns k) in
          let q : piece b n ≡ p = rw (e, g) (piece_seen v (get_or t i 0) (get_or ns k 0)) in
          let a : Appends o o' j j' p = rw (← q) w in
          let r : piece_room b ≤ piece_room (get_or t i 0) = rw e (room_seen v (get_or t i 0)) in
          record {
            text = rw (a.text, a.next) (sym (sets_append o j p u) ∙ ap (sets o j) (sym s) ∙ f.text);
            next = omega (arith, a.next, ap length s, length-append p u, f.next);
            within = omega (arith, f.within, room_step t i l, h, r);
            few = omega (arith, f.few, z);
          }
