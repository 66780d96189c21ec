-- Reading a numeral, digit by digit.
use Prim.Native.Nat.{ℕ, suc, ◌+◌, ◌-◌, ◌*◌, ◌≤◌, ◌<◌}
use native.Mathlib.Nat.{le_trans}
use native.Mathlib.Numerals.{add-one}
use native.Mathlib.Omega.{arith}
use mathlib.Core.Path.{◌≡◌, refl, sym, ◌∙◌}
use mathlib.Core.Bool.{Bool, true, false, cond}
use mathlib.Core.List.{List, [], ◌∷◌}
use borrow.Author.Tests.{le-leb, lt-leb, lt-ltb, le-ltb, eq-eqb, ne_eqb, leb-true, leb-false}
use lib.Dec.{leb}
use lib.ListN.{length, drop, get_or, drop_of_length-le}
use lib.Seq.{drop-cons}
use Rattle.std.proofs.Common.{Option, Some, None, option_and_then}
use Rattle.lines.specs.Numbers.{largest, largest_set, is_digit, digital, value_on, value, zero_led, is_numeral, within, digits_within, read}

-- reading goes on with these bytes after digits that stand for n
abbrev pub read_on : ℕ → ℕ → List ℕ → Option ℕ
read_on most n bytes = cond (digital bytes) (within most (value_on n bytes)) None

-- more digits never make a number less
pub value_on_le : (n : ℕ) (bytes : List ℕ) → n ≤ value_on n bytes
value_on_le n [] = omega arith
value_on_le n (b ∷ bytes) = le_trans (omega arith) (value_on_le (n * 10 + (b - 48)) bytes)

-- a number past the limit stays past it
pub read_past : (most n : ℕ) (bytes : List ℕ) → most < n → read_on most n bytes ≡ None
read_past most n bytes l = go (digital bytes)
  where
    go : (t : Bool) → cond t (within most (value_on n bytes)) None ≡ None
    go true = rw (lt-leb (value_on n bytes) most (omega (arith, value_on_le n bytes)))
    go false = refl

module _ (most n : ℕ) (bytes : List ℕ) (i : ℕ) where
  -- one digit more
  pub read_more : i < length bytes → 48 ≤ get_or bytes i 0 → get_or bytes i 0 ≤ 57
      → read_on most n (drop i bytes) ≡ read_on most (n * 10 + (get_or bytes i 0 - 48)) (drop (i + 1) bytes)
  read_more l low high = rw (add-one, drop-cons bytes i 0 l, le-leb 48 (get_or bytes i 0) low, le-leb (get_or bytes i 0) 57 high)

  -- one digit too many
  pub read_over : i < length bytes → 48 ≤ get_or bytes i 0 → get_or bytes i 0 ≤ 57 → most < n * 10 + (get_or bytes i 0 - 48)
      → read_on most n (drop i bytes) ≡ None
  read_over l low high past = read_more l low high ∙ read_past most (n * 10 + (get_or bytes i 0 - 48)) (drop (i + 1) bytes) past

  -- a byte that is no digit
  pub read_low : i < length bytes → get_or bytes i 0 < 48 → read_on most n (drop i bytes) ≡ None
  read_low l low = rw (drop-cons bytes i 0 l, lt-leb 48 (get_or bytes i 0) low)

  pub read_high : i < length bytes → 57 < get_or bytes i 0 → read_on most n (drop i bytes) ≡ None
  read_high l high =
      rw (drop-cons bytes i 0 l, le-leb 48 (get_or bytes i 0) (omega arith), lt-leb (get_or bytes i 0) 57 high)

  -- the end of the digits
  pub read_end : length bytes ≤ i → n ≤ most → read_on most n (drop i bytes) ≡ Some n
  read_end l m = rw (drop_of_length-le bytes l, le-leb n most m)

-- digits are read up to a place, and stand for n
module _ (most n : ℕ) (bytes : List ℕ) (i : ℕ) (at : read_on most n (drop i bytes) ≡ read_on most 0 bytes) where
  -- the byte there is no digit
  pub digits_other : i < length bytes → is_digit (get_or bytes i 0) ≡ false → digits_within most bytes ≡ None
  unfolding digits_within value
  digits_other l other = sym at ∙ rw (drop-cons bytes i 0 l, other)

  -- one digit too many
  pub digits_over : i < length bytes → is_digit (get_or bytes i 0) ≡ true → most < n * 10 + (get_or bytes i 0 - 48)
      → digits_within most bytes ≡ None
  unfolding digits_within value
  digits_over l digit past =
      sym at ∙ rw (drop-cons bytes i 0 l, digit) (read_past most (n * 10 + (get_or bytes i 0 - 48)) (drop (suc i) bytes) past)

  -- the end of the digits
  pub digits_end : length bytes ≤ i → n ≤ most → digits_within most bytes ≡ Some n
  unfolding digits_within value
  digits_end l m = sym at ∙ rw (drop_of_length-le bytes l, le-leb n most m)

module _ (most : ℕ) (word : List ℕ) where
  -- no digit at all
  pub read_none : length word ≡ 0 → read most word ≡ None
  unfolding read is_numeral
  read_none e = rw (le-ltb 0 (length word) (omega arith))

  -- a 0 before further digits
  pub read_led : 1 < length word → get_or word 0 0 ≡ 48 → read most word ≡ None
  unfolding read is_numeral zero_led
  read_led l e = rw (lt-ltb 0 (length word) (omega arith), lt-ltb 1 (length word) l, eq-eqb (get_or word 0 0) 48 e)

  -- one digit alone may be 0
  pub read_one : length word ≡ 1 → read most word ≡ digits_within most word
  unfolding read is_numeral zero_led digits_within
  read_one e = rw (lt-ltb 0 (length word) (omega arith), le-ltb 1 (length word) (omega arith))

  -- digits with no 0 before them
  pub read_many : 1 < length word → (get_or word 0 0 ≡ 48 → ⊥) → read most word ≡ digits_within most word
  unfolding read is_numeral zero_led digits_within
  read_many l d = rw (lt-ltb 0 (length word) (omega arith), lt-ltb 1 (length word) l, ne_eqb (get_or word 0 0) 48 d)

-- a word by how many bytes it has and what the first is
pub ruleset by_numeral = (read_none, read_led, read_one, read_many)

-- a number that was read is at most the limit
within_le : (most n k : ℕ) → within most n ≡ Some k → k ≤ most
within_le most n k e = go (leb n most) refl e
  where
    go : (t : Bool) → leb n most ≡ t → cond t (Some n) None ≡ Some k → k ≤ most
    go true f g = let h : n ≡ k = cc in omega (arith, leb-true n most f)
    go false f g = let z : ◌≡◌ {A = ℕ} 0 1 = cc in omega arith

pub read_le : (most : ℕ) (word : List ℕ) (k : ℕ) → read most word ≡ Some k → k ≤ most
unfolding read
read_le most word k e = go (is_numeral word) e
  where
    go : (t : Bool) → cond t (within most (value word)) None ≡ Some k → k ≤ most
    go true f = within_le most (value word) k f
    go false f = let z : ◌≡◌ {A = ℕ} 0 1 = cc in omega arith

-- a set is a number at most 65535
pub read_set : (word : List ℕ) → read largest_set word ≡ option_and_then (within largest_set) (read largest word)
unfolding read
read_set word = go (is_numeral word) (leb (value word) largest) refl
  where
    go : (s t : Bool) → leb (value word) largest ≡ t
        → cond s (within largest_set (value word)) None
        ≡ option_and_then (within largest_set) (cond s (cond t (Some (value word)) None) None)
    go true true e = refl
    go true false e = rw (lt-leb (value word) largest_set (omega (arith, leb-false (value word) largest e)))
    go false t e = refl
