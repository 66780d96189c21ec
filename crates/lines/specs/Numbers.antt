-- Numbers in decimal: what a numeral stands for, and how a number is written.
use Rattle.std.specs.Prelude.{ℕ, zero, suc, ◌+◌, ◌-◌, ◌*◌, ◌/◌, ◌%◌, Bool, true, cond, not, ◌&&◌, List, [], ◌∷◌, ◌++◌, ltb, leb, eqb, length, get_or, Option, Some, None}
use Prim.Native.Char.{code}

-- a number is at most 4,294,967,295, and a set at most 65535
abbrev pub largest : ℕ
largest = 4294967295

abbrev pub largest_set : ℕ
largest_set = 65535

-- the byte of a digit
abbrev pub is_digit : ℕ → Bool
is_digit byte = leb (code "0") byte && leb byte (code "9")

-- there are only digits
abbrev pub digital : List ℕ → Bool
digital [] = true
digital (byte ∷ bytes) = is_digit byte && digital bytes

-- the number that digits stand for, after digits that stand for n
abbrev pub value_on : ℕ → List ℕ → ℕ
value_on n [] = n
value_on n (byte ∷ bytes) = value_on (n * 10 + (byte - code "0")) bytes

-- the number that digits stand for
unfoldable pub value : List ℕ → ℕ
value bytes = value_on 0 bytes

-- the first of several digits is 0
unfoldable pub zero_led : List ℕ → Bool
zero_led word = ltb 1 (length word) && eqb (get_or word 0 0) (code "0")

-- a numeral has a digit, no sign and no leading zero; 0 itself stands
unfoldable pub is_numeral : List ℕ → Bool
is_numeral word = ltb 0 (length word) && (not (zero_led word) && digital word)

-- a number where it is at most the limit
abbrev pub within : ℕ → ℕ → Option ℕ
within most n = cond (leb n most) (Some n) None

-- the number of some digits, leading zeros or none
unfoldable pub digits_within : ℕ → List ℕ → Option ℕ
digits_within most word = cond (digital word) (within most (value word)) None

-- the number that a word is
unfoldable pub read : ℕ → List ℕ → Option ℕ
read most word = cond (is_numeral word) (within most (value word)) None

-- the digits of a number up to k, none for 0: its last digit stands after those of its tenth part
abbrev pub digits_of : ℕ → ℕ → List ℕ
digits_of zero n = []
digits_of (suc k) zero = []
digits_of (suc k) (suc n) = digits_of k (suc n / 10) ++ ((code "0" + suc n % 10) ∷ [])

-- how a number is written: 0 itself stands
unfoldable pub digits : ℕ → List ℕ
digits zero = code "0" ∷ []
digits (suc n) = digits_of (suc n) (suc n)
