-- A number that is written and read back is the same number.
use Prim.Native.Nat.{ℕ, zero, suc, ◌+◌, ◌-◌, ◌*◌, ◌/◌, ◌%◌, ◌≤◌, ◌<◌}
use native.Mathlib.Nat.{div-add-mod', mod-lt, le_refl}
use native.Mathlib.Omega.{arith}
use mathlib.Core.Path.{◌≡◌, refl, sym, ap, ◌∙◌}
use mathlib.Core.Logic.{⊎_elim}
use mathlib.Core.Bool.{Bool, true, false, ◌&&◌}
use mathlib.Core.List.{List, [], ◌∷◌, ◌++◌}
use borrow.Author.Tests.{ltb-true, ltb-false, lt-ltb, le-leb, ne_eqb}
use lib.Dec.{ltb}
use lib.ListN.{length, get_or, get_or-append}
use Rattle.rules.proofs.Bools.{tested, and_true, and_false_right}
use Rattle.std.proofs.Common.{Some}
use Rattle.lines.specs.Numbers.{is_digit, digital, value_on, value, zero_led, is_numeral, read, digits}
use Rattle.lines.proofs.Digits.{digits_one, digits_more, digits_longer}

-- what holds of each number below 10, and of n where it holds of its tenth part, holds of every number
by_tens : (P : ℕ → Type 0) → ((n : ℕ) → n < 10 → P n) → ((n : ℕ) → 10 ≤ n → P (n / 10) → P n) → (k n : ℕ) → n ≤ k → P n
by_tens P one more zero n l = one n (omega arith)
by_tens P one more (suc k) n l =
    ⊎_elim
    (λ t. one n (ltb-true n 10 t))
    (λ t. let m = ltb-false n 10 t in more n m (by_tens P one more k (n / 10) (omega arith)))
    (tested (ltb n 10))

value_last : (m d : ℕ) (bytes : List ℕ) → value_on m (bytes ++ (d ∷ [])) ≡ value_on m bytes * 10 + (d - 48)
value_last m d [] = refl
value_last m d (b ∷ bytes) = value_last (m * 10 + (b - 48)) d bytes

pub value_digits : (n : ℕ) → value (digits n) ≡ n
unfolding value
value_digits n = by_tens (λ (n : ℕ). value_on 0 (digits n) ≡ n) small large n n (le_refl n)
  where
    small : (n : ℕ) → n < 10 → value_on 0 (digits n) ≡ n
    small n l = rw (digits_one n l) (omega arith)

    large : (n : ℕ) → 10 ≤ n → value_on 0 (digits (n / 10)) ≡ n / 10 → value_on 0 (digits n) ≡ n
    large n l e =
        rw (digits_more n l) (value_last 0 (48 + n % 10) (digits (n / 10)) ∙ omega (arith, e, div-add-mod' n 10))

digital_last : (d : ℕ) (bytes : List ℕ) → digital bytes ≡ true → is_digit d ≡ true → digital (bytes ++ (d ∷ [])) ≡ true
digital_last d [] e f = and_true f refl
digital_last d (b ∷ bytes) e f = go (is_digit b) e (λ g. digital_last d bytes g f)
  where
    go : (t : Bool) → t && digital bytes ≡ true → (digital bytes ≡ true → digital (bytes ++ (d ∷ [])) ≡ true)
        → t && digital (bytes ++ (d ∷ [])) ≡ true
    go true g rest = rest g
    go false g rest = g

is_digit_lem : (n : ℕ) → n < 10 → is_digit (48 + n) ≡ true
is_digit_lem n l = and_true (le-leb 48 (48 + n) (omega arith)) (le-leb (48 + n) 57 (omega arith))

digital_digits : (n : ℕ) → digital (digits n) ≡ true
digital_digits n = by_tens (λ (n : ℕ). digital (digits n) ≡ true) small large n n (le_refl n)
  where
    small : (n : ℕ) → n < 10 → digital (digits n) ≡ true
    small n l = rw (digits_one n l) (and_true (is_digit_lem n l) refl)

    large : (n : ℕ) → 10 ≤ n → digital (digits (n / 10)) ≡ true → digital (digits n) ≡ true
    large n l e = rw (digits_more n l) (digital_last (48 + n % 10) (digits (n / 10)) e (is_digit_lem (n % 10) (mod-lt n (omega arith))))

some_digit : (n : ℕ) → 0 < length (digits n)
some_digit n =
    ⊎_elim
    (λ t. omega (arith, ap length (digits_one n (ltb-true n 10 t))))
    (λ t. omega (arith, digits_longer n (ltb-false n 10 t)))
    (tested (ltb n 10))

-- the first digit of a number that is not 0 is not 0
first_digit : (n : ℕ) → 0 < n → get_or (digits n) 0 0 ≡ 48 → ⊥
first_digit n = by_tens (λ (n : ℕ). 0 < n → get_or (digits n) 0 0 ≡ 48 → ⊥) small large n n (le_refl n)
  where
    small : (n : ℕ) → n < 10 → 0 < n → get_or (digits n) 0 0 ≡ 48 → ⊥
    small n l p e = omega (arith, sym (ap (λ (bytes : List ℕ). get_or bytes 0 0) (digits_one n l)) ∙ e)

    large : (n : ℕ) → 10 ≤ n → (0 < n / 10 → get_or (digits (n / 10)) 0 0 ≡ 48 → ⊥) → 0 < n → get_or (digits n) 0 0 ≡ 48 → ⊥
    large n l rest p e =
        rest (omega arith)
        (sym (get_or-append (digits (n / 10)) ((48 + n % 10) ∷ []) 0 0 (some_digit (n / 10)))
        ∙ sym (ap (λ (bytes : List ℕ). get_or bytes 0 0) (digits_more n l))
        ∙ e)

not_led : (n : ℕ) → zero_led (digits n) ≡ false
unfolding zero_led
not_led n =
    ⊎_elim
    (λ t. rw (digits_one n (ltb-true n 10 t)))
    (λ t. and_false_right (ltb 1 (length (digits n))) (ne_eqb (get_or (digits n) 0 0) 48 (first_digit n (omega (arith, ltb-false n 10 t)))))
    (tested (ltb n 10))

pub read_digits : (most n : ℕ) → n ≤ most → read most (digits n) ≡ Some n
unfolding read is_numeral
read_digits most n l =
    rw (lt-ltb 0 (length (digits n)) (some_digit n), not_led n, digital_digits n, value_digits n, le-leb n most l)
