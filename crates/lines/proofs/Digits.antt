-- A number's digits: the last one, and those before it.
use Prim.Native.Nat.{ℕ, zero, suc, ◌+◌, ◌/◌, ◌%◌, ◌≤◌, ◌<◌}
use native.Mathlib.Nat.{not-suc-le-zero, div-eq_of_lt, mod-eq_of_lt}
use native.Mathlib.Omega.{arith}
use mathlib.Core.Path.{◌≡◌, refl, ap, ◌∙◌}
use mathlib.Core.List.{[], ◌∷◌, ◌++◌}
use lib.ListN.{length, length-append}
use Rattle.lines.specs.Numbers.{digits_of, digits}

-- more steps than the number itself change nothing
digits_steps : (j k n : ℕ) → n ≤ j → n ≤ k → digits_of j n ≡ digits_of k n
digits_steps zero zero n l m = refl
digits_steps zero (suc k) zero l m = refl
digits_steps zero (suc k) (suc n) l m = absurd (not-suc-le-zero l)
digits_steps (suc j) zero zero l m = refl
digits_steps (suc j) zero (suc n) l m = absurd (not-suc-le-zero m)
digits_steps (suc j) (suc k) zero l m = refl
digits_steps (suc j) (suc k) (suc n) l m = rw (digits_steps j k (suc n / 10) (omega arith) (omega arith))

-- any number but 0 has digits of its own
digits_own : (n : ℕ) → 0 < n → digits n ≡ digits_of n n
unfolding digits
digits_own zero l = absurd (not-suc-le-zero l)
digits_own (suc n) l = refl

pub digits_one : (n : ℕ) → n < 10 → digits n ≡ (48 + n) ∷ []
unfolding digits
digits_one zero l = refl
digits_one (suc n) l = rw (div-eq_of_lt l, mod-eq_of_lt l, digits_steps n 0 0 (omega arith) (omega arith))

pub digits_more : (n : ℕ) → 10 ≤ n → digits n ≡ digits (n / 10) ++ ((48 + n % 10) ∷ [])
unfolding digits
digits_more zero l = absurd (not-suc-le-zero l)
digits_more (suc n) l =
    rw (digits_own (suc n / 10) (omega arith), digits_steps n (suc n / 10) (suc n / 10) (omega arith) (omega arith))

pub digits_longer : (n : ℕ) → 10 ≤ n → length (digits n) ≡ length (digits (n / 10)) + 1
digits_longer n l = ap length (digits_more n l) ∙ length-append (digits (n / 10)) ((48 + n % 10) ∷ [])

-- a number has no more digits than one more than itself
digits_few : (k n : ℕ) → length (digits_of k n) ≤ k
digits_few zero n = omega arith
digits_few (suc k) zero = omega arith
digits_few (suc k) (suc n) =
    omega (arith, digits_few k (suc n / 10), length-append (digits_of k (suc n / 10)) ((48 + suc n % 10) ∷ []))

pub digits_count : (n : ℕ) → length (digits n) ≤ n + 1
unfolding digits
digits_count zero = omega arith
digits_count (suc n) = omega (arith, digits_few (suc n) (suc n))
