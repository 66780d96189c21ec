-- A set's binary digits are its nodes. So a count of digits is a count of nodes, and `&` and `^` are "in both" and "in one alone".
use Prim.Native.Nat.{ℕ, zero, suc, ◌+◌, ◌/◌, ◌%◌, ◌^◌, ◌≤◌, ◌<◌}
use native.Mathlib.Nat.{pow-suc}
use native.Mathlib.Omega.{arith}
use mathlib.Core.Path.{◌≡◌, sym, ap, ◌∙◌}
use mathlib.Core.Bool.{Bool, false, ◌&&◌, xor}
use lib.Arith.{lt-one}
use lib.Dec.{eqb}
use lib.Bits.{bit_and, bit_xor, and_lt, xor_lt}
use lib.Count.{ones, ones_step}
use Rattle.std.specs.Int.{bit_at}
use Rattle.std.proofs.lemmas.Bool.Decides.{nat_tests}
use Rattle.std.proofs.lemmas.Nat.Bits.{bit_at_lowest, bit_at-suc, bit_at-lt, bit_at_and, bit_at_xor}
use Rattle.rules.specs.First.{count}
use Rattle.rules.specs.Nodes.{nodes, has, size, shared, differing, subset}
use Rattle.rules.proofs.First.{one, count_same, count_within}

-- the digit that stands for a node
abbrev digit : ℕ → ℕ → Bool
digit set i = eqb (bit_at set i) 1

-- the first is worth one where it is set
first_digit : (n : ℕ) → one (digit n 0) ≡ n % 2
first_digit n = grind (arith, nat_tests, bit_at_lowest n)

-- a count from the front
count_front : (p : ℕ → Bool) (n : ℕ) → count p (suc n) ≡ one (p 0) + count (λ i. p (suc i)) n
count_front p zero = omega arith
count_front p (suc n) = omega (arith, count_front p n)

-- a count of set digits is a count of the places where they stand
ones_count : (k n : ℕ) → n < 2 ^ k → ones n ≡ count (digit n) k
unfolding ones
ones_count zero n l = ap ones (lt-one l)
ones_count (suc k) n l =
    omega (
      arith,
      ones_step n,
      first_digit n,
      ones_count k (n / 2) (omega (arith, pow-suc 2 k)),
      count_same (digit (n / 2)) (λ i. digit n (suc i)) k (λ i h. rw (bit_at-suc n i)),
      count_front (digit n) k,
    )

digit_and : (a b i : ℕ) → digit (bit_and a b) i ≡ digit a i && digit b i
digit_and a b i = grind (arith, nat_tests, bit_at_and a b i, bit_at-lt a i, bit_at-lt b i)

digit_xor : (a b i : ℕ) → digit (bit_xor a b) i ≡ xor (digit a i) (digit b i)
unfolding xor
digit_xor a b i = grind (arith, nat_tests, bit_at_xor a b i, bit_at-lt a i, bit_at-lt b i)

-- below 16 a node is in the set where its digit is set
pub has_digit : (set i : ℕ) → i < nodes → has set i ≡ digit set i
unfolding has
has_digit set i l = grind (arith, nat_tests)

-- above, it is in no set
pub has_over : (set i : ℕ) → nodes ≤ i → has set i ≡ false
unfolding has
has_over set i l = grind (arith, nat_tests)

-- digits that agree with a test of nodes count the nodes that pass
counts : (n : ℕ) (p : ℕ → Bool) → n < 2 ^ 16 → ((i : ℕ) → i < nodes → digit n i ≡ p i) → ones n ≡ count p nodes
unfolding nodes
counts n p l h = ones_count 16 n l ∙ count_same (digit n) p 16 h

pub size_is : (set : ℕ) → set < 2 ^ 16 → ones set ≡ size set
unfolding size
size_is set l = counts set (has set) l (λ i h. sym (has_digit set i h))

pub shared_is : (s c : ℕ) → s < 2 ^ 16 → c < 2 ^ 16 → ones (bit_and s c) ≡ shared s c
unfolding shared
shared_is s c ls lc =
    counts (bit_and s c) (λ i. has s i && has c i) (and_lt 16 s c ls lc)
    (λ i h. digit_and s c i ∙ rw (has_digit s i h, has_digit c i h))

pub differing_is : (c d : ℕ) → c < 2 ^ 16 → d < 2 ^ 16 → ones (bit_xor c d) ≡ differing c d
unfolding differing
differing_is c d lc ld =
    counts (bit_xor c d) (λ i. xor (has c i) (has d i)) (xor_lt 16 c d lc ld)
    (λ i h. digit_xor c d i ∙ rw (has_digit c i h, has_digit d i h))

-- all nodes of S are in C where as many are in both as in S
pub subset_is : (s c : ℕ) → subset s c ≡ eqb (shared s c) (size s)
unfolding subset shared size
subset_is s c = count_within (has s) (has c) nodes
