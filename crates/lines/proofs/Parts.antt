-- The parts of a line, one after the other.
use Prim.Native.Nat.{ℕ, ◌≤◌}
use mathlib.Core.Path.{◌≡◌, refl, sym, ap}
use mathlib.Core.List.{List, [], ◌∷◌}
use Rattle.std.proofs.Common.{Option, Some, None, option_and_then}
use Rattle.lines.specs.Words.{words}
use Rattle.lines.specs.Numbers.{largest, largest_set, within, read}
use Rattle.lines.specs.Parts.{both, all, one, two, three}
use Rattle.lines.proofs.Words.{words_some}
use Rattle.lines.proofs.Numbers.{read_le, read_set}

both_none : (first : Option ℕ) → both first None ≡ None
both_none (Some m) = refl
both_none None = refl

all_none : (first : Option ℕ) → all first None ≡ None
all_none (Some m) = refl
all_none None = refl

-- the first part, and then the others
module _ (bytes v rest : List ℕ) (split : words bytes ≡ v ∷ words rest) where
  pub one_long : (a : ℕ) → one a (words bytes) ≡ None
  one_long a = let more = words_some rest in rw (split, more.2)

  pub two_split : (a b : ℕ) → two a b (words bytes) ≡ both (read a v) (one b (words rest))
  two_split a b = rw split (two_on (words rest))
    where
      two_on : (parts : List (List ℕ)) → two a b (v ∷ parts) ≡ both (read a v) (one b parts)
      two_on [] = sym (both_none (read a v))
      two_on (w ∷ []) = refl
      two_on (w ∷ x ∷ more) = sym (both_none (read a v))

  pub three_split : (a b c : ℕ) → three a b c (words bytes) ≡ all (read a v) (two b c (words rest))
  three_split a b c = rw split (three_on (words rest))
    where
      three_on : (parts : List (List ℕ)) → three a b c (v ∷ parts) ≡ all (read a v) (two b c parts)
      three_on [] = sym (all_none (read a v))
      three_on (w ∷ []) = sym (all_none (read a v))
      three_on (w ∷ x ∷ []) = refl
      three_on (w ∷ x ∷ y ∷ more) = sym (all_none (read a v))

-- a number that was read is at most its limit
pub one_le : (a : ℕ) (parts : List (List ℕ)) (k : ℕ) → one a parts ≡ Some k → k ≤ a
one_le a [] k e = absurd cc
one_le a (v ∷ []) k e = read_le a v k e
one_le a (v ∷ w ∷ more) k e = absurd cc

both_first : (first second : Option ℕ) (m n : ℕ) → both first second ≡ Some (m, n) → first ≡ Some m
both_first (Some l) (Some k) m n e = ap (option_and_then (λ (p : ℕ × ℕ). Some p.0)) e
both_first (Some l) None m n e = absurd cc
both_first None second m n e = absurd cc

both_second : (first second : Option ℕ) (m n : ℕ) → both first second ≡ Some (m, n) → second ≡ Some n
both_second (Some l) (Some k) m n e = ap (option_and_then (λ (p : ℕ × ℕ). Some p.1)) e
both_second (Some l) None m n e = absurd cc
both_second None second m n e = absurd cc

all_others : (first : Option ℕ) (others : Option (ℕ × ℕ)) (l m n : ℕ) → all first others ≡ Some (l, m, n) → others ≡ Some (m, n)
all_others (Some k) (Some (i, j)) l m n e = ap (option_and_then (λ (p : ℕ × ℕ × ℕ). Some (p.1, p.2))) e
all_others (Some k) None l m n e = absurd cc
all_others None others l m n e = absurd cc

pub two_le : (a b : ℕ) (parts : List (List ℕ)) (m n : ℕ) → two a b parts ≡ Some (m, n) → (m ≤ a) × (n ≤ b)
two_le a b [] m n e = absurd cc
two_le a b (v ∷ []) m n e = absurd cc
two_le a b (v ∷ w ∷ []) m n e =
    (read_le a v m (both_first (read a v) (read b w) m n e), read_le b w n (both_second (read a v) (read b w) m n e))
two_le a b (v ∷ w ∷ x ∷ more) m n e = absurd cc

pub three_le : (a b c : ℕ) (parts : List (List ℕ)) (l m n : ℕ) → three a b c parts ≡ Some (l, m, n) → m ≤ b
three_le a b c [] l m n e = absurd cc
three_le a b c (v ∷ []) l m n e = absurd cc
three_le a b c (v ∷ w ∷ []) l m n e = absurd cc
three_le a b c (v ∷ w ∷ x ∷ []) l m n e =
    read_le b w m (both_first (read b w) (read c x) m n (all_others (read a v) (both (read b w) (read c x)) l m n e))
three_le a b c (v ∷ w ∷ x ∷ y ∷ more) l m n e = absurd cc

-- a set is read as a number that is at most 65535
pub one_set : (parts : List (List ℕ)) → one largest_set parts ≡ option_and_then (within largest_set) (one largest parts)
one_set [] = refl
one_set (v ∷ []) = read_set v
one_set (v ∷ w ∷ more) = refl

pub two_set : (parts : List (List ℕ))
    → two largest largest_set parts ≡ option_and_then (λ p. both (Some p.0) (within largest_set p.1)) (two largest largest parts)
two_set [] = refl
two_set (v ∷ []) = refl
two_set (v ∷ w ∷ []) = rw (read_set w) (go (read largest v) (read largest w))
  where
    go : (m n : Option ℕ)
        → both m (option_and_then (within largest_set) n) ≡ option_and_then (λ p. both (Some p.0) (within largest_set p.1)) (both m n)
    go (Some m) (Some n) = refl
    go (Some m) None = refl
    go None n = refl
two_set (v ∷ w ∷ x ∷ more) = refl

pub three_set : (parts : List (List ℕ))
    → three largest largest_set largest parts
    ≡ option_and_then (λ p. all (Some p.0) (both (within largest_set p.1) (Some p.2))) (three largest largest largest parts)
three_set [] = refl
three_set (v ∷ []) = refl
three_set (v ∷ w ∷ []) = refl
three_set (v ∷ w ∷ x ∷ []) = rw (read_set w) (go (read largest v) (read largest w) (read largest x))
  where
    go : (l m n : Option ℕ)
        → all l (both (option_and_then (within largest_set) m) n)
        ≡ option_and_then (λ p. all (Some p.0) (both (within largest_set p.1) (Some p.2))) (all l (both m n))
    go (Some l) (Some m) (Some n) = refl
    go (Some l) (Some m) None = rw (both_none (within largest_set m))
    go (Some l) None n = refl
    go None m n = refl
three_set (v ∷ w ∷ x ∷ y ∷ more) = refl
