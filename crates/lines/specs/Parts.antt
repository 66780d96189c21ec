-- The parts after a line's letter, as numbers: as many as asked, each at most its limit.
use Rattle.std.specs.Prelude.{ℕ, List, [], ◌∷◌, Option, Some, None}
use Rattle.lines.specs.Numbers.{read}

-- both are numbers
abbrev pub both : Option ℕ → Option ℕ → Option (ℕ × ℕ)
both (Some m) (Some n) = Some (m, n)
both (Some m) None = None
both None n = None

-- all three are numbers
abbrev pub all : Option ℕ → Option (ℕ × ℕ) → Option (ℕ × ℕ × ℕ)
all (Some l) (Some (m, n)) = Some (l, m, n)
all (Some l) None = None
all None two = None

-- the only part
abbrev pub one : ℕ → List (List ℕ) → Option ℕ
one a [] = None
one a (v ∷ []) = read a v
one a (v ∷ w ∷ more) = None

-- two parts
abbrev pub two : ℕ → ℕ → List (List ℕ) → Option (ℕ × ℕ)
two a b [] = None
two a b (v ∷ []) = None
two a b (v ∷ w ∷ []) = both (read a v) (read b w)
two a b (v ∷ w ∷ x ∷ more) = None

-- three parts
abbrev pub three : ℕ → ℕ → ℕ → List (List ℕ) → Option (ℕ × ℕ × ℕ)
three a b c [] = None
three a b c (v ∷ []) = None
three a b c (v ∷ w ∷ []) = None
three a b c (v ∷ w ∷ x ∷ []) = all (read a v) (both (read b w) (read c x))
three a b c (v ∷ w ∷ x ∷ y ∷ more) = None
