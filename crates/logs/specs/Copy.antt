-- Numbers laid over the front of a buffer.
use Rattle.std.specs.Prelude.{ℕ, List, [], ◌∷◌}

-- as many as the buffer has places for; further places keep what they had
abbrev pub laid : List ℕ → List ℕ → List ℕ
laid [] buffer = buffer
laid (a ∷ rest) [] = []
laid (a ∷ rest) (b ∷ buffer) = a ∷ laid rest buffer
