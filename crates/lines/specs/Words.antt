-- A line's parts, one space between.
use Rattle.std.specs.Prelude.{ℕ, Bool, cond, List, [], ◌∷◌, eqb}
use Prim.Native.Char.{code}

-- a byte that ends a part
abbrev pub space : ℕ → Bool
space byte = eqb byte (code " ")

-- a byte before the first of some words
abbrev pub onto : ℕ → List (List ℕ) → List (List ℕ)
onto byte [] = []
onto byte (word ∷ more) = (byte ∷ word) ∷ more

-- what stands before, between and after the spaces: two spaces in a row have an empty word between them
abbrev pub words : List ℕ → List (List ℕ)
words [] = [] ∷ []
words (byte ∷ bytes) = cond (eqb byte (code " ")) ([] ∷ words bytes) (onto byte (words bytes))
