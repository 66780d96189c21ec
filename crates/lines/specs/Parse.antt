-- Document 01's lines of input: a letter and decimal numbers, one space between.
use Rattle.std.specs.Prelude.{ℕ, cond, List, [], ◌∷◌, ltb, eqb, length, Option, Some, None}
use Prim.Native.Char.{code}
use Rattle.rules.specs.declared.Proposal.TheVariants.{Pull, Invoke, Reconfigure, Push}
use Rattle.lines.specs.declared.Line.{Line}
use Rattle.lines.specs.declared.Line.TheVariants.{Open, Propose}
use Rattle.lines.specs.Words.{words}
use Rattle.lines.specs.Numbers.{largest, largest_set}
use Rattle.lines.specs.Parts.{one, two, three}

-- the numbers of a line in their places
abbrev pub open_with : Option ℕ → Option Line
open_with (Some set) = Some (Open set)
open_with None = None

abbrev pub pull_of : Option (ℕ × ℕ × ℕ) → Option Line
pull_of (Some (caller, set, time)) = Some (Propose (Pull caller set time))
pull_of None = None

abbrev pub invoke_of : Option (ℕ × ℕ) → Option Line
invoke_of (Some (caller, command)) = Some (Propose (Invoke caller command))
invoke_of None = None

abbrev pub reconfigure_of : Option (ℕ × ℕ) → Option Line
reconfigure_of (Some (caller, set)) = Some (Propose (Reconfigure caller set))
reconfigure_of None = None

abbrev pub push_of : Option (ℕ × ℕ × ℕ) → Option Line
push_of (Some (caller, set, target)) = Some (Propose (Push caller set target))
push_of None = None

-- a letter with parts after it: `O set`, `P caller set time`, `I caller command`, `R caller set`, `C caller set target`
unfoldable pub lettered : ℕ → List (List ℕ) → Option Line
lettered letter parts =
    cond (eqb letter (code "O")) (open_with (one largest_set parts))
    (cond (eqb letter (code "P")) (pull_of (three largest largest_set largest parts))
    (cond (eqb letter (code "I")) (invoke_of (two largest largest parts))
    (cond (eqb letter (code "R")) (reconfigure_of (two largest largest_set parts))
    (cond (eqb letter (code "C")) (push_of (three largest largest_set largest parts)) None))))

-- a line by its parts: the first is one letter, and `O` alone opens with 7
abbrev pub line_of : List (List ℕ) → Option Line
line_of ((letter ∷ []) ∷ []) = cond (eqb letter (code "O")) (Some (Open 7)) None
line_of ((letter ∷ []) ∷ part ∷ parts) = lettered letter (part ∷ parts)
line_of ((letter ∷ byte ∷ bytes) ∷ parts) = None
line_of ([] ∷ parts) = None
line_of [] = None

-- what a line of these bytes asks; one of more than 63 bytes asks nothing
unfoldable pub parsed : List ℕ → Option Line
parsed bytes = cond (ltb 63 (length bytes)) None (line_of (words bytes))
