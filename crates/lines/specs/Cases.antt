-- Worked lines of input and output, of the definitions themselves: one table under one statement.
use Rattle.std.specs.Prelude.{ℕ, ◌≡◌, refl, List, [], ◌∷◌, map, Option, Some, None}
use Prim.Native.Char.{code}
use Prim.Native.String.{String, [] as none, ◌∷◌ as ◌then◌}
use Rattle.rules.specs.declared.Proposal.TheVariants.{Pull, Invoke, Reconfigure, Push}
use Rattle.rules.specs.declared.Refusal.TheVariants.{EmptySet, OffBranch}
use Rattle.rules.specs.declared.Answer.TheVariants.{Accepted, Short, Refused}
use Rattle.lines.specs.declared.Line.{Line}
use Rattle.lines.specs.declared.Line.TheVariants.{Open, Propose}
use Rattle.lines.specs.Numbers.{value, zero_led, is_numeral, read, digits}
use Rattle.lines.specs.Parse.{lettered, parsed}
use Rattle.lines.specs.Print.{answer_line, bad_line, log_line, put}

-- the bytes of a text
abbrev pub text : String → List ℕ
text none = []
text (c then rest) = code c ∷ text rest

-- a line of input, and what it asks
pub record Asked : Type 0 where
  pub line : String
  pub asks : Option Line

abbrev ◌asks◌ : String → Option Line → Asked
line asks what = record { line = line; asks = what }

infix 68 ◌asks◌
pub asked : List Asked
asked =
    "O" asks Some (Open 7)
    ∷ "O 7" asks Some (Open 7)
    ∷ "O 0" asks Some (Open 0)
    ∷ "O 65535" asks Some (Open 65535)
    ∷ "O 65536" asks None
    ∷ "P 0 3 1" asks Some (Propose (Pull 0 3 1))
    ∷ "P 4294967295 65535 4294967295" asks Some (Propose (Pull 4294967295 65535 4294967295))
    ∷ "P 4294967296 3 1" asks None
    ∷ "P 0 65536 1" asks None
    ∷ "P 0 3 4294967296" asks None
    ∷ "I 0 500" asks Some (Propose (Invoke 0 500))
    ∷ "I 16 0" asks Some (Propose (Invoke 16 0))
    ∷ "R 0 15" asks Some (Propose (Reconfigure 0 15))
    ∷ "R 0 65536" asks None
    ∷ "C 0 11 5" asks Some (Propose (Push 0 11 5))
    ∷ "C 0 11 70000" asks Some (Propose (Push 0 11 70000))
    ∷ "" asks None
    ∷ "P" asks None
    ∷ "P 0 3" asks None
    ∷ "P 0 3 1 1" asks None
    ∷ "P 0  3 1" asks None
    ∷ "P 0 3 1 " asks None
    ∷ " P 0 3 1" asks None
    ∷ "P0 3 1" asks None
    ∷ "P 00 3 1" asks None
    ∷ "P 0 03 1" asks None
    ∷ "P 0 3 +1" asks None
    ∷ "P 0 3 -1" asks None
    ∷ "P 0 3 1x" asks None
    ∷ "Q 0 3 1" asks None
    ∷ "O " asks None
    ∷ "I 0 1000000000000000000000000000000000000000000000000000000000001" asks None
    ∷ []

-- bytes of output, and the text that they are
pub record Shown : Type 0 where
  pub bytes : List ℕ
  pub shows : String

abbrev ◌shows◌ : List ℕ → String → Shown
bytes shows what = record { bytes = bytes; shows = what }

infix 68 ◌shows◌
pub shown : List Shown
shown =
    answer_line (Accepted 0) shows "A 0\n"
    ∷ answer_line (Accepted 255) shows "A 255\n"
    ∷ answer_line Short shows "U\n"
    ∷ answer_line (Refused EmptySet) shows "X 1\n"
    ∷ answer_line (Refused OffBranch) shows "X 17\n"
    ∷ bad_line shows "B\n"
    ∷ log_line [] shows "L 0\n"
    ∷ log_line (2 ∷ 3 ∷ 5 ∷ []) shows "L 3 2 3 5\n"
    ∷ log_line (10 ∷ 4294967295 ∷ []) shows "L 2 10 4294967295\n"
    ∷ (put bad_line 0 (text "xyz")).buffer shows "B\nz"
    ∷ (put bad_line 0 (text "x")).buffer shows "x"
    ∷ []

pub worked
    : (map (λ c. parsed (text c.line)) asked ≡ map (λ c. c.asks) asked)
    × (map (λ c. c.bytes) shown ≡ map (λ c. text c.shows) shown)
unfolding asked shown value zero_led is_numeral read digits lettered parsed put
worked = (refl, refl)
