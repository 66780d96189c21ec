-- Document 01's lines of output, and how bytes are put into a lent buffer.
use Rattle.std.specs.Prelude.{ℕ, suc, ◌+◌, cond, List, [], ◌∷◌, ◌++◌, leb, length, set}
use Prim.Native.Char.{code}
use Rattle.rules.specs.declared.Answer.{Answer}
use Rattle.rules.specs.declared.Answer.TheVariants.{Accepted, Short, Refused}
use Rattle.rules.specs.Refusals.{numbered}
use Rattle.lines.specs.Numbers.{digits}

-- a line: its letter, what follows it, and a newline
abbrev pub line : ℕ → List ℕ → List ℕ
line letter rest = letter ∷ (rest ++ (code "\n" ∷ []))

-- a number with the space before it
abbrev pub spaced : ℕ → List ℕ
spaced n = code " " ∷ digits n

-- numbers with a space before each
abbrev pub spaced_all : List ℕ → List ℕ
spaced_all [] = []
spaced_all (n ∷ ns) = spaced n ++ spaced_all ns

-- `A n` accepted, `U` short, `X n` refused
abbrev pub answer_line : Answer → List ℕ
answer_line (Accepted n) = line (code "A") (spaced n)
answer_line Short = line (code "U") []
answer_line (Refused refusal) = line (code "X") (spaced (numbered refusal))

-- `B` for a line that is not of the form
abbrev pub bad_line : List ℕ
bad_line = line (code "B") []

-- `L`, the log's length and its entries
abbrev pub log_line : List ℕ → List ℕ
log_line log = line (code "L") (spaced_all (length log ∷ log))

-- the buffer with bytes laid over it from a place on; every other place keeps what it had
abbrev pub laid : ℕ → List ℕ → List ℕ → List ℕ
laid at [] buffer = buffer
laid at (byte ∷ bytes) buffer = set (laid (suc at) bytes buffer) at byte

-- what a buffer holds afterwards, and the place after the bytes
pub record Put : Type 0 where
  pub buffer : List ℕ
  pub next : ℕ

abbrev pub outcome : List ℕ → ℕ → Put
outcome buffer next = record { buffer = buffer; next = next }

-- bytes are put at a place of the buffer where they fit; where they don't, nothing is written and the place stays
unfoldable pub put : List ℕ → ℕ → List ℕ → Put
put bytes at buffer =
    cond (leb (at + length bytes) (length buffer)) (outcome (laid at bytes buffer) (at + length bytes)) (outcome buffer at)
