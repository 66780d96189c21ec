-- The loop has read the digits passed.
use Prim.Native.Nat.{◌≤◌}
use mathlib.Core.Path.{◌≡◌}
use lib.ListN.{drop}
use Rattle.lines.specs.Numbers.{largest}
use Rattle.lines.proofs.Numbers.{read_on}
use Rattle.lines.proofs.read.digits.Given as goal

abbrev pub invariant-loop-byte : goal.invariant-loop-byte
invariant-loop-byte l = (l.value ≤ largest) × (read_on largest l.value (drop l.byte-index l.word) ≡ read_on largest 0 l.word)
