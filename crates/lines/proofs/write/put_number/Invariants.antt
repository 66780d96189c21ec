-- The digits of the rest, laid over what is written so far, make the whole number.
use Prim.Native.Nat.{suc, ◌+◌, ◌≤◌}
use mathlib.Core.Path.{◌≡◌}
use lib.ListN.{length}
use Rattle.lines.specs.Numbers.{digits}
use Rattle.lines.specs.Print.{laid}
use Rattle.lines.proofs.write.put_number.Given as goal

abbrev pub invariant-loop-rest : goal.invariant-loop-rest
invariant-loop-rest l =
    (l.place ≡ l.at + length (digits l.rest))
    × (l.place ≤ l.at + l.count)
    × (length l.out ≡ length l.initial.out)
    × (laid (suc l.at) (digits l.rest) l.out ≡ laid (suc l.at) (digits l.n) l.initial.out)

abbrev pub decreases-loop-rest : goal.decreases-loop-rest
decreases-loop-rest l = l.rest
