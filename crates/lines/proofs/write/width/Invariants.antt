-- The digits counted and those of the rest make one more than there are.
use Prim.Native.Nat.{◌+◌, ◌≤◌}
use mathlib.Core.Path.{◌≡◌}
use lib.ListN.{length}
use Rattle.lines.specs.Numbers.{digits}
use Rattle.lines.proofs.write.width.Given as goal

abbrev pub invariant-loop-rest : goal.invariant-loop-rest
invariant-loop-rest l = (l.count + l.rest ≤ l.n + 1) × (l.count + length (digits l.rest) ≡ length (digits l.n) + 1)

abbrev pub decreases-loop-rest : goal.decreases-loop-rest
decreases-loop-rest l = l.rest
