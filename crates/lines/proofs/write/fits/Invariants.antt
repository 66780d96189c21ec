-- The room is what is free and what the numbers passed take.
use Prim.Native.Nat.{◌+◌}
use mathlib.Core.Path.{◌≡◌}
use lib.ListN.{length, drop}
use Rattle.lines.specs.Print.{spaced_all}
use Rattle.lines.proofs.write.fits.Given as goal

abbrev pub invariant-loop-n : goal.invariant-loop-n
invariant-loop-n l =
    (length (spaced_all l.numbers) + l.free ≡ l.room + length (spaced_all (drop l.n-index l.numbers)))
