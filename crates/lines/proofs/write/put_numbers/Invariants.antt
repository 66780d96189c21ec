-- The numbers that are left, laid over what is written so far, make them all.
use Prim.Native.Nat.{◌+◌, ◌≤◌}
use mathlib.Core.Path.{◌≡◌}
use lib.ListN.{length, drop}
use Rattle.lines.specs.Print.{spaced_all, laid}
use Rattle.lines.proofs.write.put_numbers.Given as goal

abbrev pub invariant-loop-n : goal.invariant-loop-n
invariant-loop-n l =
    (length l.out ≡ length l.initial.out)
    × (l.at + length (spaced_all l.numbers) ≤ length l.initial.out)
    × (l.place + length (spaced_all (drop l.n-index l.numbers)) ≡ l.at + length (spaced_all l.numbers))
    × (laid l.place (spaced_all (drop l.n-index l.numbers)) l.out ≡ laid l.at (spaced_all l.numbers) l.initial.out)
