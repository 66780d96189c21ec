-- What is written for the whole walk is what is written, from the present place on, for the part that it has before it.
use Rattle.std.proofs.Common.{◌≡◌}
use Rattle.rules.specs.Tree.{path_of}
use Rattle.rules.specs.State.{entries}
use Rattle.rules.specs.Proposals.{before}
use Rattle.paths.specs.Onward.{onward}
use Rattle.moves.specs.Moves.{written}
use Rattle.moves.proofs.Written.{Small}
use Rattle.moves.proofs.write_gained.Given as goal

abbrev pub invariant-loop-j : goal.invariant-loop-j
invariant-loop-j l =
    Small l.records (onward l.j-iterator)
    × (written l.initial.log l.end (entries l.records (before l.stop (path_of l.records l.steps l.i)))
    ≡ written l.log l.place (entries l.records (before l.stop (onward l.j-iterator))))
