-- Whether the whole walk meets an open change is whether the part that it has before it has one.
use Rattle.std.proofs.Common.{◌≡◌}
use Rattle.rules.specs.Tree.{path_of, open_along}
use Rattle.paths.specs.Onward.{onward}
use Rattle.paths.proofs.open_change.Given as goal

abbrev pub invariant-loop-j : goal.invariant-loop-j
invariant-loop-j l =
    open_along l.records (path_of l.records l.steps l.i) ≡ open_along l.records (onward l.up)
