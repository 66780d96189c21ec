-- The loop has found the latest of the wanted records among those passed.
use mathlib.Core.Path.{◌≡◌}
use mathlib.Core.Bool.{Bool}
use Rattle.rules.specs.declared.Record.{Record}
use Rattle.rules.specs.Tree.{latest_of}
use Rattle.searches.specs.Tests.{Answers}
use Rattle.searches.proofs.latest.Given as goal

abbrev pub invariant-loop-i : goal.invariant-loop-i
invariant-loop-i g l =
    (test : Record → Bool) → Answers (goal.F-post g l.wanted) test l.records → l.best ≡ latest_of (λ i r. test r) l.records l.i
