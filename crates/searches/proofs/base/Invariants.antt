-- The outer loop has found the latest record held by any voter among those passed; the inner one has passed no voter that holds its record.
use mathlib.Core.Path.{◌≡◌}
use mathlib.Core.Bool.{false}
use Rattle.rules.specs.First.{some}
use Rattle.rules.specs.Tree.{latest_of, held_by_any}
use Rattle.rules.proofs.Held.{holder}
use Rattle.searches.proofs.base.Given as goal

abbrev pub invariant-loop-node : goal.invariant-loop-node
invariant-loop-node l = (l.best ≡ l.initial.best) × (some (holder l.voters l.i l.r) l.node ≡ false)

abbrev pub invariant-records : goal.invariant-records
invariant-records l = l.best ≡ latest_of (held_by_any l.voters) l.records l.i
