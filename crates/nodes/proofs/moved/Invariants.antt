-- The loop has moved the clocks of the voters among the nodes that it passed.
use mathlib.Core.Path.{◌≡◌}
use Rattle.rules.specs.Clocks.{moved_of}
use Rattle.nodes.proofs.moved.Given as goal

abbrev pub invariant-loop-node : goal.invariant-loop-node
invariant-loop-node l = l.clock-items ≡ moved_of l.voters l.time l.fn.clocks l.node
