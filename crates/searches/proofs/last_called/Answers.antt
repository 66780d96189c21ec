-- The test is whether the node called the record.
use Rattle.std.proofs.Common.{rules}
use Rattle.rules.specs.Records.{called}
use Rattle.rules.specs.Tree.{last_called}
use Rattle.searches.proofs.last_called.Goals as goal

pub returns : goal.returns
unfolding last_called
returns c = c.latest.ensures (λ r. called r c.args.node) (λ i b l answered. search rules)
