-- The test is whether the record is a commit.
use Rattle.std.proofs.Common.{rules}
use Rattle.rules.specs.Records.{is_commit}
use Rattle.rules.specs.Tree.{last_commit}
use Rattle.searches.proofs.last_commit.Goals as goal

pub returns : goal.returns
unfolding last_commit
returns c = c.latest.ensures (λ r. is_commit r) (λ i b l answered. search rules)
