-- The tuples compare by time, then by version, then by whether they are commits: case by case that is the definition.
use Rattle.std.proofs.Common.{arith}
use Rattle.std.proofs.lemmas.Grind.{common_steps}
use Rattle.std.proofs.lemmas.Bool.Decides.{nat_tests}
use Rattle.rules.specs.Records.{above}
use Rattle.records.proofs.above.Goals as goal

pub returns : goal.returns
unfolding above
returns c = grind (arith, common_steps, nat_tests)
