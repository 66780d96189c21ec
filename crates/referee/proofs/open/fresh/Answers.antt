-- One place of records is in use and none of the log: what is shown is computed.
use mathlib.Core.Path.{refl}
use Rattle.rules.specs.Nodes.{nodes}
use Rattle.rules.specs.State.{fresh}
use Rattle.records.specs.Used.{shown}
use Rattle.referee.proofs.open.fresh.Goals as goal

pub returns : goal.returns
unfolding shown fresh nodes
returns c = refl
