-- The state of a struct that passed the test.
use Rattle.rules.specs.State.{State}
use Rattle.referee.specs.declared.tested.Tested.{Tested}
use Rattle.referee.specs.View.{view}

abbrev pub tested : Tested → State
tested w = view w.table.now
