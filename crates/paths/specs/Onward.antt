-- A walk up a path, as a list of what it still has to meet.
use Rattle.std.specs.Prelude.{ℕ, List}
use Rattle.rules.specs.Tree.{path_of}
use Rattle.paths.specs.declared.Walk.{Walk}

-- the numbers of the records that the walk has before it
abbrev pub onward : Walk → List ℕ
onward w = path_of w.records.now w.steps w.next
