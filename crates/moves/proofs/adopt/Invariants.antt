-- The children among the records that the loop passed are moved, and the records after these are as they were.
use Rattle.std.proofs.Common.{◌≡◌, map, ◌++◌, take, drop}
use Rattle.rules.specs.Proposals.{adopted}
use Rattle.moves.proofs.adopt.Given as goal

abbrev pub invariant-loop-r : goal.invariant-loop-r
invariant-loop-r l =
    l.records ≡ map (adopted l.target l.new) (take l.r-index l.initial.records) ++ drop l.r-index l.initial.records
