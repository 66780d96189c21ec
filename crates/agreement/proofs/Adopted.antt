-- The list after a push: the new commit at the end, and the target's children moved under it. What follows from it is in `Inserts`.
use Prim.Native.Nat.{ℕ}
use mathlib.Core.List.{List, [], ◌∷◌, ◌++◌, map}
use lib.ListN.{length}
use Rattle.rules.specs.declared.Record.{Record}
use Rattle.rules.specs.Records.{at}
use Rattle.rules.specs.Proposals.{commit_for, adopted}

module _ (records : List Record) (target caller voters : ℕ) where
  abbrev n : ℕ
  n = length records

  abbrev pub new : Record
  new = commit_for target (at records target) caller voters

  abbrev pub with_commit : List Record
  with_commit = map (adopted target n) records ++ (new ∷ [])
