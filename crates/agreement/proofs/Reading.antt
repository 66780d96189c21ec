-- A list of records read as a tree: the same parents, callers, times and versions, the sort and the voters from the kind, the
-- members as configuration. What follows from it is in `Readings`.
use Prim.Native.Nat.{ℕ}
use mathlib.Core.Path.{◌≡◌}
use mathlib.Core.Bool.{true}
use mathlib.Core.List.{List}
use Rattle.rules.specs.declared.Kind.{Kind}
use Rattle.rules.specs.declared.Kind.TheVariants.{Election, Command, Change, Commit}
use Rattle.rules.specs.declared.Record.{Record}
use Rattle.rules.specs.Records.{at, holds}
use Rattle.agreement.specs.Tree.{Tree, Sort, election, command, change, commit}

abbrev pub sort_of : Kind → Sort
sort_of (Election voters) = election
sort_of (Command number) = command
sort_of Change = change
sort_of (Commit voters) = commit

abbrev pub voters_of : Kind → ℕ
voters_of (Election voters) = voters
voters_of (Command number) = 0
voters_of Change = 0
voters_of (Commit voters) = voters

abbrev pub tree_of : List Record → Tree ℕ
tree_of records = record {
  parent = λ i. (at records i).parent;
  caller = λ i. (at records i).caller;
  time = λ i. (at records i).time;
  version = λ i. (at records i).version;
  sort = λ i. sort_of (at records i).kind;
  voters = λ i. voters_of (at records i).kind;
  conf = λ i. (at records i).members;
}

-- node v holds record i
abbrev pub held : List Record → ℕ → ℕ → Type 0
held records v i = holds i (at records i) v ≡ true
