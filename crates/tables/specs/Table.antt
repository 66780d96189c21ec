-- The clauses of a table as the code tests them.
use Rattle.std.specs.Prelude.{ℕ, ◌+◌, Bool, cond, not, ◌&&◌, ◌||◌, List, [], ◌∷◌, ltb, length}
use Rattle.rules.specs.declared.Record.{Record}
use Rattle.rules.specs.First.{count}
use Rattle.rules.specs.Nodes.{nodes, empty}
use Rattle.rules.specs.Records.{at, is_commit, above, holds, called}

-- a record other than record 0 is well shaped, with p at its parent's place among n
unfoldable pub shaped_by : Record → Record → ℕ → Bool
shaped_by r p n = ltb r.caller nodes && (not (empty r.members) && (ltb r.parent n && above r p))

-- the node holds or called the record
unfoldable pub concerns : ℕ → Record → ℕ → Bool
concerns i r node = holds i r node || called r node

-- the number of commits
unfoldable pub commits_in : List Record → ℕ
commits_in records = count (λ i. is_commit (at records i)) (length records)

-- the number of commits among the records of a path
abbrev pub commits_along : List Record → List ℕ → ℕ
commits_along records [] = 0
commits_along records (i ∷ up) = cond (is_commit (at records i)) 1 0 + commits_along records up
