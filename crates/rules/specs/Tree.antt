-- The records as a tree: the latest of some, paths, who leads, an open change.
use Rattle.std.specs.Prelude.{ℕ, zero, suc, Bool, true, false, cond, ◌&&◌, ◌||◌, List, [], ◌∷◌, Option, Some, None, eqb, length}
use Rattle.rules.specs.declared.Kind.{Kind}
use Rattle.rules.specs.declared.Kind.TheVariants.{Election, Command, Change, Commit}
use Rattle.rules.specs.declared.Record.{Record}
use Rattle.rules.specs.First.{some}
use Rattle.rules.specs.Nodes.{nodes, has}
use Rattle.rules.specs.Clocks.{clock}
use Rattle.rules.specs.Records.{at, is_commit, above, holds, called}

-- the later of what was found and record r with number i: of equal ones the lower number, which came first, stays
abbrev pub later : Option (ℕ × Record) → ℕ → Record → Option (ℕ × Record)
later None i r = Some (i, r)
later (Some (j, best)) i r = cond (above r best) (Some (i, r)) (Some (j, best))

-- the latest of the wanted among the first n records
abbrev pub latest_of : (ℕ → Record → Bool) → List Record → ℕ → Option (ℕ × Record)
latest_of wanted records zero = None
latest_of wanted records (suc n) =
    cond (wanted n (at records n))
    (later (latest_of wanted records n) n (at records n))
    (latest_of wanted records n)

-- the latest of the wanted records
unfoldable pub latest : (ℕ → Record → Bool) → List Record → Option (ℕ × Record)
latest wanted records = latest_of wanted records (length records)

-- the number of what was found; 0 where nothing was
abbrev pub number_of : Option (ℕ × Record) → ℕ
number_of (Some (i, r)) = i
number_of None = 0

-- what was found; record 0 where nothing was
abbrev pub record_of : List Record → Option (ℕ × Record) → Record
record_of records (Some (i, r)) = r
record_of records None = at records 0

-- some voter holds the record
unfoldable pub held_by_any : ℕ → ℕ → Record → Bool
held_by_any voters i r = some (λ node. has voters node && holds i r node) nodes

-- the base of a pull: the latest record held by any voter
unfoldable pub base : List Record → ℕ → Option (ℕ × Record)
base records voters = latest (held_by_any voters) records

-- the latest record that the node called
unfoldable pub last_called : List Record → ℕ → Option (ℕ × Record)
last_called records node = latest (λ i r. called r node) records

-- the latest commit
unfoldable pub last_commit : List Record → Option (ℕ × Record)
last_commit records = latest (λ i r. is_commit r) records

-- its number
unfoldable pub latest_commit : List Record → ℕ
latest_commit records = number_of (last_commit records)

-- at most `steps` records from record i by parents to record 0, both included
abbrev pub path_of : List Record → ℕ → ℕ → List ℕ
path_of records zero i = []
path_of records (suc steps) zero = zero ∷ []
path_of records (suc steps) (suc i) = suc i ∷ path_of records steps (at records (suc i)).parent

-- the path of a record: no path of a table has more records than there are
unfoldable pub path : List Record → ℕ → List ℕ
path records i = path_of records (length records) i

-- a number is in the list
abbrev pub among : ℕ → List ℕ → Bool
among a [] = false
among a (i ∷ rest) = eqb a i || among a rest

-- record a is on the path of record i
unfoldable pub on_path : List Record → ℕ → ℕ → Bool
on_path records a i = among a (path records i)

-- the head answers by its time: the node leads when the latest record that it called has a time equal to its clock
abbrev pub leading : ℕ → Option (ℕ × Record) → Bool
leading now (Some (i, r)) = eqb r.time now
leading now None = false

-- the node leads
unfoldable pub leads : List ℕ → List Record → ℕ → Bool
leads clocks records node = leading (clock clocks node) (last_called records node)

-- what a record on the way up says of an open change: a commit shuts, a change is open, at others the way goes on
abbrev pub open_at : Kind → Bool → Bool
open_at (Election voters) further = further
open_at (Command number) further = further
open_at Change further = true
open_at (Commit voters) further = false

-- going up a path, a change is met before any commit
abbrev pub open_along : List Record → List ℕ → Bool
open_along records [] = false
open_along records (i ∷ up) = open_at (at records i).kind (open_along records up)

-- the record's path has an open change: one with no commit between it and the record
unfoldable pub open_change : List Record → ℕ → Bool
open_change records i = open_along records (path records i)

-- a path has a commit of this time
abbrev pub commit_along : List Record → ℕ → List ℕ → Bool
commit_along records time [] = false
commit_along records time (i ∷ up) = (is_commit (at records i) && eqb (at records i).time time) || commit_along records time up

-- the record's path has a commit with that time
unfoldable pub commit_of_time : List Record → ℕ → ℕ → Bool
commit_of_time records time i = commit_along records time (path records i)
