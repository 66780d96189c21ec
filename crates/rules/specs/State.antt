-- What the referee holds, how it is opened, and which states are tables.
use Rattle.std.specs.Prelude.{ℕ, Bool, true, false, cond, not, ◌&&◌, ◌||◌, List, [], ◌∷◌, reverse, ltb, leb, eqb, length, replicate}
use Rattle.rules.specs.declared.Kind.{Kind}
use Rattle.rules.specs.declared.Kind.TheVariants.{Election, Command, Change, Commit}
use Rattle.rules.specs.declared.Record.{Record}
use Rattle.rules.specs.First.{every}
use Rattle.rules.specs.Nodes.{nodes, empty}
use Rattle.rules.specs.Clocks.{clock}
use Rattle.rules.specs.Records.{at, is_commit, is_entry, above, holds, called}
use Rattle.rules.specs.Tree.{path, on_path, latest_commit}

-- the clocks, the records by number, and the log, oldest first
pub record State : Type 0 where
  pub clocks : List ℕ
  pub records : List Record
  pub log : List ℕ

-- at most so many records
unfoldable pub places : ℕ
places = 256

-- record 0 as opening with a set makes it
abbrev pub opening : ℕ → Record
opening set = record { parent = 0; caller = 16; time = 0; version = 0; members = set; kind = Commit set }

-- a fresh table
unfoldable pub fresh : ℕ → State
fresh set = record { clocks = replicate nodes 0; records = opening set ∷ []; log = [] }

-- the commands and changes of a list of records
abbrev pub entries : List Record → List ℕ → List ℕ
entries records [] = []
entries records (i ∷ rest) = cond (is_entry (at records i)) (i ∷ entries records rest) (entries records rest)

-- the log read afresh: the commands and changes on the path of the latest commit, oldest first
unfoldable pub log_of : List Record → List ℕ
log_of records = reverse (entries records (path records (latest_commit records)))

-- What is a table, clause by clause.

-- it has 1 to 256 records
unfoldable pub counted : List Record → Bool
counted records = ltb 0 (length records) && leb (length records) places

abbrev pub commit_by : Kind → ℕ → Bool
commit_by (Election voters) set = false
commit_by (Command number) set = false
commit_by Change set = false
commit_by (Commit voters) set = eqb voters set

-- the record is as opening with its own non-empty member set makes it
unfoldable pub is_opening : Record → Bool
is_opening r =
    eqb r.parent 0
    && (eqb r.caller 16
    && (eqb r.time 0 && (eqb r.version 0 && (commit_by r.kind r.members && not (empty r.members)))))

-- a record other than record 0 has a caller from 0 to 15, members, and a parent that exists and is strictly lower
unfoldable pub shaped : List Record → Record → Bool
shaped records r =
    ltb r.caller nodes
    && (not (empty r.members) && (ltb r.parent (length records) && above r (at records r.parent)))

-- record 0 is as opening makes it
unfoldable pub rooted : List Record → Bool
rooted records = is_opening (at records 0)

-- every other record is shaped so
unfoldable pub all_shaped : List Record → Bool
all_shaped records = every (λ i. eqb i 0 || shaped records (at records i)) (length records)

-- no node that holds or called the record has a clock less than its time
unfoldable pub timely : List ℕ → ℕ → Record → Bool
timely clocks i r = every (λ node. not (holds i r node || called r node) || leb r.time (clock clocks node)) nodes

-- no clock is less than the time of a record that its node holds or called
unfoldable pub all_timely : List ℕ → List Record → Bool
all_timely clocks records = every (λ i. timely clocks i (at records i)) (length records)

-- all commits lie on one path: that of the latest
unfoldable pub one_branch : List Record → Bool
one_branch records = every (λ i. not (is_commit (at records i)) || on_path records i (latest_commit records)) (length records)

-- two lists have the same numbers in the same places
abbrev pub same : List ℕ → List ℕ → Bool
same [] [] = true
same [] (b ∷ bs) = false
same (a ∷ rest) [] = false
same (a ∷ rest) (b ∷ bs) = eqb a b && same rest bs

-- the log is the one read afresh
unfoldable pub logged : State → Bool
logged s = same s.log (log_of s.records)

-- the state is a table
unfoldable pub is_table : State → Bool
is_table s =
    counted s.records
    && (rooted s.records
    && (all_shaped s.records
    && (all_timely s.clocks s.records && (one_branch s.records && logged s))))

-- there is no place for one more record
unfoldable pub full : List Record → Bool
full records = leb places (length records)
