-- Opening and the four proposals. Each is an order of refusals, with document 01's numbers beside it, and what is done where none holds.
use Rattle.std.specs.Prelude.{ℕ, suc, Bool, cond, not, ◌&&◌, ◌||◌, List, [], ◌∷◌, ◌++◌, map, reverse, ltb, leb, eqb, length}
use Rattle.rules.specs.declared.Kind.{Kind}
use Rattle.rules.specs.declared.Kind.TheVariants.{Election, Command, Change, Commit}
use Rattle.rules.specs.declared.Record.{Record}
use Rattle.rules.specs.declared.Refusal.{Refusal}
use Rattle.rules.specs.declared.Refusal.TheVariants.{EmptySet, NoSuchCaller, CallerAbsent, Stranger, ClockPast, NotLeading, BadTarget, Superseded, NotNext, OpenChange, NoCommitYet, TableFull, VersionsOut, NoTable, OffBranch}
use Rattle.rules.specs.declared.Answer.{Answer}
use Rattle.rules.specs.declared.Answer.TheVariants.{Accepted, Short, Refused}
use Rattle.rules.specs.First.{some}
use Rattle.rules.specs.Nodes.{has, empty}
use Rattle.rules.specs.Scheme.{quorum, within, next}
use Rattle.rules.specs.Clocks.{clock, moved, some_at_or_past, some_past}
use Rattle.rules.specs.Records.{at, is_commit, is_entry, called}
use Rattle.rules.specs.Tree.{number_of, record_of, base, last_called, latest_commit, path, on_path, leads, open_change, commit_of_time}
use Rattle.rules.specs.State.{State, fresh, entries, is_table, full}
use Rattle.rules.specs.Refusals.{Line, ◌⇒◌, decide}

-- the state handed back and the answer beside it
pub record Result : Type 0 where
  pub state : State
  pub answer : Answer

-- a refusal leaves the state as it was
abbrev pub refused_in : State → Refusal → Result
refused_in s refusal = record { state = s; answer = Refused refusal }

-- the order of refusals of a proposal: 16 before anything else, and then its own lines
abbrev pub judge : State → List Line → Result → Result
judge s lines done = decide (refused_in s) ((not (is_table s) ⇒ NoTable) ∷ lines) done

-- Open: 1. Refused, it hands back the fresh table of set 1.
unfoldable pub opened : ℕ → Result
opened set =
    decide (refused_in (fresh 1))
    ((empty set ⇒ EmptySet) ∷ [])
    (record { state = fresh set; answer = Accepted 0 })

-- every voter's clock becomes the time
abbrev pub voted : State → ℕ → ℕ → State
voted s voters time = record { clocks = moved voters time s.clocks; records = s.records; log = s.log }

-- a vote without a majority moves the voters' clocks and nothing else
abbrev pub short : State → Result
short s = record { state = s; answer = Short }

-- a record is added, with the next number
abbrev pub added : State → Record → Result
added s r = record { state = record { clocks = s.clocks; records = s.records ++ (r ∷ []); log = s.log }; answer = Accepted (length s.records) }

-- an election under the base: version 0, the base's members
abbrev pub election : ℕ → Record → ℕ → ℕ → ℕ → Record
election i b caller voters time =
    record { parent = i; caller = caller; time = time; version = 0; members = b.members; kind = Election voters }

-- pull, with the base b and its number i
unfoldable pub pull_on : State → ℕ → Record → ℕ → ℕ → ℕ → Result
pull_on s i b caller voters time =
    judge s
    -- 2, 3, 5, 4, 12
    ((ltb 15 caller ⇒ NoSuchCaller)
    ∷ (not (has voters caller) ⇒ CallerAbsent)
    ∷ (some_at_or_past voters time s.clocks ⇒ ClockPast)
    ∷ (not (within voters b.members) ⇒ Stranger)
    ∷ (quorum voters b.members && full s.records ⇒ TableFull)
    ∷ [])
    (cond (quorum voters b.members)
    (added (voted s voters time) (election i b caller voters time))
    (short (voted s voters time)))

unfoldable pub pull : State → ℕ → ℕ → ℕ → Result
pull s caller voters time =
    pull_on s
    (number_of (base s.records voters))
    (record_of s.records (base s.records voters))
    caller
    voters
    time

-- an entry under the head h, whose number is i: the head's time, its version and one more
abbrev pub entry : ℕ → Record → ℕ → ℕ → Kind → Record
entry i h caller members kind =
    record { parent = i; caller = caller; time = h.time; version = suc h.version; members = members; kind = kind }

-- invoke, with the caller's head h and its number i
unfoldable pub invoke_on : State → ℕ → Record → ℕ → ℕ → Result
invoke_on s i h caller number =
    judge s
    -- 2, 6, 13, 12
    ((ltb 15 caller ⇒ NoSuchCaller)
    ∷ (not (leads s.clocks s.records caller) ⇒ NotLeading)
    ∷ (eqb h.version 255 ⇒ VersionsOut)
    ∷ (full s.records ⇒ TableFull)
    ∷ [])
    (added s (entry i h caller h.members (Command number)))

unfoldable pub invoke : State → ℕ → ℕ → Result
invoke s caller number =
    invoke_on s
    (number_of (last_called s.records caller))
    (record_of s.records (last_called s.records caller))
    caller
    number

-- reconfigure, with the caller's head h and its number i
unfoldable pub reconfigure_on : State → ℕ → Record → ℕ → ℕ → Result
reconfigure_on s i h caller new =
    judge s
    -- 2, 1, 6, 3, 9, 10, 11, 13, 12
    ((ltb 15 caller ⇒ NoSuchCaller)
    ∷ (empty new ⇒ EmptySet)
    ∷ (not (leads s.clocks s.records caller) ⇒ NotLeading)
    ∷ (not (has new caller) ⇒ CallerAbsent)
    ∷ (not (next h.members new) ⇒ NotNext)
    ∷ (open_change s.records i ⇒ OpenChange)
    ∷ (not (commit_of_time s.records h.time i) ⇒ NoCommitYet)
    ∷ (eqb h.version 255 ⇒ VersionsOut)
    ∷ (full s.records ⇒ TableFull)
    ∷ [])
    (added s (entry i h caller new Change))

unfoldable pub reconfigure : State → ℕ → ℕ → Result
reconfigure s caller new =
    reconfigure_on s
    (number_of (last_called s.records caller))
    (record_of s.records (last_called s.records caller))
    caller
    new

-- the target is no record, or no command or change, or has another caller, or a time other than the caller's clock
unfoldable pub bad_target : State → ℕ → ℕ → Bool
bad_target s caller target =
    leb (length s.records) target
    || (not (is_entry (at s.records target))
    || (not (called (at s.records target) caller)
    || not (eqb (at s.records target).time (clock s.clocks caller))))

-- the record is a commit of this caller and the target's time, with a version at or past the target's
unfoldable pub supersedes : Record → ℕ → Record → Bool
supersedes r caller t = is_commit r && (called r caller && (eqb r.time t.time && leb t.version r.version))

-- a commit of this caller and time has a version at or past the target's
unfoldable pub superseded : List Record → ℕ → Record → Bool
superseded records caller t = some (λ i. supersedes (at records i) caller t) (length records)

-- the commit for target t: the target's time, version and members, and the target as its parent
abbrev pub commit_for : ℕ → Record → ℕ → ℕ → Record
commit_for target t caller voters =
    record { parent = target; caller = caller; time = t.time; version = t.version; members = t.members; kind = Commit voters }

-- a record with another parent
abbrev pub with_parent : Record → ℕ → Record
with_parent r i = record { parent = i; caller = r.caller; time = r.time; version = r.version; members = r.members; kind = r.kind }

-- a child of the target becomes a child of the new record; no other parent moves
abbrev pub adopted : ℕ → ℕ → Record → Record
adopted target new r = cond (eqb r.parent target) (with_parent r new) r

-- the part of a path before it comes to record i
abbrev pub before : ℕ → List ℕ → List ℕ
before i [] = []
before i (j ∷ up) = cond (eqb i j) [] (j ∷ before i up)

-- the commands and changes on the path from the former latest commit down to the target
unfoldable pub gained : List Record → ℕ → List ℕ
gained records target = reverse (entries records (before (latest_commit records) (path records target)))

-- the commit stands between the target and its former children, and the log has gained its entries
abbrev pub committed : State → ℕ → Record → ℕ → ℕ → Result
committed s target t caller voters =
    record {
      state = record {
        clocks = s.clocks;
        records = map (adopted target (length s.records)) s.records ++ (commit_for target t caller voters ∷ []);
        log = s.log ++ gained s.records target;
      };
      answer = Accepted (length s.records);
    }

-- push, with the target's record t
unfoldable pub push_on : State → Record → ℕ → ℕ → ℕ → Result
push_on s t caller voters target =
    judge s
    -- 2, 6, 7, 8, 3, 4, 5, 17, 12
    ((ltb 15 caller ⇒ NoSuchCaller)
    ∷ (not (leads s.clocks s.records caller) ⇒ NotLeading)
    ∷ (bad_target s caller target ⇒ BadTarget)
    ∷ (superseded s.records caller t ⇒ Superseded)
    ∷ (not (has voters caller) ⇒ CallerAbsent)
    ∷ (not (within voters t.members) ⇒ Stranger)
    ∷ (some_past voters t.time s.clocks ⇒ ClockPast)
    ∷ (quorum voters t.members && not (on_path s.records (latest_commit s.records) target) ⇒ OffBranch)
    ∷ (quorum voters t.members && full s.records ⇒ TableFull)
    ∷ [])
    (cond (quorum voters t.members)
    (committed (voted s voters t.time) target t caller voters)
    (short (voted s voters t.time)))

unfoldable pub push : State → ℕ → ℕ → ℕ → Result
push s caller voters target = push_on s (at s.records target) caller voters target
