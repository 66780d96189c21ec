-- What is left of a proposal once the first lines of its order are not given. Each is a tail of the order in rules.
use Rattle.std.specs.Prelude.{ℕ, cond, not, ◌&&◌, [], ◌∷◌, Result as Fallible, Ok, Err, ltb, eqb}
use Rattle.rules.specs.declared.Kind.{Kind}
use Rattle.rules.specs.declared.Kind.TheVariants.{Change}
use Rattle.rules.specs.declared.Record.{Record}
use Rattle.rules.specs.declared.Refusal.{Refusal}
use Rattle.rules.specs.declared.Refusal.TheVariants.{NoSuchCaller, CallerAbsent, Stranger, ClockPast, NotLeading, BadTarget, Superseded, NotNext, OpenChange, NoCommitYet, TableFull, VersionsOut, OffBranch}
use Rattle.rules.specs.Nodes.{has}
use Rattle.rules.specs.Scheme.{quorum, within, next}
use Rattle.rules.specs.Clocks.{some_past}
use Rattle.rules.specs.Records.{at}
use Rattle.rules.specs.Tree.{number_of, record_of, last_called, leads, on_path, open_change, commit_of_time, latest_commit}
use Rattle.rules.specs.State.{State, full}
use Rattle.rules.specs.Refusals.{◌⇒◌, decide}
use Rattle.rules.specs.Proposals.{Result, refused_in, voted, short, added, election, entry, bad_target, superseded, committed}

-- the node that a caller's number stands for, or 2
abbrev pub node_of : ℕ → Fallible ℕ Refusal
node_of caller = cond (ltb 15 caller) (Err NoSuchCaller) (Ok caller)

-- the head of a node that leads, with its number, or 6
abbrev pub head_of : State → ℕ → Fallible (ℕ × Record) Refusal
head_of s caller =
    cond (leads s.clocks s.records caller)
    (Ok (number_of (last_called s.records caller), record_of s.records (last_called s.records caller)))
    (Err NotLeading)

-- the target with its number, or 7
abbrev pub target_of : State → ℕ → ℕ → Fallible (ℕ × Record) Refusal
target_of s caller target = cond (bad_target s caller target) (Err BadTarget) (Ok (target, at s.records target))

-- pull after 16, 2, 3 and 5: 4, 12
unfoldable pub elected_on : State → ℕ → Record → ℕ → ℕ → ℕ → Result
elected_on s i b caller voters time =
    decide (refused_in s)
    ((not (within voters b.members) ⇒ Stranger) ∷ (quorum voters b.members && full s.records ⇒ TableFull) ∷ [])
    (cond (quorum voters b.members)
    (added (voted s voters time) (election i b caller voters time))
    (short (voted s voters time)))

-- invoke after 16, 2 and 6, and reconfigure after 11: 13, 12
unfoldable pub grown_on : State → ℕ → Record → ℕ → ℕ → Kind → Result
grown_on s i h caller members kind =
    decide (refused_in s)
    ((eqb h.version 255 ⇒ VersionsOut) ∷ (full s.records ⇒ TableFull) ∷ [])
    (added s (entry i h caller members kind))

-- reconfigure after 16, 2, 1 and 6: 3, 9, 10, 11, and the growth
unfoldable pub changed_on : State → ℕ → Record → ℕ → ℕ → Result
changed_on s i h caller new =
    decide (refused_in s)
    ((not (has new caller) ⇒ CallerAbsent)
    ∷ (not (next h.members new) ⇒ NotNext)
    ∷ (open_change s.records i ⇒ OpenChange)
    ∷ (not (commit_of_time s.records h.time i) ⇒ NoCommitYet)
    ∷ [])
    (grown_on s i h caller new Change)

-- a push that a majority votes for, after 16, 2, 6, 7, 8, 3, 4 and 5: 17, 12
unfoldable pub committed_on : State → Record → ℕ → ℕ → ℕ → Result
committed_on s t caller voters target =
    decide (refused_in s)
    ((not (on_path s.records (latest_commit s.records) target) ⇒ OffBranch) ∷ (full s.records ⇒ TableFull) ∷ [])
    (committed (voted s voters t.time) target t caller voters)

-- push after 16, 2, 6 and 7: 8, 3, 4, 5, and the vote
unfoldable pub pushed_on : State → Record → ℕ → ℕ → ℕ → Result
pushed_on s t caller voters target =
    decide (refused_in s)
    ((superseded s.records caller t ⇒ Superseded)
    ∷ (not (has voters caller) ⇒ CallerAbsent)
    ∷ (not (within voters t.members) ⇒ Stranger)
    ∷ (some_past voters t.time s.clocks ⇒ ClockPast)
    ∷ [])
    (cond (quorum voters t.members) (committed_on s t caller voters target) (short (voted s voters t.time)))
