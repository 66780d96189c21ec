-- A struct is read as the state that its parts show; an outcome, as a result of rules.
use Rattle.std.specs.Prelude.{ℕ, ◌+◌, ◌≡◌, false, cond, List, ◌++◌, map, length, take, drop, Option, Some, None, Result as Fallible, Ok, Err, ltb, set}
use Rattle.rules.specs.declared.Refusal.{Refusal}
use Rattle.rules.specs.declared.Record.{Record}
use Rattle.rules.specs.declared.Refusal.TheVariants.{NoTable, TableFull}
use Rattle.rules.specs.declared.Answer.TheVariants.{Accepted, Short, Refused}
use Rattle.rules.specs.Clocks.{moved}
use Rattle.rules.specs.State.{State, is_table}
use Rattle.rules.specs.Proposals.{Result, adopted}
use Rattle.rules.specs.Reading.{Copied}
use Rattle.records.specs.Used.{used, shown}
use Rattle.referee.specs.declared.Table.{Table}
use Rattle.referee.specs.declared.Outcome.{Outcome}

-- the state that a struct shows: a count or a length out of range shows one without records, which is no table
abbrev pub view : Table → State
view t = shown t.clocks t.records t.count t.log t.length

-- an outcome as a result of rules
abbrev pub seen : Outcome → Result
seen o = record { state = view o.state; answer = o.answer }

-- the struct as it was, beside a refusal
abbrev pub refused_with : Table → Refusal → Outcome
refused_with t refusal = record { state = t; answer = Refused refusal }

-- what a proposal to the table t owes: its outcome is seen as the rules' result, and a refusal hands back the very same struct
pub record Meets (t : Table) (result : Result) (o : Outcome) : Type 0 where
  pub sees : seen o ≡ result
  pub keeps : (refusal : Refusal) → o.answer ≡ Refused refusal → o.state ≡ t

-- the buffer afterwards and the answer, as rules have them
abbrev pub copied : List ℕ → Fallible ℕ Refusal → Copied
copied buffer answer = record { buffer = buffer; answer = answer }

-- what a proposal did, as its outcome: the state afterwards beside the number of the record added, or beside "short"; a refusal hands back
-- the struct as it was
abbrev pub outcome : Table → Fallible (Table × Option ℕ) Refusal → Outcome
outcome t (Ok (after, Some n)) = record { state = after; answer = Accepted n }
outcome t (Ok (after, None)) = record { state = after; answer = Short }
outcome t (Err refusal) = refused_with t refusal

-- why a state is refused before anything else
abbrev pub Fails : State → Refusal → Type 0
Fails s refusal = (refusal ≡ NoTable) × (is_table s ≡ false)

-- the struct after every voter's clock became the time
abbrev pub revoted : ℕ → ℕ → Table → Table
revoted voters time t = record { clocks = moved voters time t.clocks; records = t.records; count = t.count; log = t.log; length = t.length }

-- the struct after its log gained some entries
abbrev pub extended : List ℕ → Table → Table
extended gain t =
    record {
      clocks = t.clocks;
      records = t.records;
      count = t.count;
      log = take t.length t.log ++ (gain ++ drop (length gain) (drop t.length t.log));
      length = t.length + length gain;
    }

-- the struct after every child of the target among its records became a child of a new one
abbrev pub regrouped : ℕ → ℕ → Table → Table
regrouped target new t =
    record {
      clocks = t.clocks;
      records = map (adopted target new) (take (used t.count) t.records) ++ drop (used t.count) t.records;
      count = t.count;
      log = t.log;
      length = t.length;
    }

-- the struct with a record at the next place, where there is one
abbrev pub placed : Record → Table → Fallible (Table × Option ℕ) Refusal
placed r t =
    cond (ltb 255 t.count) (Err TableFull)
    (Ok (record { clocks = t.clocks; records = set t.records t.count r; count = t.count + 1; log = t.log; length = t.length }, Some t.count))
