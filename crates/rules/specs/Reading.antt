-- Reading: the log's length, one entry, one record, one clock, and the log copied to a lent buffer. 16 comes before anything else.
use Rattle.std.specs.Prelude.{ℕ, Result, Ok, Err, not, List, [], ◌∷◌, ◌++◌, ltb, leb, length, get_or, drop}
use Rattle.rules.specs.declared.Record.{Record}
use Rattle.rules.specs.declared.Refusal.{Refusal}
use Rattle.rules.specs.declared.Refusal.TheVariants.{NoSuchNumber, BufferShort, NoTable}
use Rattle.rules.specs.Nodes.{nodes}
use Rattle.rules.specs.Clocks.{clock}
use Rattle.rules.specs.Records.{at}
use Rattle.rules.specs.State.{State, is_table}
use Rattle.rules.specs.Refusals.{Line, ◌⇒◌, decide}

-- the order of refusals of a reading that gives a number
abbrev pub reading : State → List Line → ℕ → Result ℕ Refusal
reading s lines number = decide Err ((not (is_table s) ⇒ NoTable) ∷ lines) (Ok number)

-- the log's length
unfoldable pub read_length : State → Result ℕ Refusal
read_length s = reading s [] (length s.log)

-- one entry of the log, counted from 0
unfoldable pub read_entry : State → ℕ → Result ℕ Refusal
read_entry s i = reading s ((leb (length s.log) i ⇒ NoSuchNumber) ∷ []) (get_or s.log i 0)

-- one clock
unfoldable pub read_clock : State → ℕ → Result ℕ Refusal
read_clock s node = reading s ((leb nodes node ⇒ NoSuchNumber) ∷ []) (clock s.clocks node)

-- one record
unfoldable pub read_record : State → ℕ → Result Record Refusal
read_record s i =
    decide Err
    ((not (is_table s) ⇒ NoTable) ∷ (leb (length s.records) i ⇒ NoSuchNumber) ∷ [])
    (Ok (at s.records i))

-- what a lent buffer holds afterwards and the answer beside it
pub record Copied : Type 0 where
  pub buffer : List ℕ
  pub answer : Result ℕ Refusal

-- a refusal leaves the buffer as it was
abbrev pub refused_with : List ℕ → Refusal → Copied
refused_with buffer refusal = record { buffer = buffer; answer = Err refusal }

-- the log copied to the buffer's first places; further places keep what they had, and the answer is the log's length
unfoldable pub copy_log : State → List ℕ → Copied
copy_log s buffer =
    decide (refused_with buffer)
    ((not (is_table s) ⇒ NoTable) ∷ (ltb (length buffer) (length s.log) ⇒ BufferShort) ∷ [])
    (record { buffer = s.log ++ drop (length s.log) buffer; answer = Ok (length s.log) })
