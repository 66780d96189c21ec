-- A contract determines the outcome: two outcomes that meet it can't be told apart.
use Prim.Native.Nat.{ℕ}
use mathlib.Core.Path.{◌≡◌, sym, ap, ap₂, ◌∙◌}
use mathlib.Core.Bool.{Bool}
use mathlib.Core.List.{List}
use Rattle.rules.specs.declared.Refusal.{Refusal}
use Rattle.rules.specs.declared.Answer.{Answer}
use Rattle.rules.specs.declared.Answer.TheVariants.{Refused}
use Rattle.std.specs.Prelude.{Result as Fallible}
use Rattle.rules.specs.declared.Record.{Record}
use Rattle.rules.specs.Proposals.{Result, opened}
use Rattle.rules.specs.State.{State, is_table}
use Rattle.rules.specs.Reading.{Copied, read_record, copy_log}
use Rattle.referee.specs.declared.Table.{Table}
use Rattle.referee.specs.declared.Outcome.{Outcome}
use Rattle.referee.specs.View.{view, seen, refused_with, Meets, copied}

-- a proposal: the same state is seen, beside the same answer
pub proposal_seen : (t : Table) (result : Result) (o o' : Outcome) → Meets t result o → Meets t result o' → seen o ≡ seen o'
proposal_seen t result o o' m m' = m.sees ∙ sym m'.sees

pub proposal_answer : (t : Table) (result : Result) (o o' : Outcome) → Meets t result o → Meets t result o' → o.answer ≡ o'.answer
proposal_answer t result o o' m m' = ap (λ (r : Result). r.answer) (proposal_seen t result o o' m m')

-- a proposal that is refused: the very same outcome, the struct as it was beside the refusal
pub refusal_is : (t : Table) (result : Result) (o : Outcome) (refusal : Refusal) → Meets t result o → result.answer ≡ Refused refusal
    → o ≡ refused_with t refusal
refusal_is t result o refusal m a =
    let b = ap (λ (r : Result). r.answer) m.sees ∙ a in
    ap₂ (λ (s : Table) (x : Answer). record { state = s; answer = x }) (m.keeps refusal b) b

pub refusal_same : (t : Table) (result : Result) (o o' : Outcome) (refusal : Refusal) → Meets t result o → Meets t result o'
    → result.answer ≡ Refused refusal → o ≡ o'
refusal_same t result o o' refusal m m' a = refusal_is t result o refusal m a ∙ sym (refusal_is t result o' refusal m' a)

-- opening: the same state is seen, beside the same answer
pub opening_seen : (set : ℕ) (o o' : Outcome) → seen o ≡ opened set → seen o' ≡ opened set → seen o ≡ seen o'
opening_seen set o o' p q = p ∙ sym q

-- is it a table: the same answer
pub test_same : (t : Table) (b b' : Bool) → b ≡ is_table (view t) → b' ≡ is_table (view t) → b ≡ b'
test_same t b b' p q = p ∙ sym q

-- reading a number, the log's length, an entry or a clock: the same answer
pub number_same : (read : State → Fallible ℕ Refusal) (t : Table) (r r' : Fallible ℕ Refusal) → r ≡ read (view t) → r' ≡ read (view t) → r ≡ r'
number_same read t r r' p q = p ∙ sym q

-- reading a record: the same answer
pub record_same : (t : Table) (i : ℕ) (r r' : Fallible Record Refusal) → r ≡ read_record (view t) i → r' ≡ read_record (view t) i → r ≡ r'
record_same t i r r' p q = p ∙ sym q

-- copying the log: the same buffer afterwards, and the same answer
pub copy_same : (t : Table) (entry after after' : List ℕ) (r r' : Fallible ℕ Refusal) → copied after r ≡ copy_log (view t) entry
    → copied after' r' ≡ copy_log (view t) entry → (after ≡ after') × (r ≡ r')
copy_same t entry after after' r r' p q =
    let e = p ∙ sym q in
    (ap (λ (c : Copied). c.buffer) e, ap (λ (c : Copied). c.answer) e)
