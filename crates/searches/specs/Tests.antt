-- A test of records that is given as a closure, by what its calls answer.
use Rattle.std.specs.Prelude.{◌≡◌, ℕ, ◌<◌, Bool, List, length}
use Rattle.rules.specs.declared.Record.{Record}
use Rattle.rules.specs.Records.{at}

-- at each of the records a call answers what `test` says
abbrev pub Answers : (Record → Bool → Type 0) → (Record → Bool) → List Record → Type 0
Answers call test records = (i : ℕ) (b : Bool) → i < length records → call (at records i) b → b ≡ test (at records i)
