-- What a push moves in the arrays: children of the target, and the entries that the log gains.
use Rattle.std.specs.Prelude.{ℕ, zero, suc, List, [], ◌∷◌, set}
use Rattle.rules.specs.declared.Record.{Record}
use Rattle.rules.specs.Records.{at}
use Rattle.rules.specs.Proposals.{adopted}

-- the records after the children of the target among the first n became children of the new record
abbrev pub adopted_of : ℕ → ℕ → List Record → ℕ → List Record
adopted_of target new records zero = records
adopted_of target new records (suc n) =
    set (adopted_of target new records n) n (adopted target new (at (adopted_of target new records n) n))

-- the log with numbers written to it, the first just before `end` and each further one before that
abbrev pub written : List ℕ → ℕ → List ℕ → List ℕ
written log end [] = log
written log zero (i ∷ rest) = log
written log (suc end) (i ∷ rest) = written (set log end i) end rest
