-- The test for a table: a number of records or entries out of range is no table, and one branch is tested by counting commits.
use Prim.Native.Nat.{ℕ, ◌<◌}
use mathlib.Core.Path.{◌≡◌, refl, ap}
use mathlib.Core.Logic.{⊎_elim}
use mathlib.Core.Bool.{Bool, true, false, cond, ◌&&◌}
use mathlib.Core.List.{List, [], reverse}
use borrow.Author.Tests.{lt-leb, ltb-true}
use lib.Dec.{ltb, leb, eqb}
use lib.ListN.{length, take}
use Rattle.rules.specs.declared.Record.{Record}
use Rattle.rules.specs.Records.{at}
use Rattle.rules.specs.Tree.{path, number_of, last_commit, latest_commit}
use Rattle.rules.specs.State.{State, places, entries, log_of, counted, rooted, is_opening, all_shaped, all_timely, same, logged, is_table}
use Rattle.rules.proofs.Bools.{tested, and_left, and_false_right}
use Rattle.rules.proofs.Paths.{rising}
use Rattle.records.specs.Used.{shown}
use Rattle.tables.specs.Table.{commits_in, commits_along}
use Rattle.tables.proofs.Branch.{branch_count}

-- a state without records is no table
empty : (clocks log : List ℕ) → is_table (record { clocks = clocks; records = []; log = log }) ≡ false
unfolding is_table counted
empty clocks log = refl

module _ (clocks : List ℕ) (records : List Record) (count : ℕ) (log : List ℕ) (size : ℕ) where
  abbrev state : State
  state = shown clocks records count log size

  pub too_few : count ≡ 0 → is_table state ≡ false
  unfolding shown
  too_few e = rw e (either (leb 0 256 && leb size 256))
    where
      either : (b : Bool) → is_table (cond b (record { clocks = clocks; records = []; log = take size log }) (record { clocks = clocks; records = []; log = [] })) ≡ false
      either true = empty clocks (take size log)
      either false = empty clocks []

  pub too_many : 256 < count → is_table state ≡ false
  unfolding shown
  too_many l = rw (lt-leb count 256 l) (empty clocks [])

  pub too_long : 256 < size → is_table state ≡ false
  unfolding shown
  too_long l = rw (lt-leb size 256 l, and_false_right (leb count 256) refl) (empty clocks [])

-- the path of the latest commit
abbrev pub branch : List Record → List ℕ
branch records = path records (number_of (last_commit records))

-- the whole test, where one branch is tested by counting the commits on it
pub by_count : (clocks : List ℕ) (records : List Record) (log : List ℕ)
    → is_table (record { clocks = clocks; records = records; log = log })
    ≡ ltb 0 (length records) && leb (length records) 256
    && (is_opening (at records 0)
    && (all_shaped records
    && (all_timely clocks records
    && (eqb (commits_along records (branch records)) (commits_in records) && same log (reverse (entries records (branch records)))))))
unfolding is_table counted places rooted logged log_of latest_commit
by_count clocks records log =
    ⊎_elim
    (λ k. ⊎_elim
    (λ h. ap (λ b. counted records && (rooted records && (all_shaped records && (all_timely clocks records && (b && logged (record { clocks = clocks; records = records; log = log }))))))
    (branch_count records (rising records h) (ltb-true 0 (length records) (and_left (ltb 0 (length records)) (leb (length records) places) k))))
    (λ h. rw h)
    (tested (all_shaped records)))
    (λ k. rw k)
    (tested (counted records))
