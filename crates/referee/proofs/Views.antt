-- Reading a struct as a state: what a table's numbers are, and what a change of the struct changes in the state.
use Prim.Native.Nat.{ℕ, ◌+◌, ◌≤◌, ◌<◌}
use native.Mathlib.Numerals.{add-one}
use native.Mathlib.Omega.{arith}
use mathlib.Core.Path.{◌≡◌, refl, sym, ap, ◌∙◌}
use mathlib.Core.Bool.{Bool, true, false, cond, ◌&&◌}
use mathlib.Core.List.{List, [], ◌∷◌, ◌++◌}
use borrow.Author.Tests.{le-leb, leb-true}
use lib.Dec.{leb}
use lib.ListN.{length, take, set}
use lib.Seq.{take-suc-set, length-take-le}
use Rattle.rules.specs.declared.Record.{Record}
use Rattle.rules.specs.State.{State, is_table, counted}
use Rattle.rules.specs.Clocks.{moved}
use Rattle.rules.specs.Proposals.{Result, added, voted}
use Rattle.rules.specs.declared.Answer.{Answer}
use Rattle.rules.specs.declared.Answer.TheVariants.{Accepted}
use Rattle.rules.proofs.Bools.{and_left, and_right}
use Rattle.records.specs.Used.{shown}

abbrev state : List ℕ → List Record → List ℕ → State
state clocks records log = record { clocks = clocks; records = records; log = log }

module _ (clocks : List ℕ) (records : List Record) (count : ℕ) (log : List ℕ) (size : ℕ) where
  -- the state of numbers in range
  abbrev pub within : State
  within = state clocks (take count records) (take size log)

  pub shown_is : count ≤ 256 → size ≤ 256 → shown clocks records count log size ≡ within
  unfolding shown
  shown_is few short = rw (le-leb count 256 few, le-leb size 256 short)

  -- the clocks are the struct's own
  pub clocks_is : (shown clocks records count log size).clocks ≡ clocks
  unfolding shown
  clocks_is = go (leb count 256 && leb size 256)
    where
      go : (b : Bool) → (cond b within (state clocks [] [])).clocks ≡ clocks
      go true = refl
      go false = refl

  -- a table's numbers are in range
  module _ (table : is_table (shown clocks records count log size) ≡ true) where
    in_range : leb count 256 && leb size 256 ≡ true
    unfolding shown is_table counted
    in_range = go (leb count 256 && leb size 256) table
      where
        go : (b : Bool) → is_table (cond b within (record { clocks = clocks; records = []; log = [] })) ≡ true → b ≡ true
        go true e = refl
        go false e = e

    pub few : count ≤ 256
    few = leb-true count 256 (and_left (leb count 256) (leb size 256) in_range)

    pub short : size ≤ 256
    short = leb-true size 256 (and_right (leb count 256) (leb size 256) in_range)

-- a vote's clocks
pub shown_voted : (clocks : List ℕ) (records : List Record) (count : ℕ) (log : List ℕ) (size voters time : ℕ) (after : List ℕ)
    → after ≡ moved voters time clocks
    → shown after records count log size ≡ voted (shown clocks records count log size) voters time
unfolding shown
shown_voted clocks records count log size voters time after e = rw e (go (leb count 256 && leb size 256))
  where
    go : (b : Bool)
        → cond b (state (moved voters time clocks) (take count records) (take size log)) (state (moved voters time clocks) [] [])
        ≡ voted (cond b (state clocks (take count records) (take size log)) (state clocks [] [])) voters time
    go true = refl
    go false = refl

abbrev pub result : State → Answer → Result
result s a = record { state = s; answer = a }

-- one record more
module _ (clocks : List ℕ) (records : List Record) (count : ℕ) (log : List ℕ) (size : ℕ) (r : Record)
    (place : count < 256) (short : size ≤ 256) (whole : length records ≡ 256) where
  pub shown_added : result (shown clocks (set records count r) (count + 1) log size) (Accepted count)
      ≡ added (shown clocks records count log size) r
  shown_added =
      let next = shown_is clocks (set records count r) (count + 1) log size (omega arith) short in
      let now = shown_is clocks records count log size (omega arith) short in
      let more : take (count + 1) (set records count r) ≡ take count records ++ (r ∷ []) =
      ap (λ k. take k (set records count r)) (add-one count) ∙ take-suc-set records count r (omega arith) in
      let size' = length-take-le count records (omega arith) in
      ap (λ s. result s (Accepted count)) (next ∙ ap (λ rs. state clocks rs (take size log)) more)
      ∙ ap (λ n. result (state clocks (take count records ++ (r ∷ [])) (take size log)) (Accepted n)) (sym size')
      ∙ ap (λ s. added s r) (sym now)
