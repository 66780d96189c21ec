-- What a struct shows after a vote and after an addition.
use Prim.Native.Nat.{ℕ, ◌≤◌}
use native.Mathlib.Omega.{arith}
use mathlib.Core.Path.{◌≡◌, refl, sym, ap, ◌∙◌}
use mathlib.Core.Bool.{Bool, true, false, cond}
use borrow.Author.Tests.{ltb-true, ltb-false, le-leb, lt-leb}
use lib.Dec.{ltb, leb}
use lib.ListN.{length, take}
use lib.Seq.{length-take-le}
use Rattle.std.specs.Prelude.{◌+◌, Some, Ok, Err, set}
use Rattle.rules.specs.declared.Record.{Record}
use Rattle.rules.specs.declared.Refusal.TheVariants.{TableFull}
use Rattle.rules.specs.State.{State, places, full, is_table}
use Rattle.rules.specs.Proposals.{Result, refused_in, added, voted}
use Rattle.referee.specs.declared.Table.{Table}
use Rattle.referee.specs.View.{view, seen, outcome, revoted, placed}
use Rattle.referee.proofs.Views.{shown_is, few, short, shown_voted, shown_added}

-- a struct whose numbers are in range shows the places in use
pub view_is : (t : Table) → t.count ≤ 256 → t.length ≤ 256
    → view t ≡ record { clocks = t.clocks; records = take t.count t.records; log = take t.length t.log }
view_is t few short = shown_is t.clocks t.records t.count t.log t.length few short

-- a vote moves the clocks and nothing else
pub view_voted : (voters time : ℕ) (t : Table) → view (revoted voters time t) ≡ voted (view t) voters time
view_voted voters time t = shown_voted t.clocks t.records t.count t.log t.length voters time _ refl

module _ (t after : Table) (r : Record) (few : after.count ≤ 256) (short : after.length ≤ 256) (whole : length after.records ≡ 256) where
  -- the struct with the record at the next place
  abbrev grown : Table
  grown = record { clocks = after.clocks; records = set after.records after.count r; count = after.count + 1; log = after.log; length = after.length }

  count_is : length (view after).records ≡ after.count
  count_is =
      ap (λ (s : State). length s.records) (shown_is after.clocks after.records after.count after.log after.length few short)
      ∙ length-take-le after.count after.records (omega arith)

  full_is : full (view after).records ≡ leb 256 after.count
  unfolding full places
  full_is = ap (leb 256) count_is

  -- a record is added, or 12 is the answer
  pub seen_placed : seen (outcome t (placed r after)) ≡ cond (full (view after).records) (refused_in (view t) TableFull) (added (view after) r)
  seen_placed = go (ltb 255 after.count) refl
    where
      either : Bool → Result
      either b = cond b (refused_in (view t) TableFull) (added (view after) r)

      go : (b : Bool) → ltb 255 after.count ≡ b
          → seen (outcome t (placed r after)) ≡ cond (full (view after).records) (refused_in (view t) TableFull) (added (view after) r)
      go true e =
          let l = ltb-true 255 after.count e in
          ap (λ (b : Bool). seen (outcome t (cond b (Err TableFull) (Ok (grown, Some after.count))))) e
          ∙ sym (ap either (full_is ∙ le-leb 256 after.count (omega arith)))
      go false e =
          let l = ltb-false 255 after.count e in
          ap (λ (b : Bool). seen (outcome t (cond b (Err TableFull) (Ok (grown, Some after.count))))) e
          ∙ shown_added after.clocks after.records after.count after.log after.length r (omega arith) short whole
          ∙ sym (ap either (full_is ∙ lt-leb 256 after.count (omega arith)))

-- the same of a struct that is a table
module _ (t : Table) (r : Record) (table : is_table (view t) ≡ true) (whole : length t.records ≡ 256) where
  pub placed_same : seen (outcome t (placed r t)) ≡ cond (full (view t).records) (refused_in (view t) TableFull) (added (view t) r)
  placed_same =
      seen_placed t t r (few t.clocks t.records t.count t.log t.length table) (short t.clocks t.records t.count t.log t.length table) whole

  -- and after a vote
  pub placed_voted : (voters time : ℕ) → seen (outcome t (placed r (revoted voters time t)))
      ≡ cond (full (view t).records) (refused_in (view t) TableFull) (added (voted (view t) voters time) r)
  placed_voted voters time =
      seen_placed t (revoted voters time t) r (few t.clocks t.records t.count t.log t.length table) (short t.clocks t.records t.count t.log t.length table) whole
      ∙ ap (λ (s : State). cond (full s.records) (refused_in (view t) TableFull) (added s r)) (view_voted voters time t)
