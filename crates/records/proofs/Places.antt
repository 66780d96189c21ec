-- The places in use: how many there are, and that reading one of them reads the record.
use Prim.Native.Nat.{ℕ, ◌≤◌, ◌<◌, min}
use native.Mathlib.Omega.{arith}
use mathlib.Core.Path.{◌≡◌, ap, ◌∙◌}
use mathlib.Core.List.{List}
use lib.ListN.{length, take, length-take}
use lib.Seq.{get_or-take}
use Rattle.rules.specs.declared.Record.{Record}
use Rattle.rules.specs.Records.{blank, at}
use Rattle.records.specs.Used.{used}

pub used_small : (count : ℕ) → used count ≤ 256
unfolding used
used_small count = omega arith

pub used_is : (count n : ℕ) → n ≡ min count 256 → n ≡ used count
unfolding used
used_is count n e = e

-- an array of 256 records has so many in use
pub used_length : (records : List Record) (count : ℕ) → length records ≡ 256 → length (take count records) ≡ used count
unfolding used
used_length records count e = length-take count records ∙ ap (min count) e

-- a record in use is the one at its place of the array
pub used_at : (records : List Record) (count i : ℕ) → i < used count → at (take count records) i ≡ at records i
unfolding used
used_at records count i l = get_or-take count records i blank (omega arith)
