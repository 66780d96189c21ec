-- How much of an array is in use, and what its parts show as a state.
use Rattle.std.specs.Prelude.{ℕ, min, cond, ◌&&◌, List, [], leb, take}
use Rattle.rules.specs.declared.Record.{Record}
use Rattle.rules.specs.State.{State}

-- of 256 places, as many as there are
unfoldable pub used : ℕ → ℕ
used count = min count 256

-- the state that clocks, records and log show. A number of records or entries that 256 places can't have shows a state without records,
-- which is no table
unfoldable pub shown : List ℕ → List Record → ℕ → List ℕ → ℕ → State
shown clocks records count log length =
    cond (leb count 256 && leb length 256)
    (record { clocks = clocks; records = take count records; log = take length log })
    (record { clocks = clocks; records = []; log = [] })
