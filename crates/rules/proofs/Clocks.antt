-- Clocks, node by node: a voter's becomes the time, any other stays.
use Prim.Native.Nat.{ℕ, ◌+◌, ◌<◌}
use native.Mathlib.Numerals.{add-one}
use mathlib.Core.Path.{◌≡◌, sym, ap, ◌∙◌}
use mathlib.Core.Bool.{Bool, true, false, ◌&&◌}
use lib.Dec.{leb}
use mathlib.Core.List.{List}
use lib.ListN.{set}
use Rattle.rules.specs.Nodes.{nodes, has}
use Rattle.rules.specs.First.{some}
use Rattle.rules.specs.Clocks.{clock, moved_of, moved, some_at_or_past}
use Rattle.rules.proofs.First.{some_of}

-- one node more, as a loop counts
pub moved_voter : (voters time : ℕ) (clocks : List ℕ) (n : ℕ) → has voters n ≡ true
    → moved_of voters time clocks (n + 1) ≡ set (moved_of voters time clocks n) n time
moved_voter voters time clocks n e = rw (add-one, e)

pub moved_other : (voters time : ℕ) (clocks : List ℕ) (n : ℕ) → has voters n ≡ false
    → moved_of voters time clocks (n + 1) ≡ moved_of voters time clocks n
moved_other voters time clocks n e = rw (add-one, e)

-- and all sixteen
pub moved_all : (voters time : ℕ) (clocks : List ℕ) (n : ℕ) → n ≡ 16 → moved_of voters time clocks n ≡ moved voters time clocks
unfolding moved nodes
moved_all voters time clocks n e = ap (moved_of voters time clocks) e

-- the node votes, and its clock is at or past the time
abbrev pub reached : ℕ → ℕ → List ℕ → ℕ → Bool
reached voters time clocks node = has voters node && leb time (clock clocks node)

-- one such node is enough
pub reached_one : (voters time : ℕ) (clocks : List ℕ) (node : ℕ) → node < 16 → reached voters time clocks node ≡ true
    → some_at_or_past voters time clocks ≡ true
unfolding some_at_or_past nodes
reached_one voters time clocks node l e = some_of (reached voters time clocks) 16 node l e

-- and where none of the sixteen is one, there is none
pub reached_none : (voters time : ℕ) (clocks : List ℕ) (n : ℕ) → n ≡ 16 → some (reached voters time clocks) n ≡ false
    → some_at_or_past voters time clocks ≡ false
unfolding some_at_or_past nodes
reached_none voters time clocks n e none = ap (some (reached voters time clocks)) (sym e) ∙ none
