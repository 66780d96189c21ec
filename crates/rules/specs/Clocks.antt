-- The sixteen clocks: a list with a number for each node.
use Rattle.std.specs.Prelude.{ℕ, zero, suc, Bool, cond, ◌&&◌, List, ltb, leb, get_or, set}
use Rattle.rules.specs.First.{some}
use Rattle.rules.specs.Nodes.{nodes, has}

-- the clock of a node
abbrev pub clock : List ℕ → ℕ → ℕ
clock clocks node = get_or clocks node 0

-- the clocks after those of the voters among the first n nodes became the time
abbrev pub moved_of : ℕ → ℕ → List ℕ → ℕ → List ℕ
moved_of voters time clocks zero = clocks
moved_of voters time clocks (suc n) = cond (has voters n) (set (moved_of voters time clocks n) n time) (moved_of voters time clocks n)

-- every voter's clock becomes the time
unfoldable pub moved : ℕ → ℕ → List ℕ → List ℕ
moved voters time clocks = moved_of voters time clocks nodes

-- a voter's clock is at or past the time
unfoldable pub some_at_or_past : ℕ → ℕ → List ℕ → Bool
some_at_or_past voters time clocks = some (λ node. has voters node && leb time (clock clocks node)) nodes

-- a voter's clock is past the time
unfoldable pub some_past : ℕ → ℕ → List ℕ → Bool
some_past voters time clocks = some (λ node. has voters node && ltb time (clock clocks node)) nodes
