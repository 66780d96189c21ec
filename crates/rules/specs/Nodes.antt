-- Nodes and sets of nodes. A set is a number in which node i is worth 2^i.
use Rattle.std.specs.Prelude.{ℕ, ◌*◌, ◌/◌, ◌%◌, ◌^◌, Bool, not, ◌&&◌, ◌||◌, ltb, leb, eqb}
use Rattle.std.specs.Bool.{xor}
use Rattle.rules.specs.First.{count, every}

-- there are nodes 0 to 15
unfoldable pub nodes : ℕ
nodes = 16

-- the node is in the set; a number over 15 is in no set
unfoldable pub has : ℕ → ℕ → Bool
has set node = ltb node nodes && eqb (set / 2 ^ node % 2) 1

-- no node is in the set
unfoldable pub empty : ℕ → Bool
empty set = eqb set 0

-- the number of nodes in a set
unfoldable pub size : ℕ → ℕ
size set = count (has set) nodes

-- the number of nodes in both sets
unfoldable pub shared : ℕ → ℕ → ℕ
shared s c = count (λ node. has s node && has c node) nodes

-- the number of nodes in one of the sets and not in the other
unfoldable pub differing : ℕ → ℕ → ℕ
differing c d = count (λ node. xor (has c node) (has d node)) nodes

-- S is a majority of C: twice the number of nodes in both exceeds the number in C
unfoldable pub majority : ℕ → ℕ → Bool
majority s c = ltb (size c) (2 * shared s c)

-- C and D differ in exactly one node; no change at all is no step
unfoldable pub one_step : ℕ → ℕ → Bool
one_step c d = eqb (differing c d) 1

-- every node of S is in C
unfoldable pub subset : ℕ → ℕ → Bool
subset s c = every (λ node. not (has s node) || has c node) nodes
