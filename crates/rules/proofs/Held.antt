-- Held by any voter: one that holds it is enough, and passing all sixteen shows that there is none.
use Prim.Native.Nat.{ℕ, ◌<◌}
use mathlib.Core.Path.{◌≡◌, sym, ap, ◌∙◌}
use mathlib.Core.Bool.{Bool, true, false, ◌&&◌}
use Rattle.rules.specs.declared.Record.{Record}
use Rattle.rules.specs.First.{some}
use Rattle.rules.specs.Nodes.{nodes, has}
use Rattle.rules.specs.Records.{holds}
use Rattle.rules.specs.Tree.{held_by_any}
use Rattle.rules.proofs.Bools.{and_true}
use Rattle.rules.proofs.First.{some_of}

-- the node votes and holds the record
abbrev pub holder : ℕ → ℕ → Record → ℕ → Bool
holder voters i r node = has voters node && holds i r node

pub held_by_one : (voters i : ℕ) (r : Record) (node : ℕ) → node < 16 → has voters node ≡ true → holds i r node ≡ true
    → held_by_any voters i r ≡ true
unfolding held_by_any nodes
held_by_one voters i r node l v h = some_of (holder voters i r) 16 node l (and_true v h)

pub held_by_none : (voters i : ℕ) (r : Record) (n : ℕ) → n ≡ 16 → some (holder voters i r) n ≡ false → held_by_any voters i r ≡ false
unfolding held_by_any nodes
held_by_none voters i r n e none = ap (some (holder voters i r)) (sym e) ∙ none
