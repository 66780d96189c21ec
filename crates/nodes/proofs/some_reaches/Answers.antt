-- The chain tests every clock with its node, from the front; the definition goes by the number of nodes.
use Prim.Native.Nat.{ℕ, zero, suc, ◌≤◌}
use native.Mathlib.Nat.{zero-add}
use native.Mathlib.Numerals.{add-one}
use native.Mathlib.Omega.{arith}
use mathlib.Core.Path.{◌≡◌, refl, sym, ap, ◌∙◌}
use mathlib.Core.Bool.{Bool, ◌&&◌}
use mathlib.Core.List.{List}
use lib.Dec.{leb}
use lib.ListN.{length, get_or, take}
use Rattle.std.proofs.Common.{rules, tests}
use Rattle.std.proofs.lemmas.Iterator.{YieldsList-from_slice}
use Rattle.std.proofs.lemmas.Iterator.Consumers.{YieldsList-from_enumerate}
use Rattle.std.proofs.lemmas.Iterator.Search.{any_from_yields_List}
use Rattle.std.proofs.lemmas.List.{take_all}
use Rattle.std.proofs.lemmas.List.Folds.{list_any_more}
use Rattle.std.proofs.lemmas.List.FromFn.{length-enumerate_from, get_or-enumerate_from}
use Rattle.std.specs.List.{list_any, enumerate_from}
use Rattle.rules.specs.First.{some}
use Rattle.rules.specs.Nodes.{nodes, has}
use Rattle.rules.specs.Clocks.{some_at_or_past}
use Rattle.nodes.proofs.some_reaches.Goals as goal

-- among the first n items of a numbered list
some_taken : (p : ℕ × ℕ → Bool) (xs : List ℕ) (n : ℕ) → n ≤ length xs
    → list_any p (take n (enumerate_from 0 xs)) ≡ some (λ i. p (i, get_or xs i 0)) n
some_taken p xs zero l = refl
some_taken p xs (suc n) l =
    rw add-one at (list_any_more p (enumerate_from 0 xs) n (0, 0) (omega (arith, length-enumerate_from 0 xs)))
    ∙ rw (some_taken p xs n (omega arith), get_or-enumerate_from 0 xs n (0, 0) l, zero-add)

-- and among all
some_numbered : (p : ℕ × ℕ → Bool) (xs : List ℕ) (n : ℕ) → length xs ≡ n
    → list_any p (enumerate_from 0 xs) ≡ some (λ i. p (i, get_or xs i 0)) n
some_numbered p xs n e =
    ap (list_any p) (sym (take_all n (enumerate_from 0 xs) (omega (arith, length-enumerate_from 0 xs))))
    ∙ some_taken p xs n (omega arith)

-- the node votes, and its clock is at or past the limit
abbrev reaches : ℕ → ℕ → ℕ × ℕ → Bool
reaches voters limit x = has voters x.0 && leb limit x.1

pub returns : goal.returns
unfolding some_at_or_past nodes
returns c =
    let s = c.args in
    let test = reaches s.voters s.limit in
    any_from_yields_List test _ _ _ c.any.ensures.ran
    (YieldsList-from_enumerate (YieldsList-from_slice s.clocks (cc)) (cc))
    (λ x b q k. (search rules, search (rules, tests)))
    ∙ some_numbered test s.clocks 16 (omega arith)
