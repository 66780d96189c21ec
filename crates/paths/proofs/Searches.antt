-- What each search says of a path: that it meets a record that passes a test, or what the first commit or change met says.
use Rattle.std.proofs.Common.{◌≡◌, ℕ, ◌&&◌, ◌||◌, List, [], ◌∷◌, map, refl, ap}
use Rattle.std.proofs.Math.Dec.{eqb}
use Rattle.std.specs.List.{list_any}
use Rattle.rules.specs.declared.Record.{Record}
use Rattle.rules.specs.Records.{at, is_commit}
use Rattle.rules.specs.Tree.{among, commit_along}

-- a number is in a list where some number of it is that one
pub among_any : (a : ℕ) (p : List ℕ) → among a p ≡ list_any (λ j. eqb a j) p
among_any a [] = refl
among_any a (i ∷ up) = ap (λ b. eqb a i || b) (among_any a up)

-- a path has a commit of the time where some record of it is one
pub commit_any : (records : List Record) (time : ℕ) (p : List ℕ)
    → commit_along records time p ≡ list_any (λ r. is_commit r && eqb r.time time) (map (λ j. at records j) p)
commit_any records time [] = refl
commit_any records time (i ∷ up) = ap (λ b. (is_commit (at records i) && eqb (at records i).time time) || b) (commit_any records time up)
