-- The eleven marked cases of document 01, of the definitions themselves: one table under one statement.
use Rattle.std.specs.Prelude.{ℕ, ◌≡◌, refl, Bool, true, false, List, [], ◌∷◌, map}
use Rattle.std.proofs.Math.Bool.{xor}
use Rattle.rules.specs.declared.Kind.{Kind}
use Rattle.rules.specs.declared.Kind.TheVariants.{Election, Command, Commit}
use Rattle.rules.specs.declared.Record.{Record}
use Rattle.rules.specs.Nodes.{nodes, has, size, shared, differing, majority, one_step}
use Rattle.rules.specs.Records.{above}

-- a record of which only time, version and kind matter
pub dated : ℕ → ℕ → Kind → Record
dated time version kind = record { parent = 0; caller = 0; time = time; version = version; members = 1; kind = kind }

-- what a definition gives, and what document 01 says
pub record Case : Type 0 where
  pub gives : Bool
  pub says : Bool

abbrev case : Bool → Bool → Case
case a b = record { gives = a; says = b }

pub cases : List Case
cases =
    case (majority 11 15) true
    ∷ case (majority 9 15) false
    ∷ case (majority 3 7) true
    ∷ case (majority 1 1) true
    ∷ case (one_step 7 15) true
    ∷ case (one_step 7 5) true
    ∷ case (one_step 7 7) false
    ∷ case (one_step 7 13) false
    ∷ case (above (dated 1 2 (Command 0)) (dated 1 1 (Commit 1))) true
    ∷ case (above (dated 1 1 (Commit 1)) (dated 1 1 (Command 0))) true
    ∷ case (above (dated 2 0 (Election 1)) (dated 1 9 (Commit 1))) true
    ∷ []

pub marked : map (λ c. c.gives) cases ≡ map (λ c. c.says) cases
unfolding cases dated nodes has size shared differing majority one_step above xor
marked = refl
