-- A walk up a path, step by step: a path is its first record and what lies onward, and what each search says of a path follows from what it
-- says of the part onward.
use Prim.Native.Nat.{ℕ, zero, suc, ◌-◌, ◌≤◌, ◌<◌}
use native.Mathlib.Nat.{not-suc-le-zero}
use native.Mathlib.Omega.{arith}
use mathlib.Core.Path.{◌≡◌, refl, sym, ap}
use mathlib.Core.Bool.{Bool, true, false, ◌&&◌, false≢true, true≢false}
use mathlib.Core.List.{List, [], ◌∷◌}
use borrow.Author.Tests.{eq-eqb, ne_eqb}
use lib.Dec.{eqb}
use Rattle.rules.specs.declared.Kind.{Kind}
use Rattle.rules.specs.declared.Kind.TheVariants.{Election, Command, Change, Commit}
use Rattle.rules.specs.declared.Record.{Record}
use Rattle.rules.specs.Records.{at, commit_kind, change_kind, is_commit, is_change}
use Rattle.rules.specs.Tree.{path_of, among, open_at, open_along, commit_along}

-- what a path has after its first record
abbrev pub onward : List Record → ℕ → ℕ → List ℕ
onward records left zero = []
onward records left (suc j) = path_of records (left - 1) (at records (suc j)).parent

-- no step is left
pub path_none : (records : List Record) (left j : ℕ) → left ≤ 0 → path_of records left j ≡ []
path_none records zero j l = refl
path_none records (suc left) j l = absurd (not-suc-le-zero l)

-- a step is left
pub path_first : (records : List Record) (left j : ℕ) → 0 < left → path_of records left j ≡ j ∷ onward records left j
path_first records zero j l = absurd (not-suc-le-zero l)
path_first records (suc left) zero l = refl
path_first records (suc left) (suc j) l =
    let e : left ≡ suc left - 1 = omega arith in
    ap (λ (k : ℕ). suc j ∷ path_of records k (at records (suc j)).parent) e

-- record 0 has nothing onward
pub onward_root : (records : List Record) (left j : ℕ) → j ≡ 0 → onward records left j ≡ []
onward_root records left j e = rw e

-- any other record has its parent's path there
pub onward_up : (records : List Record) (left j : ℕ) → (j ≡ 0 → ⊥) → onward records left j ≡ path_of records (left - 1) (at records j).parent
onward_up records left zero d = absurd (d refl)
onward_up records left (suc j) d = refl

module _ (records : List Record) (left j : ℕ) where
  -- The search for a record.

  pub among_here : (a : ℕ) → 0 < left → j ≡ a → among a (path_of records left j) ≡ true
  among_here a l e = rw (path_first records left j l, eq-eqb a j (sym e))

  pub among_on : (a : ℕ) → 0 < left → (j ≡ a → ⊥) → among a (path_of records left j) ≡ among a (onward records left j)
  among_on a l d = rw (path_first records left j l, ne_eqb a j (λ e. d (sym e)))

  -- The search for an open change.

  pub open_shut : 0 < left → is_commit (at records j) ≡ true → open_along records (path_of records left j) ≡ false
  open_shut l e = rw (path_first records left j l) (shut (at records j).kind (open_along records (onward records left j)) e)
    where
      shut : (kind : Kind) (further : Bool) → commit_kind kind ≡ true → open_at kind further ≡ false
      shut (Election voters) further e = absurd (false≢true e)
      shut (Command number) further e = absurd (false≢true e)
      shut Change further e = absurd (false≢true e)
      shut (Commit voters) further e = refl

  pub open_here : 0 < left → is_change (at records j) ≡ true → open_along records (path_of records left j) ≡ true
  open_here l e = rw (path_first records left j l) (here (at records j).kind (open_along records (onward records left j)) e)
    where
      here : (kind : Kind) (further : Bool) → change_kind kind ≡ true → open_at kind further ≡ true
      here (Election voters) further e = absurd (false≢true e)
      here (Command number) further e = absurd (false≢true e)
      here Change further e = refl
      here (Commit voters) further e = absurd (false≢true e)

  pub open_on : 0 < left → is_commit (at records j) ≡ false → is_change (at records j) ≡ false
      → open_along records (path_of records left j) ≡ open_along records (onward records left j)
  open_on l e f = rw (path_first records left j l) (on (at records j).kind (open_along records (onward records left j)) e f)
    where
      on : (kind : Kind) (further : Bool) → commit_kind kind ≡ false → change_kind kind ≡ false → open_at kind further ≡ further
      on (Election voters) further e f = refl
      on (Command number) further e f = refl
      on Change further e f = absurd (true≢false f)
      on (Commit voters) further e f = absurd (true≢false e)

  -- The search for a commit of a time.

  pub commit_here : (time : ℕ) → 0 < left → is_commit (at records j) && eqb (at records j).time time ≡ true
      → commit_along records time (path_of records left j) ≡ true
  commit_here time l e = rw (path_first records left j l, e)

  pub commit_on : (time : ℕ) → 0 < left → is_commit (at records j) && eqb (at records j).time time ≡ false
      → commit_along records time (path_of records left j) ≡ commit_along records time (onward records left j)
  commit_on time l e = rw (path_first records left j l, e)

-- the steps of a walk, for each of the three searches
pub ruleset among_steps = (path_none, onward_root, onward_up, among_here, among_on)

pub ruleset open_steps = (path_none, onward_root, onward_up, open_shut, open_here, open_on)

pub ruleset commit_steps = (path_none, onward_root, onward_up, commit_here, commit_on)
