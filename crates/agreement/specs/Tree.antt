-- Records as plain functions of their numbers, the path from a record by parents, and the order "above".
use Rattle.std.specs.Prelude.{◌≡◌, ℕ, ◌<◌}

pub data Sort : Type 0 where
  election command change commit : Sort

-- the voters are read of elections and commits only; how many records there are is said elsewhere
pub record Tree (Conf : Type 0) : Type 0 where
  pub parent : ℕ → ℕ
  pub caller : ℕ → ℕ
  pub time : ℕ → ℕ
  pub version : ℕ → ℕ
  pub sort : ℕ → Sort
  pub voters : ℕ → ℕ
  pub conf : ℕ → Conf

-- record a is on the path of a record, itself included
pub data On (par : ℕ → ℕ) (a : ℕ) : ℕ → Type 0 where
  here : On par a a
  up : {b : ℕ} → On par a (par b) → On par a b

infix 30 ◌⊢◌⊑◌
-- record a is on record b's path in the tree
abbrev pub ◌⊢◌⊑◌ : {Conf : Type 0} → Tree Conf → ℕ → ℕ → Type 0
T ⊢ a ⊑ b = On T.parent a b

-- record a is below record b: by time, then by version, then a commit is above a record that is none
pub data Below {Conf : Type 0} (T : Tree Conf) (a b : ℕ) : Type 0 where
  by_time : T.time a < T.time b → Below T a b
  by_version : T.time a ≡ T.time b → T.version a < T.version b → Below T a b
  by_commit : T.time a ≡ T.time b → T.version a ≡ T.version b → ¬ (T.sort a ≡ commit) → T.sort b ≡ commit → Below T a b
