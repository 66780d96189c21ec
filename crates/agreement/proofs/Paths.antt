-- Laws of paths and of the order "above", for any tree.
use mathlib.Core.Path.{◌≡◌, refl}
use mathlib.Core.Logic.{◌⊎◌, inl, inr}
use Prim.Native.Nat.{ℕ, ◌≤◌, ◌<◌}
use native.Mathlib.Omega.{arith}
use Rattle.agreement.specs.Tree.{Tree, commit, On, here, up, Below, by_time, by_version, by_commit}
use Rattle.agreement.specs.Steps.{Keeps}

module _ {par : ℕ → ℕ} where
  pub On-trans : {a b c : ℕ} → On par a b → On par b c → On par a c
  On-trans p here = p
  On-trans p (up q) = up (On-trans p q)

  -- what is on a record's path is the record or on its parent's path
  pub On-last : {a b : ℕ} → On par a b → (a ≡ b) ⊎ On par a (par b)
  On-last here = inl refl
  On-last (up p) = inr p

  -- what is on the parent's path is on the record's
  pub On-up : {a b p : ℕ} → par b ≡ p → On par a p → On par a b
  On-up {b} e q = up {b = b} (rw e q)

  -- equal records are on one another's paths
  pub On-same : {a b : ℕ} → a ≡ b → On par a b
  On-same e = rw e here

  -- where parents are below m, so is a whole path
  pub On-known : {m a b : ℕ} → ((i : ℕ) → i < m → par i < m) → On par a b → b < m → a < m
  On-known f here h = h
  On-known f (up {b = b} p) h = On-known f p (f b h)

-- the order goes by time first, and at one time by version first
module _ {Conf : Type 0} {T : Tree Conf} {a b : ℕ} where
  pub Below-time : Below T a b → T.time a ≤ T.time b
  Below-time (by_time h) = omega arith
  Below-time (by_version h k) = omega arith
  Below-time (by_commit h k s s') = omega arith

  pub Below-version : Below T a b → T.time a ≡ T.time b → T.version a ≤ T.version b
  Below-version (by_time h) e = omega arith
  Below-version (by_version h k) e = omega arith
  Below-version (by_commit h k s s') e = omega arith

-- only times, versions and being a commit count
pub Below-like : {Conf : Type 0} {T T' : Tree Conf} {a b a' b' : ℕ} →
    T'.time a' ≡ T.time a → T'.version a' ≡ T.version a → (¬ (T'.sort a' ≡ commit) → ¬ (T.sort a ≡ commit)) →
    T'.time b' ≡ T.time b → T'.version b' ≡ T.version b → (T'.sort b' ≡ commit → T.sort b ≡ commit) →
    Below T' a' b' → Below T a b
Below-like t v s t' v' s' (by_time l) = by_time (omega arith)
Below-like t v s t' v' s' (by_version e l) = by_version (omega arith) (omega arith)
Below-like t v s t' v' s' (by_commit e l f g) = by_commit (omega arith) (omega arith) (s f) (s' g)

-- so records that are kept keep their order
pub Below-kept : {Conf : Type 0} {T T' : Tree Conf} {n a b : ℕ} → Keeps T T' n → a < n → b < n → Below T' a b → Below T a b
Below-kept {a} {b} k h l =
    Below-like (k.time a h) (k.version a h) (rw (k.sort a h) (λ s. s)) (k.time b l) (k.version b l) (rw (k.sort b l) (λ s. s))

module _ {Conf : Type 0} {T : Tree Conf} where
  pub Below-irrefl : {a : ℕ} → ¬ Below T a a
  Below-irrefl (by_time h) = omega arith
  Below-irrefl (by_version h k) = omega arith
  Below-irrefl (by_commit h k s s') = s s'

  pub Below-trans : {a b c : ℕ} → Below T a b → Below T b c → Below T a c
  Below-trans (by_time h) (by_time h') = by_time (omega arith)
  Below-trans (by_time h) (by_version h' k') = by_time (omega arith)
  Below-trans (by_time h) (by_commit h' k' s' t') = by_time (omega arith)
  Below-trans (by_version h k) (by_time h') = by_time (omega arith)
  Below-trans (by_version h k) (by_version h' k') = by_version (omega arith) (omega arith)
  Below-trans (by_version h k) (by_commit h' k' s' t') = by_version (omega arith) (omega arith)
  Below-trans (by_commit h k s t) (by_time h') = by_time (omega arith)
  Below-trans (by_commit h k s t) (by_version h' k') = by_version (omega arith) (omega arith)
  Below-trans (by_commit h k s t) (by_commit h' k' s' t') = absurd (s' t)
