-- The case distinctions that the proofs make.
use mathlib.Core.Path.{◌≡◌, refl}
use mathlib.Core.Logic.{◌⊎◌, inl, inr, ⊎_elim}
use Prim.Native.Nat.{ℕ, zero, suc, ◌<◌}
use native.Mathlib.Decide.{ℕ_discrete, dec_lt}
use native.Mathlib.Omega.{arith}
use Rattle.agreement.specs.Tree.{Sort, election, command, change, commit}

-- a number is 0 or above 0
pub zero_or_more : (i : ℕ) → (i ≡ 0) ⊎ (0 < i)
zero_or_more zero = inl refl
zero_or_more (suc i) = inr (omega arith)

-- what does not hold of 0 holds of numbers above 0 only
pub above_zero : (P : ℕ → Type 0) → ¬ P 0 → (i : ℕ) → P i → 0 < i
above_zero P z zero p = absurd (z p)
above_zero P z (suc i) p = omega arith

-- how two numbers compare
pub data Compared (a b : ℕ) : Type 0 where
  less : a < b → Compared a b
  same : a ≡ b → Compared a b
  more : b < a → Compared a b

pub compared : (a b : ℕ) → Compared a b
compared a b = go (dec_lt a b) (dec_lt b a)
  where
    go : Dec (a < b) → Dec (b < a) → Compared a b
    go (yes h) d = less h
    go (no h) (yes k) = more k
    go (no h) (no k) = same (omega arith)

pub equal_or_not : (a b : ℕ) → (a ≡ b) ⊎ ¬ (a ≡ b)
equal_or_not a b = go (ℕ_discrete a b)
  where
    go : Dec (a ≡ b) → (a ≡ b) ⊎ ¬ (a ≡ b)
    go (yes h) = inl h
    go (no h) = inr h

pub less_or_same : {a b : ℕ} → a < suc b → (a < b) ⊎ (a ≡ b)
less_or_same {a} {b} h = go (compared a b)
  where
    go : Compared a b → (a < b) ⊎ (a ≡ b)
    go (less k) = inl k
    go (same e) = inr e
    go (more k) = absurd (omega arith)

-- what holds below n and at n holds below suc n
pub below_suc : (P : ℕ → Type 0) (n : ℕ) → ((i : ℕ) → i < n → P i) → P n → (i : ℕ) → i < suc n → P i
below_suc P n old new i h = ⊎_elim (old i) (λ e. rw e new) (less_or_same h)

-- and so for two numbers
pub below_suc₂ : (P : ℕ → ℕ → Type 0) (n : ℕ) → ((i j : ℕ) → i < n → j < n → P i j) → ((i : ℕ) → i < n → P i n) →
    ((j : ℕ) → j < n → P n j) → P n n → (i j : ℕ) → i < suc n → j < suc n → P i j
below_suc₂ P n old left right new i j h k =
    below_suc (λ a. P a j) n
    (λ a l. below_suc (P a) n (λ b m. old a b l m) (left a l) j k)
    (below_suc (P n) n right new j k) i h

-- no record has two sorts
pub election_or_commit : {s : Sort} → s ≡ election → ¬ (s ≡ commit)
election_or_commit e f = let z : ◌≡◌ {A = ℕ} 0 1 = cc in omega arith

pub command_or_election : {s : Sort} → s ≡ command → ¬ (s ≡ election)
command_or_election e f = let z : ◌≡◌ {A = ℕ} 0 1 = cc in omega arith

pub command_or_commit : {s : Sort} → s ≡ command → ¬ (s ≡ commit)
command_or_commit e f = let z : ◌≡◌ {A = ℕ} 0 1 = cc in omega arith

pub change_or_election : {s : Sort} → s ≡ change → ¬ (s ≡ election)
change_or_election e f = let z : ◌≡◌ {A = ℕ} 0 1 = cc in omega arith

pub change_or_commit : {s : Sort} → s ≡ change → ¬ (s ≡ commit)
change_or_commit e f = let z : ◌≡◌ {A = ℕ} 0 1 = cc in omega arith

pub commit_or_not : (s : Sort) → (s ≡ commit) ⊎ ¬ (s ≡ commit)
commit_or_not election = inr (election_or_commit refl)
commit_or_not command = inr (command_or_commit refl)
commit_or_not change = inr (change_or_commit refl)
commit_or_not commit = inl refl
