-- What is written to a log: the entries that a walk has before it, and each of its numbers fits.
use Rattle.std.proofs.Common.{ℕ, zero, suc, ◌<◌, ◌≤◌, ◌≡◌, ◌⊎◌, inl, inr, List, [], ◌∷◌, length, refl, sym, ap}
use borrow.Author.Tests.{eq-eqb}
use lib.Seq.{set_out}
use Rattle.rules.specs.declared.Record.{Record}
use Rattle.rules.specs.Records.{at}
use Rattle.rules.specs.Tree.{path_of, path}
use Rattle.rules.specs.State.{entries}
use Rattle.rules.specs.Proposals.{before}
use Rattle.moves.specs.Moves.{written}

-- the first number of a list is a u8, and so is each further one where the parent of the record before is
abbrev pub Small : List Record → List ℕ → Type 0
Small records [] = Unit {0}
Small records (j ∷ p) = (j < 256) × ((at records j).parent < 256 → Small records p)

module _ (records : List Record) where
  pub walk_small : (steps i : ℕ) → i < 256 → Small records (path_of records steps i)
  walk_small zero i l = tt
  walk_small (suc steps) zero l = (l, λ _. tt)
  walk_small (suc steps) (suc i) l = (l, λ m. walk_small steps (at records (suc i)).parent m)

  pub path_small : (i : ℕ) → i < 256 → Small records (path records i)
  unfolding path
  path_small i l = walk_small (length records) i l

  pub rest_small : (j : ℕ) (p q : List ℕ) → Small records p → p ≡ j ∷ q → (at records j).parent < 256 → Small records q
  rest_small j p q h e l = (rw e at h).1 l

-- the log stays as it is where the walk comes to the stop, and where no place is left
pub written_none : (records : List Record) (log whole : List ℕ) (stop place j : ℕ) (p q : List ℕ)
    → whole ≡ written log place (entries records (before stop p)) → p ≡ j ∷ q → (j ≡ stop) ⊎ ((j ≡ stop → ⊥) × (place ≡ 0)) → log ≡ whole
written_none records log whole stop place j p q w e (inl h) = rw (w, e, eq-eqb stop j (sym h))
written_none records log whole stop place j p q w e (inr h) = rw (w, h.1) (full (entries records (before stop p)))
  where
    full : (xs : List ℕ) → log ≡ written log 0 xs
    full [] = refl
    full (i ∷ xs) = refl

-- a number whose place lies past the log is left out
pub written_past : (log : List ℕ) (place i : ℕ) (rest : List ℕ) → length log ≤ place → written log (suc place) (i ∷ rest) ≡ written log place rest
written_past log place i rest l = ap (λ k. written k place rest) (set_out log place i l)
