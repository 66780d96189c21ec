-- All commits lie on the latest commit's path exactly where that path has as many commits as there are.
-- A path has no record twice, so counting along it is counting the records on it.
use Prim.Native.Nat.{ℕ, zero, suc, ◌+◌, ◌≤◌, ◌<◌}
use native.Mathlib.Nat.{not-suc-le-zero}
use native.Mathlib.Decide.{ℕ_discrete}
use native.Mathlib.Omega.{arith}
use mathlib.Core.Path.{◌≡◌, refl, sym, ap, ap₂, ◌∙◌}
use mathlib.Core.Bool.{Bool, true, false, cond, ◌&&◌, ◌||◌}
use mathlib.Core.List.{List, [], ◌∷◌}
use borrow.Author.Tests.{eq-eqb, ne_eqb}
use lib.Dec.{eqb}
use lib.ListN.{length, take}
use lib.Seq.{get_or-take}
use Rattle.std.specs.List.{filter}
use Rattle.rules.specs.declared.Record.{Record}
use Rattle.rules.specs.First.{count}
use Rattle.rules.specs.Records.{blank, at, is_commit}
use Rattle.rules.specs.Tree.{path_of, path, among, on_path, latest_commit}
use Rattle.rules.specs.State.{one_branch}
use Rattle.rules.proofs.Bools.{or_right, or_left, and_false_right}
use Rattle.rules.proofs.First.{one, count_same, count_none, count_within, some_false}
use Rattle.rules.proofs.Latest.{latest_commit_known}
use Rattle.rules.proofs.Paths.{Rising, Once, path_once, path_known}
use Rattle.paths.proofs.Shown.{Below, steps_below, path_shown}
use Rattle.tables.specs.Table.{commits_in, commits_along}

-- one number more in a list that lacks it is one place more
count_one : (p q : ℕ → Bool) (x n : ℕ) → x < n → q x ≡ false
    → count (λ j. p j && (eqb j x || q j)) n ≡ one (p x) + count (λ j. p j && q j) n
count_one p q x zero l out = absurd (not-suc-le-zero l)
count_one p q x (suc n) l out = go (λ m. count_one p q x n m out) (ℕ_discrete x n)
  where
    go : (x < n → count (λ j. p j && (eqb j x || q j)) n ≡ one (p x) + count (λ j. p j && q j) n) → Dec (x ≡ n)
        → count (λ j. p j && (eqb j x || q j)) (suc n) ≡ one (p x) + count (λ j. p j && q j) (suc n)
    go rest (yes e) =
        omega (
          arith,
          count_same (λ j. p j && (eqb j x || q j)) (λ j. p j && q j) n (λ j h. ap (λ b. p j && (b || q j)) (ne_eqb j x (omega arith))),
          ap one (ap (λ b. p n && (b || q n)) (eq-eqb n x (sym e)) ∙ and_true' (p n)),
          ap one (and_false_right (p n) (ap q (sym e) ∙ out)),
          ap (λ k. one (p k)) e,
        )
      where
        and_true' : (b : Bool) → b && true ≡ b
        and_true' true = refl
        and_true' false = refl
    go rest (no d) = omega (arith, rest (omega arith), ap (λ b. one (p n && (b || q n))) (ne_eqb n x (λ e. d (sym e))))

-- the commits along a list are those that pass the filter
pub commits_filter : (records : List Record) (xs : List ℕ) → length (filter (λ j. is_commit (at records j)) xs) ≡ commits_along records xs
commits_filter records [] = refl
commits_filter records (x ∷ xs) =
    elim (is_commit (at records x)) as (λ b. length (cond b (x ∷ filter (λ j. is_commit (at records j)) xs) (filter (λ j. is_commit (at records j)) xs)) ≡ cond b 1 0 + commits_along records xs) [
      | true ↦ omega (arith, commits_filter records xs)
      | false ↦ omega (arith, commits_filter records xs)
    ]

-- counting along a list that has no number twice is counting what is in it
along : (records : List Record) (xs : List ℕ) (n : ℕ) → Once xs → ((j : ℕ) → among j xs ≡ true → j < n)
    → commits_along records xs ≡ count (λ j. is_commit (at records j) && among j xs) n
along records [] n once known =
    sym (count_none (λ j. is_commit (at records j) && false) n (some_false (λ j. is_commit (at records j) && false) n (λ j l. and_false_right (is_commit (at records j)) refl)))
along records (x ∷ xs) n once known =
    ap (λ m. one (is_commit (at records x)) + m) (along records xs n once.1 (λ j e. known j (or_right (eqb j x) e)))
    ∙ sym (count_one (λ j. is_commit (at records j)) (λ j. among j xs) x n (known x (or_left (among x xs) (eq-eqb x x refl))) once.0)

pub branch_count : (records : List Record) → Rising records → 0 < length records
    → one_branch records ≡ eqb (commits_along records (path records (latest_commit records))) (commits_in records)
unfolding one_branch on_path commits_in
branch_count records up l =
    let last = latest_commit records in
    let here = latest_commit_known records l in
    count_within (λ j. is_commit (at records j)) (λ j. among j (path records last)) (length records)
    ∙ ap (λ m. eqb m (count (λ j. is_commit (at records j)) (length records)))
    (sym (along records (path records last) (length records) (path_once records up last here) (path_known records up last here)))

-- the array and the table have the same commits along numbers below n
same_commits : (rs : List Record) (n : ℕ) (p : List ℕ) → Below n p → commits_along rs p ≡ commits_along (take n rs) p
same_commits rs n [] h = refl
same_commits rs n (i ∷ p) h =
    ap₂ (λ (r : Record) (m : ℕ). cond (is_commit r) 1 0 + m) (sym (get_or-take n rs i blank h.0)) (same_commits rs n p h.1)

-- so a path in the array has the commits of the path in the table
pub commits_shown : (rs : List Record) (n : ℕ) (fits : n ≤ length rs) (up : Rising (take n rs)) (i : ℕ) → i < n
    → commits_along rs (path_of rs n i) ≡ commits_along (take n rs) (path (take n rs) i)
commits_shown rs n fits up i l =
    same_commits rs n (path_of rs n i) (steps_below rs n fits up n i l) ∙ ap (commits_along (take n rs)) (path_shown rs n fits up i l)
