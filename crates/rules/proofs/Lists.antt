-- What `every`, `some`, `count` and `entries` say, in the words that the library has for lists; and how long a path is at most.
use Prim.Native.Nat.{ℕ, zero, suc, ◌+◌, ◌≤◌}
use native.Mathlib.Omega.{arith}
use mathlib.Core.Path.{◌≡◌, refl, sym, ap, ◌∙◌}
use mathlib.Core.Bool.{Bool, true, false, cond, ◌&&◌, ◌||◌, and-true, and_assoc}
use mathlib.Core.List.{List, [], ◌∷◌}
use lib.ListN.{length, get_or}
use Rattle.std.specs.List.{filter, list_all, list_any, enumerate_from}
use Rattle.std.proofs.Math.Bool.{or_assoc}
use Rattle.rules.specs.declared.Record.{Record}
use Rattle.rules.specs.First.{count, every, some}
use Rattle.rules.specs.Records.{at, is_entry}
use Rattle.rules.specs.Tree.{path_of, path}
use Rattle.rules.specs.State.{entries}
use Rattle.rules.proofs.Bools.{or_nothing}
use Rattle.rules.proofs.First.{one}

-- the first number apart from the others
every_front : (q : ℕ → Bool) (n : ℕ) → every q (suc n) ≡ q zero && every (λ i. q (suc i)) n
every_front q zero = sym (and-true (q zero))
every_front q (suc n) =
    ap (λ b. b && q (suc n)) (every_front q n) ∙ and_assoc (q zero) (every (λ i. q (suc i)) n) (q (suc n))

count_front : (q : ℕ → Bool) (n : ℕ) → count q (suc n) ≡ one (q zero) + count (λ i. q (suc i)) n
count_front q zero = omega arith
count_front q (suc n) = omega (arith, count_front q n)

-- the elements' numbers, counted from one more
numbered_more : {X : Type 0} (p : ℕ → X → Bool) (n : ℕ) (xs : List X)
    → list_all (λ q. p q.0 q.1) (enumerate_from (suc n) xs) ≡ list_all (λ q. p (suc q.0) q.1) (enumerate_from n xs)
numbered_more p n [] = refl
numbered_more p n (x ∷ xs) =
    let k : suc n + 1 ≡ suc (n + 1) = omega arith in
    ap (λ m. p (suc n) x && list_all (λ q. p q.0 q.1) (enumerate_from m xs)) k ∙ ap (λ b. p (suc n) x && b) (numbered_more p (n + 1) xs)

-- every element passes with its number, as `all` after `enumerate` tells it
pub every_numbered : {X : Type 0} (d : X) (p : ℕ → X → Bool) (xs : List X)
    → every (λ i. p i (get_or xs i d)) (length xs) ≡ list_all (λ q. p q.0 q.1) (enumerate_from 0 xs)
every_numbered d p [] = refl
every_numbered d p (x ∷ xs) =
    every_front (λ i. p i (get_or (x ∷ xs) i d)) (length xs)
    ∙ ap (λ b. p 0 x && b) (every_numbered d (λ i. p (suc i)) xs ∙ sym (numbered_more p 0 xs))

-- some element of a list passes, as `any` tells it
pub some_any : {X : Type 0} (d : X) (p : X → Bool) (xs : List X) → some (λ i. p (get_or xs i d)) (length xs) ≡ list_any p xs
some_any d p [] = refl
some_any d p (x ∷ xs) =
    front (λ i. p (get_or (x ∷ xs) i d)) (length xs) ∙ ap (λ b. p x || b) (some_any d p xs)
  where
    front : (q : ℕ → Bool) (n : ℕ) → some q (suc n) ≡ q zero || some (λ i. q (suc i)) n
    front q zero = sym (or_nothing (q zero))
    front q (suc n) = ap (λ b. b || q (suc n)) (front q n) ∙ or_assoc (q zero) (some (λ i. q (suc i)) n) (q (suc n))

-- how many elements pass, as `count` after `filter` tells it
pub count_filter : {X : Type 0} (d : X) (p : X → Bool) (xs : List X)
    → count (λ i. p (get_or xs i d)) (length xs) ≡ length (filter p xs)
count_filter d p [] = refl
count_filter d p (x ∷ xs) =
    count_front (λ i. p (get_or (x ∷ xs) i d)) (length xs)
    ∙ ap (λ n. one (p x) + n) (count_filter d p xs)
    ∙ elim (p x) as (λ b. one b + length (filter p xs) ≡ length (cond b (x ∷ filter p xs) (filter p xs))) [ true ↦ omega arith | false ↦ omega arith ]

-- the entries of a list of records are those that pass
pub entries_filter : (records : List Record) (p : List ℕ) → entries records p ≡ filter (λ j. is_entry (at records j)) p
entries_filter records [] = refl
entries_filter records (i ∷ up) = ap (λ (l : List ℕ). cond (is_entry (at records i)) (i ∷ l) l) (entries_filter records up)

-- a path has no more records than steps
pub steps_few : (records : List Record) (steps i : ℕ) → length (path_of records steps i) ≤ steps
steps_few records zero i = omega arith
steps_few records (suc steps) zero = omega arith
steps_few records (suc steps) (suc i) = omega (arith, steps_few records steps (at records (suc i)).parent)

-- nor than there are
pub path_few : (records : List Record) (i : ℕ) → length (path records i) ≤ length records
unfolding path
path_few records i = steps_few records (length records) i
