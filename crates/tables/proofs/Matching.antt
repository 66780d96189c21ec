-- The log read from its end against the entries that a walk up a path meets, latest first.
use Prim.Native.Nat.{ℕ, zero, suc, ◌-◌, ◌≤◌, ◌<◌, min}
use native.Mathlib.Nat.{not-suc-le-zero, le_of_suc-le-suc, zero-min, suc-min-suc}
use native.Mathlib.Decide.{ℕ_discrete}
use native.Mathlib.Omega.{arith}
use mathlib.Core.Path.{◌≡◌, refl, sym, ap, ◌∙◌}
use mathlib.Core.Bool.{Bool, false, ◌&&◌, and-true, and-false, and_assoc}
use mathlib.Core.List.{List, [], ◌∷◌, ◌++◌, reverse, reverse-cons}
use borrow.Author.Tests.{eq-eqb, ne_eqb}
use lib.Dec.{eqb}
use lib.ListN.{length, take, get_or}
use lib.Seq.{take-suc, take-length}
use Rattle.std.specs.Cmp.Lexicographic.{pointwise}
use Rattle.std.proofs.lemmas.List.{reverse-append}
use Rattle.rules.specs.State.{same}
use Rattle.records.specs.Used.{used}

-- Two lists, compared from their ends.

same_short : (x : ℕ) (bs : List ℕ) → same [] (bs ++ (x ∷ [])) ≡ false
same_short x [] = refl
same_short x (b ∷ bs) = refl

same_long : (x : ℕ) (rest : List ℕ) → same (rest ++ (x ∷ [])) [] ≡ false
same_long x [] = refl
same_long x (a ∷ rest) = refl

same_last : (rest bs : List ℕ) (x y : ℕ) → same (rest ++ (x ∷ [])) (bs ++ (y ∷ [])) ≡ same rest bs && eqb x y
same_last [] [] x y = and-true (eqb x y)
same_last [] (b ∷ bs) x y = ap (λ (t : Bool). eqb x b && t) (same_short y bs) ∙ and-false (eqb x b)
same_last (a ∷ rest) [] x y = ap (λ (t : Bool). eqb a y && t) (same_long x rest) ∙ and-false (eqb a y)
same_last (a ∷ rest) (b ∷ bs) x y =
    ap (λ (t : Bool). eqb a b && t) (same_last rest bs x y) ∙ sym (and_assoc (eqb a b) (same rest bs) (eqb x y))

-- The log up to a place, against entries as a walk meets them, latest first.

abbrev pub matches : List ℕ → ℕ → List ℕ → Bool
matches log place xs = same (take place log) (reverse xs)

last_place : (log : List ℕ) (place : ℕ) → place < length log → reverse (take (suc place) log) ≡ get_or log place 0 ∷ reverse (take place log)
last_place log place l = rw (take-suc log place 0 l) (reverse-append (take place log) (get_or log place 0 ∷ []))

-- a list has no more to take than its length
take_min : (n m : ℕ) (log : List ℕ) → length log ≤ m → take (min n m) log ≡ take n log
take_min zero m log l = ap (λ (k : ℕ). take k log) (zero-min m)
take_min (suc n) m [] l = none (min (suc n) m)
  where
    none : (k : ℕ) → take {A = ℕ} k [] ≡ []
    none zero = refl
    none (suc k) = refl
take_min (suc n) zero (a ∷ log) l = absurd (not-suc-le-zero l)
take_min (suc n) (suc m) (a ∷ log) l =
    ap (λ (k : ℕ). take k (a ∷ log)) (suc-min-suc n m) ∙ ap (λ (t : List ℕ). a ∷ t) (take_min n m log (le_of_suc-le-suc l))

-- a log of 256 places is read from the last place in use
pub match_used : (log : List ℕ) (n : ℕ) (xs : List ℕ) → length log ≡ 256 → matches log n xs ≡ matches log (used n) xs
unfolding used
match_used log n xs e = ap (λ (t : List ℕ). same t (reverse xs)) (sym (take_min n 256 log (omega (arith, e))))

-- no entry is left: they match where no number of the log is left either
pub match_none : (log : List ℕ) (place : ℕ) → place ≤ length log → matches log place [] ≡ eqb place 0
match_none log zero l = refl
match_none [] (suc place) l = absurd (not-suc-le-zero l)
match_none (a ∷ log) (suc place) l = sym (ne_eqb (suc place) 0 (λ e. omega arith))

-- the log has nothing left for the entry
pub match_over : (log : List ℕ) (place x : ℕ) (xs : List ℕ) → place ≡ 0 → matches log place (x ∷ xs) ≡ false
match_over log place x xs e = rw e (ap (same []) (reverse-cons x xs) ∙ same_short x (reverse xs))

-- else its last number is compared with it
match_last : (log : List ℕ) (place x : ℕ) (xs : List ℕ) → place ≤ length log → (place ≡ 0 → ⊥)
    → matches log place (x ∷ xs) ≡ matches log (place - 1) xs && eqb (get_or log (place - 1) 0) x
match_last log zero x xs l d = absurd (d refl)
match_last log (suc place) x xs l d =
    let p : place ≡ suc place - 1 = omega arith in
    rw (take-suc log place 0 l, reverse-cons x xs) (same_last (take place log) (reverse xs) (get_or log place 0) x)
    ∙ ap (λ (k : ℕ). matches log k xs && eqb (get_or log k 0) x) p

-- another number does not match
pub match_other : (log : List ℕ) (place x : ℕ) (xs : List ℕ) → place ≤ length log → (place ≡ 0 → ⊥)
    → (get_or log (place - 1) 0 ≡ x → ⊥) → matches log place (x ∷ xs) ≡ false
match_other log place x xs l d f =
    match_last log place x xs l d
    ∙ ap (λ (t : Bool). matches log (place - 1) xs && t) (ne_eqb (get_or log (place - 1) 0) x f)
    ∙ and-false (matches log (place - 1) xs)

-- the entry's own does, and the place before it is next
pub match_on : (log : List ℕ) (place here x : ℕ) (xs : List ℕ) → place ≤ length log → (place ≡ 0 → ⊥)
    → get_or log (place - 1) 0 ≡ x → here ≡ place - 1 → matches log place (x ∷ xs) ≡ matches log here xs
match_on log place here x xs l d e q =
    match_last log place x xs l d
    ∙ ap (λ (t : Bool). matches log (place - 1) xs && t) (eq-eqb (get_or log (place - 1) 0) x e)
    ∙ and-true (matches log (place - 1) xs)
    ∙ ap (λ (k : ℕ). matches log k xs) (sym q)

-- So the numbers from the last place on are compared, one by one, with the entries.
backwards : (log : List ℕ) (place : ℕ) (xs : List ℕ) → place ≤ length log
    → pointwise eqb xs (reverse (take place log)) ≡ matches log place xs
backwards log zero [] l = sym (match_none log zero l)
backwards log zero (x ∷ xs) l = sym (match_over log zero x xs refl)
backwards log (suc place) [] l =
    rw (last_place log place l) (sym (match_none log (suc place) l ∙ ne_eqb (suc place) 0 (λ e. omega arith)))
backwards log (suc place) (x ∷ xs) l =
    rw (last_place log place l) (go (backwards log place xs (omega arith)) (ℕ_discrete (get_or log place 0) x))
  where
    k : place ≡ suc place - 1
    k = omega arith

    go : pointwise eqb xs (reverse (take place log)) ≡ matches log place xs → Dec (get_or log place 0 ≡ x)
        → eqb x (get_or log place 0) && pointwise eqb xs (reverse (take place log)) ≡ matches log (suc place) (x ∷ xs)
    go rest (yes e) =
        rw (eq-eqb x (get_or log place 0) (sym e)) rest
        ∙ sym (match_on log (suc place) place x xs l (λ z. omega arith) (ap (λ n. get_or log n 0) (sym k) ∙ e) k)
    go rest (no d) =
        rw (ne_eqb x (get_or log place 0) (λ e. d (sym e))) (sym (match_other log (suc place) x xs l (λ z. omega arith) (λ e. d (ap (λ n. get_or log n 0) k ∙ e))))

pub read_back : (log : List ℕ) (xs : List ℕ) → pointwise eqb xs (reverse log) ≡ same log (reverse xs)
read_back log xs =
    ap (λ l. pointwise eqb xs (reverse l)) (sym (take-length log))
    ∙ backwards log (length log) xs (omega arith)
    ∙ ap (λ l. same l (reverse xs)) (take-length log)
