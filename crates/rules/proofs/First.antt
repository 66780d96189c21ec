-- Of the first n numbers: what `every` and `some` say of each, and how `count` compares.
use Prim.Native.Nat.{ℕ, zero, suc, ◌+◌, ◌≤◌, ◌<◌}
use native.Mathlib.Nat.{not-suc-le-zero}
use native.Mathlib.Decide.{ℕ_discrete}
use native.Mathlib.Numerals.{add-one}
use native.Mathlib.Omega.{arith}
use mathlib.Core.Path.{◌≡◌, refl, sym, ap, ap₂, subst, ◌∙◌}
use mathlib.Core.Logic.{⊎_elim}
use mathlib.Core.Bool.{Bool, true, false, cond, not, ◌&&◌, ◌||◌, true≢false, false≢true}
use borrow.Author.Tests.{eq-eqb, ne_eqb}
use lib.Dec.{eqb}
use Rattle.rules.specs.First.{count, every, some}
use Rattle.rules.proofs.Bools.{tested, torn, and_left, and_right, and_true, and_fails, and_false_right, or_cases, or_false, or_none_left, or_none_right, if_then, not_then}

-- what holds of each number below n, and of n, holds of each below suc n
pub below_suc : (P : ℕ → Type 0) (n : ℕ) → ((i : ℕ) → i < n → P i) → P n → (i : ℕ) → i < suc n → P i
below_suc P n old new i l = go (ℕ_discrete i n)
  where
    go : Dec (i ≡ n) → P i
    go (yes e) = subst P (sym e) new
    go (no d) = old i (omega arith)

pub every_at : (p : ℕ → Bool) (n : ℕ) → every p n ≡ true → (i : ℕ) → i < n → p i ≡ true
every_at p zero e i l = absurd (not-suc-le-zero l)
every_at p (suc n) e i l =
    below_suc (λ (k : ℕ). p k ≡ true) n
    (λ k m. every_at p n (and_left (every p n) (p n) e) k m)
    (and_right (every p n) (p n) e)
    i
    l

pub every_of : (p : ℕ → Bool) (n : ℕ) → ((i : ℕ) → i < n → p i ≡ true) → every p n ≡ true
every_of p zero h = refl
every_of p (suc n) h = and_true (every_of p n (λ i l. h i (omega arith))) (h n (omega arith))

pub every_fails : (p : ℕ → Bool) (n : ℕ) → every p n ≡ false → (i : ℕ) × (i < n) × (p i ≡ false)
every_fails p zero e = absurd (true≢false e)
every_fails p (suc n) e =
    ⊎_elim
    (λ q. (n, omega arith, and_fails (every p n) (p n) e q))
    (λ q. let f = every_fails p n q in (f.0, omega arith, f.2))
    (tested (every p n))

pub some_at : (p : ℕ → Bool) (n : ℕ) → some p n ≡ true → (i : ℕ) × (i < n) × (p i ≡ true)
some_at p zero e = absurd (false≢true e)
some_at p (suc n) e =
    ⊎_elim (λ q. let f = some_at p n q in (f.0, omega arith, f.2)) (λ q. (n, omega arith, q)) (or_cases (some p n) (p n) e)

pub some_none : (p : ℕ → Bool) (n : ℕ) → some p n ≡ false → (i : ℕ) → i < n → p i ≡ false
some_none p zero e i l = absurd (not-suc-le-zero l)
some_none p (suc n) e i l =
    below_suc (λ (k : ℕ). p k ≡ false) n
    (λ k m. some_none p n (or_none_left (some p n) (p n) e) k m)
    (or_none_right (some p n) (p n) e)
    i
    l

pub some_of : (p : ℕ → Bool) (n i : ℕ) → i < n → p i ≡ true → some p n ≡ true
some_of p n i l e = ⊎_elim (λ q. q) (λ q. absurd (torn e (some_none p n q i l))) (tested (some p n))

pub some_false : (p : ℕ → Bool) (n : ℕ) → ((i : ℕ) → i < n → p i ≡ false) → some p n ≡ false
some_false p n h = ⊎_elim (λ q. let f = some_at p n q in absurd (torn f.2 (h f.0 f.1))) (λ q. q) (tested (some p n))

pub every_not : (p : ℕ → Bool) (n i : ℕ) → i < n → p i ≡ false → every p n ≡ false
every_not p n i l e = ⊎_elim (λ q. absurd (torn (every_at p n q i l) e)) (λ q. q) (tested (every p n))

-- tests that agree below n give equal counts
pub count_same : (p q : ℕ → Bool) (n : ℕ) → ((i : ℕ) → i < n → p i ≡ q i) → count p n ≡ count q n
count_same p q zero h = refl
count_same p q (suc n) h =
    ap₂ (λ (k : ℕ) (b : Bool). k + cond b 1 0) (count_same p q n (λ i l. h i (omega arith))) (h n (omega arith))

pub count_none : (p : ℕ → Bool) (n : ℕ) → some p n ≡ false → count p n ≡ 0
count_none p zero e = refl
count_none p (suc n) e =
    ap₂ (λ (k : ℕ) (b : Bool). k + cond b 1 0)
    (count_none p n (or_none_left (some p n) (p n) e))
    (or_none_right (some p n) (p n) e)

-- where something is counted, something passes
pub counted_one : (p : ℕ → Bool) (n : ℕ) → 0 < count p n → (i : ℕ) × (i < n) × (p i ≡ true)
counted_one p n l = ⊎_elim (λ e. some_at p n e) (λ e. absurd (omega (arith, count_none p n e))) (tested (some p n))

-- one where a test passes, none where it fails
abbrev pub one : Bool → ℕ
one b = cond b 1 0

pub one_small : (b : Bool) → one b ≤ 1
one_small true = omega arith
one_small false = omega arith

one_more : (a b : Bool) → (a ≡ true → b ≡ true) → one a ≤ one b
one_more true b h = rw (h refl) (omega arith)
one_more false b h = omega arith

pub count_le : (p : ℕ → Bool) (n : ℕ) → count p n ≤ n
count_le p zero = omega arith
count_le p (suc n) = omega (arith, count_le p n, one_small (p n))

-- where each that passes p passes q, q counts at least as many
pub count_more : (p q : ℕ → Bool) (n : ℕ) → ((i : ℕ) → i < n → p i ≡ true → q i ≡ true) → count p n ≤ count q n
count_more p q zero up = omega arith
count_more p q (suc n) up =
    omega (arith, count_more p q n (λ i l. up i (omega arith)), one_more (p n) (q n) (up n (omega arith)))

-- and more, where some k passes q alone
pub count_less : (p q : ℕ → Bool) (n k : ℕ) → ((i : ℕ) → i < n → p i ≡ true → q i ≡ true) → k < n → p k ≡ false → q k ≡ true
    → count p n < count q n
count_less p q zero k up l out in' = absurd (not-suc-le-zero l)
count_less p q (suc n) k up l out in' =
    go (λ m. count_less p q n k (λ i h. up i (omega arith)) m out in') (ℕ_discrete k n)
  where
    go : (k < n → count p n < count q n) → Dec (k ≡ n) → count p (suc n) < count q (suc n)
    go rest (yes e) =
        omega (
          arith,
          count_more p q n (λ i h. up i (omega arith)),
          ap one (subst (λ (x : ℕ). p x ≡ false) e out),
          ap one (subst (λ (x : ℕ). q x ≡ true) e in'),
        )
    go rest (no d) = omega (arith, rest (omega arith), one_more (p n) (q n) (up n (omega arith)))

-- one number more, as a loop counts
pub some_more : (p : ℕ → Bool) (n : ℕ) → some p n ≡ false → p n ≡ false → some p (n + 1) ≡ false
some_more p n none here = rw add-one (or_false none here)

pub every_more : (p : ℕ → Bool) (n : ℕ) → every p n ≡ true → p n ≡ true → every p (n + 1) ≡ true
every_more p n all here = rw add-one (and_true all here)

-- each that passes p passes q where as many pass both as pass p
pub count_within : (p q : ℕ → Bool) (n : ℕ) → every (λ i. not (p i) || q i) n ≡ eqb (count (λ i. p i && q i) n) (count p n)
count_within p q n = ⊎_elim all_in some_out (tested (every (λ i. not (p i) || q i) n))
  where
    all_in : every (λ i. not (p i) || q i) n ≡ true
        → every (λ i. not (p i) || q i) n ≡ eqb (count (λ i. p i && q i) n) (count p n)
    all_in e =
        e ∙ sym (eq-eqb _ _ (count_same (λ i. p i && q i) p n (λ i l. keeps (p i) (q i) (if_then (p i) (q i) (every_at (λ i. not (p i) || q i) n e i l)))))
      where
        keeps : (a b : Bool) → (a ≡ true → b ≡ true) → a && b ≡ a
        keeps true b h = h refl
        keeps false b h = refl

    some_out : every (λ i. not (p i) || q i) n ≡ false
        → every (λ i. not (p i) || q i) n ≡ eqb (count (λ i. p i && q i) n) (count p n)
    some_out e =
        let f = every_fails (λ i. not (p i) || q i) n e in
        let o = not_then (p f.0) (q f.0) f.2 in
        let l = count_less (λ i. p i && q i) p n f.0 (λ i h k. and_left (p i) (q i) k) f.1 (and_false_right (p f.0) o.1) o.0 in
        e ∙ sym (ne_eqb (count (λ i. p i && q i) n) (count p n) (λ x. omega arith))

-- what holds below a number holds below a lower one
pub every_less : (p : ℕ → Bool) (m n : ℕ) → m ≤ n → every p n ≡ true → every p m ≡ true
every_less p m n l e = every_of p m (λ i h. every_at p n e i (omega arith))
