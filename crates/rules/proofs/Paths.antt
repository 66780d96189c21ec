-- Paths. Parents are strictly lower, so a path falls, ends at record 0 and has no record twice.
-- How far it can fall is the height: the number of records below. So as many steps as there are records always do.
use Prim.Native.Nat.{ℕ, zero, suc, ◌≤◌, ◌<◌}
use native.Mathlib.Nat.{not-suc-le-zero}
use native.Mathlib.Omega.{arith}
use mathlib.Core.Path.{◌≡◌, refl, sym, ap, ◌∙◌}
use mathlib.Core.Logic.{◌⊎◌, inl, inr, ⊎_elim}
use mathlib.Core.Bool.{true, false, false≢true}
use mathlib.Core.List.{List, [], ◌∷◌, ◌++◌}
use borrow.Author.Tests.{eqb-true}
use lib.Dec.{eqb}
use lib.ListN.{length}
use Rattle.rules.specs.declared.Record.{Record}
use Rattle.rules.specs.First.{count}
use Rattle.rules.specs.Records.{at, above}
use Rattle.rules.specs.Tree.{path_of, path, among}
use Rattle.rules.specs.State.{all_shaped}
use Rattle.rules.proofs.Bools.{tested, torn, or_cases}
use Rattle.rules.proofs.First.{count_le, count_less}
use Rattle.rules.proofs.State.{all_shaped_lem}
use Rattle.rules.proofs.Records.{above_irreflexive, above_asymmetric, above_trans}

-- every record but record 0 has a parent that exists and is strictly lower
pub record Rising (records : List Record) : Type 0 where
  pub exists : (i : ℕ) → 0 < i → i < length records → (at records i).parent < length records
  pub lower : (i : ℕ) → 0 < i → i < length records → above (at records i) (at records (at records i).parent) ≡ true

pub rising : (records : List Record) → all_shaped records ≡ true → Rising records
rising records e =
    record {
      exists = λ i z l. (all_shaped_lem records e i z l).exists;
      lower = λ i z l. (all_shaped_lem records e i z l).lower;
    }

-- no number stands twice in the list
abbrev pub Once : List ℕ → Type 0
Once [] = Unit {0}
Once (i ∷ rest) = (among i rest ≡ false) × Once rest

module _ (records : List Record) (up : Rising records) where
  -- the number of records below record i
  height : ℕ → ℕ
  height i = count (λ j. above (at records i) (at records j)) (length records)

  height_small : (i : ℕ) → i < length records → height i < length records
  unfolding height
  height_small i l =
      omega (
        arith,
        count_less (λ j. above (at records i) (at records j)) (λ j. true) (length records) i (λ j h e. refl) l (above_irreflexive (at records i)) refl,
        count_le (λ j. true) (length records),
      )

  height_falls : (i : ℕ) → 0 < i → i < length records → height (at records i).parent < height i
  unfolding height
  height_falls i z l =
      count_less _ _ (length records) (at records i).parent
      (λ j h e. above_trans (at records i) (at records (at records i).parent) (at records j) (up.lower i z l) (above_asymmetric (at records (at records i).parent) (at records j) e))
      (up.exists i z l)
      (above_irreflexive (at records (at records i).parent))
      (up.lower i z l)

  -- what holds at record 0, and at a record where it holds at its parent, holds at every record
  climbed : (P : ℕ → Type 0) → P 0 → ((i : ℕ) → 0 < i → i < length records → P (at records i).parent → P i)
      → (steps i : ℕ) → i < length records → height i < steps → P i
  climbed P root child zero i l h = absurd (not-suc-le-zero h)
  climbed P root child (suc steps) zero l h = root
  climbed P root child (suc steps) (suc i) l h =
      child (suc i) (omega arith) l
      (climbed P root child steps (at records (suc i)).parent (up.exists (suc i) (omega arith) l)
      (omega (arith, height_falls (suc i) (omega arith) l)))

  pub climb : (P : ℕ → Type 0) → P 0 → ((i : ℕ) → 0 < i → i < length records → P (at records i).parent → P i)
      → (i : ℕ) → i < length records → P i
  climb P root child i l = climbed P root child (length records) i l (height_small i l)

  -- more steps than the height change nothing
  steady : (k m i : ℕ) → i < length records → height i < k → height i < m → path_of records k i ≡ path_of records m i
  steady zero m i l h g = absurd (not-suc-le-zero h)
  steady (suc k) zero i l h g = absurd (not-suc-le-zero g)
  steady (suc k) (suc m) zero l h g = refl
  steady (suc k) (suc m) (suc i) l h g =
      ap (λ (p : List ℕ). suc i ∷ p)
      (steady k m (at records (suc i)).parent (up.exists (suc i) (omega arith) l)
      (omega (arith, height_falls (suc i) (omega arith) l))
      (omega (arith, height_falls (suc i) (omega arith) l)))

  -- with enough steps a path is the path
  pub path_enough : (k i : ℕ) → i < length records → length records ≤ k → path_of records k i ≡ path records i
  unfolding path
  path_enough k i l h =
      steady k (length records) i l (omega (arith, height_small i l)) (height_small i l)

  -- the path of record 0 is record 0
  pub path_root : 0 < length records → path records 0 ≡ 0 ∷ []
  path_root l = sym (path_enough (suc (length records)) 0 l (omega arith))

  -- the path of any other record is that record and the path of its parent
  pub path_step : (i : ℕ) → 0 < i → i < length records → path records i ≡ i ∷ path records (at records i).parent
  path_step zero z l = absurd (not-suc-le-zero z)
  path_step (suc i) z l =
      sym (path_enough (suc (length records)) (suc i) l (omega arith))
      ∙ ap (λ (p : List ℕ). suc i ∷ p) (path_enough (length records) (at records (suc i)).parent (up.exists (suc i) z l) (omega arith))

  -- a path ends at record 0
  pub path_ends : (i : ℕ) → i < length records → (front : List ℕ) × (path records i ≡ front ++ (0 ∷ []))
  path_ends i l =
      climb (λ (i : ℕ). (front : List ℕ) × (path records i ≡ front ++ (0 ∷ [])))
      ([], path_root (omega arith))
      (λ i z l f. (i ∷ f.0, path_step i z l ∙ ap (λ (p : List ℕ). i ∷ p) f.1))
      i
      l

  -- what is a record's parent, or below it, is below the record
  under : (i j : ℕ) → 0 < i → i < length records
      → (j ≡ (at records i).parent) ⊎ (above (at records (at records i).parent) (at records j) ≡ true)
      → above (at records i) (at records j) ≡ true
  under i j z l w =
      ⊎_elim
      (λ q. rw q (up.lower i z l))
      (λ q. above_trans (at records i) (at records (at records i).parent) (at records j) (up.lower i z l) (above_asymmetric (at records (at records i).parent) (at records j) q))
      w

  -- what is on a record's path is the record or strictly below it
  pub path_falls : (i : ℕ) → i < length records → (j : ℕ) → among j (path records i) ≡ true
      → (j ≡ i) ⊎ (above (at records i) (at records j) ≡ true)
  path_falls i l = climb Falls root child i l
    where
      Falls : ℕ → Type 0
      Falls i = (j : ℕ) → among j (path records i) ≡ true → (j ≡ i) ⊎ (above (at records i) (at records j) ≡ true)

      root : Falls 0
      root j e =
          inl (⊎_elim (λ q. eqb-true j 0 q) (λ q. absurd (false≢true q)) (or_cases (eqb j 0) false (rw (path_root (omega arith)) at e)))

      child : (i : ℕ) → 0 < i → i < length records → Falls (at records i).parent → Falls i
      child i z l f j e =
          ⊎_elim
          (λ q. inl (eqb-true j i q))
          (λ q. inr (under i j z l (f j q)))
          (or_cases (eqb j i) (among j (path records (at records i).parent)) (rw (path_step i z l) at e))

  -- so no path has a record twice
  pub path_once : (i : ℕ) → i < length records → Once (path records i)
  path_once i l =
      climb (λ (i : ℕ). Once (path records i))
      (rw (path_root (omega arith)) (refl, tt))
      (λ i z l once. rw (path_step i z l) (above_it i z l, once))
      i
      l
    where
      above_it : (i : ℕ) → 0 < i → i < length records → among i (path records (at records i).parent) ≡ false
      above_it i z l =
          ⊎_elim
          (λ e. absurd (torn (under i i z l (path_falls (at records i).parent (up.exists i z l) i e)) (above_irreflexive (at records i))))
          (λ e. e)
          (tested (among i (path records (at records i).parent)))

  -- what is on a path is a record
  pub path_known : (i : ℕ) → i < length records → (j : ℕ) → among j (path records i) ≡ true → j < length records
  path_known i l = climb Known root child i l
    where
      Known : ℕ → Type 0
      Known i = (j : ℕ) → among j (path records i) ≡ true → j < length records

      root : Known 0
      root j e =
          ⊎_elim
          (λ q. let k = eqb-true j 0 q in omega arith)
          (λ q. absurd (false≢true q))
          (or_cases (eqb j 0) false (rw (path_root (omega arith)) at e))

      child : (i : ℕ) → 0 < i → i < length records → Known (at records i).parent → Known i
      child i z l f j e =
          ⊎_elim
          (λ q. let k = eqb-true j i q in omega arith)
          (λ q. f j q)
          (or_cases (eqb j i) (among j (path records (at records i).parent)) (rw (path_step i z l) at e))
