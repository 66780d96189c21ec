-- Logs. The commands and changes on a path are told by the parents and kinds along it; a path goes on from any record on it as
-- that record's own path.
use Prim.Native.Nat.{ℕ, ◌≤◌, ◌<◌}
use native.Mathlib.Omega.{arith}
use mathlib.Core.Path.{◌≡◌, refl, sym, ap, ◌∙◌}
use mathlib.Core.Logic.{⊎_elim}
use mathlib.Core.Bool.{Bool, true, false, cond, false≢true}
use mathlib.Core.List.{List, [], ◌∷◌, ◌++◌, reverse, reverse-append}
use borrow.Author.Tests.{eqb-true, eq-eqb}
use lib.Dec.{eqb}
use lib.ListN.{length}
use Rattle.rules.specs.declared.Record.{Record}
use Rattle.rules.specs.Records.{at, is_entry}
use Rattle.rules.specs.Tree.{path, among, on_path, latest_commit}
use Rattle.rules.specs.State.{entries, log_of}
use Rattle.rules.specs.Proposals.{before, gained}
use Rattle.rules.proofs.Bools.{tested, torn, or_cases}
use Rattle.rules.proofs.Paths.{Rising, climb, path_root, path_step}

pub entries_append : (records : List Record) (a b : List ℕ) → entries records (a ++ b) ≡ entries records a ++ entries records b
entries_append records [] b = refl
entries_append records (i ∷ a) b =
    go (is_entry (at records i)) (entries_append records a b)
  where
    go : (c : Bool) → entries records (a ++ b) ≡ entries records a ++ entries records b
        → cond c (i ∷ entries records (a ++ b)) (entries records (a ++ b)) ≡ cond c (i ∷ entries records a) (entries records a) ++ entries records b
    go true e = ap (λ (l : List ℕ). i ∷ l) e
    go false e = e

module _ (records : List Record) (up : Rising records) where
  -- up to a record on it, and from there on as that record's path
  pub path_split : (i : ℕ) → i < length records → (a : ℕ) → among a (path records i) ≡ true
      → path records i ≡ before a (path records i) ++ path records a
  path_split i l = climb records up Split root child i l
    where
      Split : ℕ → Type 0
      Split i = (a : ℕ) → among a (path records i) ≡ true → path records i ≡ before a (path records i) ++ path records a

      -- at the record itself
      start : (i : ℕ) (rest : List ℕ) (a : ℕ) → path records i ≡ i ∷ rest → eqb a i ≡ true
          → path records i ≡ before a (path records i) ++ path records a
      start i rest a e q =
          let f : a ≡ i = eqb-true a i q in
          sym (rw (f, e, eq-eqb i i refl))

      root : Split 0
      root a e =
          ⊎_elim (λ q. start 0 [] a (path_root records up (omega arith)) q) (λ q. absurd (false≢true q))
          (or_cases (eqb a 0) false (rw (path_root records up (omega arith)) at e))

      child : (i : ℕ) → 0 < i → i < length records → Split (at records i).parent → Split i
      child i z l f a e =
          ⊎_elim
          (start i (path records (at records i).parent) a (path_step records up i z l))
          (λ q. rw (path_step records up i z l) (rw q (ap (λ (p : List ℕ). i ∷ p) (f a (further q)))))
          (tested (eqb a i))
        where
          further : eqb a i ≡ false → among a (path records (at records i).parent) ≡ true
          further q =
              ⊎_elim (λ t. absurd (torn t q)) (λ m. m)
              (or_cases (eqb a i) (among a (path records (at records i).parent)) (rw (path_step records up i z l) at e))

  -- the log goes on from the latest commit to a record below it by what that record's path has gained
  pub log_gains : (i : ℕ) → i < length records → on_path records (latest_commit records) i ≡ true
      → reverse (entries records (path records i)) ≡ log_of records ++ gained records i
  unfolding on_path log_of gained
  log_gains i l e =
      let L : ℕ = latest_commit records in
      ap (λ (p : List ℕ). reverse (entries records p)) (path_split i l L e)
      ∙ ap reverse (entries_append records (before L (path records i)) (path records L))
      ∙ reverse-append (entries records (before L (path records i))) (entries records (path records L))

-- two lists of records: where kinds agree, and parents on the way up from a record, so do the entries on its path
module _ (records records' : List Record) (up : Rising records) (up' : Rising records') (more : length records ≤ length records')
    (entry : (i : ℕ) → i < length records → is_entry (at records' i) ≡ is_entry (at records i))
    (On : ℕ → Type 0)
    (parent : (i : ℕ) → 0 < i → i < length records → On i → (at records' i).parent ≡ (at records i).parent)
    (onward : (i : ℕ) → 0 < i → i < length records → On i → On (at records i).parent) where
  pub entries_agree : (i : ℕ) → i < length records → On i → entries records' (path records' i) ≡ entries records (path records i)
  entries_agree i l = climb records up Agree (λ o. root) child i l
    where
      Agree : ℕ → Type 0
      Agree i = On i → entries records' (path records' i) ≡ entries records (path records i)

      root : entries records' (path records' 0) ≡ entries records (path records 0)
      root = rw (path_root records up (omega arith), path_root records' up' (omega arith), entry 0 (omega arith))

      child : (i : ℕ) → 0 < i → i < length records → Agree (at records i).parent → Agree i
      child i z l f o =
          rw (path_step records up i z l, path_step records' up' i z (omega arith), entry i l, parent i z l o, f (onward i z l o))
