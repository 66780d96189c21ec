-- Every path of a table stays in the places in use, so a walk in the array is a walk in the table.
use Prim.Native.Nat.{ℕ, zero, suc, ◌≤◌, ◌<◌}
use native.Mathlib.Omega.{arith}
use mathlib.Core.Path.{◌≡◌, refl, sym, ap, ap₂, ◌∙◌}
use mathlib.Core.Bool.{Bool, true, false, cond, ◌&&◌, ◌||◌}
use mathlib.Core.List.{List, [], ◌∷◌}
use lib.Dec.{eqb}
use lib.ListN.{length, take}
use lib.Seq.{length-take-le, get_or-take}
use Rattle.rules.specs.declared.Record.{Record}
use Rattle.rules.specs.Records.{blank, at, is_commit, is_entry}
use Rattle.rules.specs.Tree.{path_of, path, among, on_path, open_at, open_along, open_change, commit_along, commit_of_time}
use Rattle.rules.specs.State.{entries}
use Rattle.rules.specs.Proposals.{before}
use Rattle.rules.proofs.Paths.{Rising}

-- every number of a list is below n
abbrev pub Below : ℕ → List ℕ → Type 0
Below n [] = Unit {0}
Below n (i ∷ rest) = (i < n) × Below n rest

below_before : (n stop : ℕ) (p : List ℕ) → Below n p → Below n (before stop p)
below_before n stop [] h = tt
below_before n stop (i ∷ p) h = go (below_before n stop p h.1) (eqb stop i)
  where
    go : Below n (before stop p) → (b : Bool) → Below n (cond b [] (i ∷ before stop p))
    go rest true = tt
    go rest false = (h.0, rest)

module _ (rs : List Record) (n : ℕ) where
  -- along numbers below n the array and the table say the same
  same_open : (p : List ℕ) → Below n p → open_along rs p ≡ open_along (take n rs) p
  same_open [] h = refl
  same_open (i ∷ p) h = ap₂ (λ (r : Record) (b : Bool). open_at r.kind b) (sym (get_or-take n rs i blank h.0)) (same_open p h.1)

  same_commit : (time : ℕ) (p : List ℕ) → Below n p → commit_along rs time p ≡ commit_along (take n rs) time p
  same_commit time [] h = refl
  same_commit time (i ∷ p) h =
      ap₂ (λ (r : Record) (b : Bool). (is_commit r && eqb r.time time) || b) (sym (get_or-take n rs i blank h.0)) (same_commit time p h.1)

  same_entries : (p : List ℕ) → Below n p → entries rs p ≡ entries (take n rs) p
  same_entries [] h = refl
  same_entries (i ∷ p) h =
      ap₂ (λ (r : Record) (l : List ℕ). cond (is_entry r) (i ∷ l) l) (sym (get_or-take n rs i blank h.0)) (same_entries p h.1)

module _ (rs : List Record) (n : ℕ) (fits : n ≤ length rs) (up : Rising (take n rs)) where
  -- a parent's number is below n
  parent_below : (i : ℕ) → 0 < i → i < n → (at rs i).parent < n
  parent_below i z l =
      let size = length-take-le n rs fits in
      rw (get_or-take n rs i blank l, size) at (up.exists i z (omega arith))

  pub steps_below : (steps i : ℕ) → i < n → Below n (path_of rs steps i)
  steps_below zero i l = tt
  steps_below (suc steps) zero l = (l, tt)
  steps_below (suc steps) (suc i) l = (l, steps_below steps (at rs (suc i)).parent (parent_below (suc i) (omega arith) l))

  same_path : (steps i : ℕ) → i < n → path_of rs steps i ≡ path_of (take n rs) steps i
  same_path zero i l = refl
  same_path (suc steps) zero l = refl
  same_path (suc steps) (suc i) l =
      ap (λ (p : List ℕ). suc i ∷ p)
      (same_path steps (at rs (suc i)).parent (parent_below (suc i) (omega arith) l)
      ∙ ap (λ (r : Record). path_of (take n rs) steps r.parent) (sym (get_or-take n rs (suc i) blank l)))

  -- a path in the array is the path in the table
  pub path_shown : (i : ℕ) → i < n → path_of rs n i ≡ path (take n rs) i
  unfolding path
  path_shown i l = same_path n i l ∙ ap (λ (k : ℕ). path_of (take n rs) k i) (sym (length-take-le n rs fits))

  pub among_shown : (a i : ℕ) → i < n → among a (path_of rs n i) ≡ on_path (take n rs) a i
  unfolding on_path
  among_shown a i l = ap (among a) (path_shown i l)

  pub open_shown : (i : ℕ) → i < n → open_along rs (path_of rs n i) ≡ open_change (take n rs) i
  unfolding open_change
  open_shown i l = same_open rs n (path_of rs n i) (steps_below n i l) ∙ ap (open_along (take n rs)) (path_shown i l)

  pub commit_shown : (time i : ℕ) → i < n → commit_along rs time (path_of rs n i) ≡ commit_of_time (take n rs) time i
  unfolding commit_of_time
  commit_shown time i l = same_commit rs n time (path_of rs n i) (steps_below n i l) ∙ ap (commit_along (take n rs) time) (path_shown i l)

  pub log_shown : (i : ℕ) → i < n → entries rs (path_of rs n i) ≡ entries (take n rs) (path (take n rs) i)
  log_shown i l = same_entries rs n (path_of rs n i) (steps_below n i l) ∙ ap (entries (take n rs)) (path_shown i l)

  pub entries_shown : (stop i : ℕ) → i < n
      → entries rs (before stop (path_of rs n i)) ≡ entries (take n rs) (before stop (path (take n rs) i))
  entries_shown stop i l =
      same_entries rs n (before stop (path_of rs n i)) (below_before n stop (path_of rs n i) (steps_below n i l))
      ∙ ap (λ (p : List ℕ). entries (take n rs) (before stop p)) (path_shown i l)
