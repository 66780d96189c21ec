-- What every call keeps of a state: the facts of its records as a tree, and what the test for a table asks beyond them.
-- A fresh table has it, and what has it is a table.
use Prim.Native.Nat.{ℕ, ◌≤◌, ◌<◌}
use native.Mathlib.Omega.{arith}
use mathlib.Core.Path.{◌≡◌, refl, sym, ap}
use mathlib.Core.Logic.{◌⊎◌, inl, inr}
use mathlib.Core.Bool.{true, false, not, ◌&&◌, ◌||◌}
use mathlib.Core.List.{List}
use borrow.Author.Tests.{eqb-true, eq-eqb}
use lib.Dec.{eqb}
use lib.ListN.{length}
use Rattle.rules.specs.declared.Record.{Record}
use Rattle.rules.specs.Nodes.{nodes, empty}
use Rattle.rules.specs.Clocks.{clock}
use Rattle.rules.specs.Records.{at, is_commit, holds, called}
use Rattle.rules.specs.Tree.{latest, last_commit, latest_commit, path, on_path}
use Rattle.rules.specs.State.{State, places, opening, fresh, log_of, commit_by, is_opening, rooted, is_table}
use Rattle.rules.proofs.Bools.{and_true, and_left, and_right, or_cases}
use Rattle.rules.proofs.Records.{holds_root}
use Rattle.rules.proofs.State.{table_of, shaped_all, timely_all, branch_all}
use Rattle.rules.proofs.Searches.{LatestAt, commit_found}
use Rattle.agreement.specs.Tree.{commit, Below, ◌⊢◌⊑◌}
use Rattle.agreement.specs.Facts.{Facts}
use Rattle.agreement.proofs.Cases.{zero_or_more}
use Rattle.agreement.proofs.Theorem.{latest_over}
use Rattle.agreement.proofs.Opening as Opening
use Rattle.agreement.proofs.Single.{single}
use Rattle.agreement.proofs.Reading.{tree_of, held}
use Rattle.agreement.proofs.Readings.{commit_sort, sort_commit, not_below}
use Rattle.agreement.proofs.Upward.{rising, on_path_lem}

-- the facts of the first n of some records, at these clocks
abbrev pub FactsOf : List ℕ → List Record → ℕ → Type 0
FactsOf clocks records n = Facts single (tree_of records) n (clock clocks) (held records)

pub record Sound (s : State) : Type 0 where
  -- the records have the facts of agreement
  pub facts : FactsOf s.clocks s.records (length s.records)
  -- every node has a clock
  pub sixteen : length s.clocks ≡ nodes
  -- there are at most 256 records
  pub few : length s.records ≤ places
  -- record 0 is as opening makes it
  pub root : rooted s.records ≡ true
  -- every other record has a node for its caller
  pub callers : (i : ℕ) → 0 < i → i < length s.records → (at s.records i).caller < nodes
  -- every record has members
  pub members : (i : ℕ) → i < length s.records → empty (at s.records i).members ≡ false
  -- the log is the one read afresh
  pub logged : s.log ≡ log_of s.records

-- a fresh table has it
pub fresh_sound : (g : ℕ) → empty g ≡ false → Sound (fresh g)
unfolding fresh nodes places rooted is_opening log_of latest_commit last_commit latest path
fresh_sound g e = record {
  facts = Opening.opening refl refl refl (λ v. holds_root (opening g) v);
  sixteen = refl;
  few = omega arith;
  root = and_true (eq-eqb g g refl) (ap not e);
  callers = λ i z l. absurd (omega arith);
  members = λ i l. let f : i ≡ 0 = omega arith in rw f e;
  logged = refl;
}

module _ {s : State} (S : Sound s) where
  abbrev records : List Record
  records = s.records

  -- no node is record 0's caller
  pub root_caller : (at records 0).caller ≡ 16
  unfolding rooted is_opening
  root_caller =
      let r = at records 0 in
      let rest = eqb r.time 0 && (eqb r.version 0 && (commit_by r.kind r.members && not (empty r.members))) in
      eqb-true r.caller 16 (and_left (eqb r.caller 16) rest (and_right (eqb r.parent 0) (eqb r.caller 16 && rest) S.root))

  -- the latest commit
  pub latest_commit_lem : LatestAt (λ i r. is_commit r) records (latest_commit records)
  latest_commit_lem = commit_found records S.facts.opened (sort_commit (at records 0).kind S.facts.root_sort)

  -- no commit is above it
  pub commit_tops : (c : ℕ) → c < length records → (tree_of records).sort c ≡ commit → ¬ Below (tree_of records) (latest_commit records) c
  commit_tops c l e =
      not_below records (latest_commit records) c
      (latest_commit_lem.tops c l (sort_commit (at records c).kind e))

  -- so every commit is on its path
  pub branch : (c : ℕ) → c < length records → is_commit (at records c) ≡ true → tree_of records ⊢ c ⊑ latest_commit records
  branch c l e = latest_over S.facts (latest_commit records) latest_commit_lem.among commit_tops c l (commit_sort (at records c).kind e)

  -- a node that holds or called a record has a clock of at least its time
  clocked : (i : ℕ) → i < length records → (node : ℕ) → holds i (at records i) node || called (at records i) node ≡ true
      → (at records i).time ≤ clock s.clocks node
  unfolding called
  clocked i l node h = go (zero_or_more i) (or_cases (holds i (at records i) node) (called (at records i) node) h)
    where
      go : (i ≡ 0) ⊎ (0 < i) → (holds i (at records i) node ≡ true) ⊎ (called (at records i) node ≡ true)
          → (at records i).time ≤ clock s.clocks node
      go z (inl e) = S.facts.clock_held i node l e
      go (inl z) (inr e) = let f : (at records i).time ≡ 0 = rw z S.facts.root_time in omega arith
      go (inr z) (inr e) = rw (sym (eqb-true (at records i).caller node e)) (S.facts.clock_called i z l)

  -- what has it is a table
  pub sound_table : is_table s ≡ true
  unfolding on_path
  sound_table = table_of s (record {
    some_records = S.facts.opened;
    few_records = S.few;
    rooted = S.root;
    shaped = shaped_all records (λ i z l. record {
      node = S.callers i z l;
      members = S.members i l;
      exists = S.facts.parent_known i l;
      lower = (rising records S.facts).lower i z l;
    });
    timely = timely_all s.clocks records (λ i l node m h. clocked i l node h);
    branch = branch_all records (λ i l e. on_path_lem records S.facts (branch i l e) latest_commit_lem.among);
    logged = S.logged;
  })
