-- A record's path in the rules is its path in the tree. So the rules' words for what is met on the way up, an open change and a
-- commit of a time, say what agreement asks of a change.
use Prim.Native.Nat.{ℕ, ◌<◌}
use native.Mathlib.Omega.{arith}
use mathlib.Core.Path.{◌≡◌, refl, ap}
use mathlib.Core.Logic.{◌⊎◌, inl, inr, ⊎_elim}
use mathlib.Core.Bool.{Bool, true, false, ◌&&◌, true≢false, false≢true}
use mathlib.Core.List.{List, [], ◌∷◌}
use borrow.Author.Tests.{eqb-true, eq-eqb}
use lib.Dec.{eqb}
use lib.ListN.{length}
use Rattle.rules.specs.declared.Kind.{Kind}
use Rattle.rules.specs.declared.Kind.TheVariants.{Election, Command, Change, Commit}
use Rattle.rules.specs.declared.Record.{Record}
use Rattle.rules.specs.Records.{at, is_commit}
use Rattle.rules.specs.Tree.{path, among, open_at, open_along, commit_along}
use Rattle.rules.proofs.Bools.{torn, and_left, and_right, or_cases, or_left, or_right}
use Rattle.rules.proofs.Paths.{Rising, climb, path_root, path_step}
use Rattle.agreement.specs.Tree.{here, up, change, commit, ◌⊢◌⊑◌}
use Rattle.agreement.specs.Facts.{Facts}
use Rattle.agreement.proofs.Cases.{zero_or_more, election_or_commit, command_or_commit, change_or_election, change_or_commit}
use Rattle.agreement.proofs.Paths.{On-same}
use Rattle.agreement.proofs.Rising.{uncommitted, parent_below}
use Rattle.agreement.proofs.Single.{single}
use Rattle.agreement.proofs.Reading.{sort_of, tree_of}
use Rattle.agreement.proofs.Readings.{commit_sort, below_above}

-- a change is open
change_open : (k : Kind) (further : Bool) → sort_of k ≡ change → open_at k further ≡ true
change_open (Election voters) further e = absurd (change_or_election e refl)
change_open (Command number) further e = let z : ◌≡◌ {A = ℕ} 0 1 = cc in absurd (omega arith)
change_open Change further e = refl
change_open (Commit voters) further e = absurd (change_or_commit e refl)

-- a commit of a time that is met on the way up
commit_met : (records : List Record) (time : ℕ) (way : List ℕ) → commit_along records time way ≡ true
    → (c : ℕ) × (among c way ≡ true) × (is_commit (at records c) ≡ true) × ((at records c).time ≡ time)
commit_met records time [] e = absurd (false≢true e)
commit_met records time (i ∷ way) e = go (commit_met records time way) (or_cases (k && t) (commit_along records time way) e)
  where
    k : Bool
    k = is_commit (at records i)

    t : Bool
    t = eqb (at records i).time time

    Met : List ℕ → Type 0
    Met way = (c : ℕ) × (among c way ≡ true) × (is_commit (at records c) ≡ true) × ((at records c).time ≡ time)

    go : (commit_along records time way ≡ true → Met way) → (k && t ≡ true) ⊎ (commit_along records time way ≡ true) → Met (i ∷ way)
    go onward (inl h) = (i, or_left (among i way) (eq-eqb i i refl), and_left k t h, eqb-true (at records i).time time (and_right k t h))
    go onward (inr h) = let (c, m, f, g) = onward h in (c, or_right (eqb c i) m, f, g)

module _ {clock : ℕ → ℕ} {holds : ℕ → ℕ → Type 0} (records : List Record)
    (F : Facts single (tree_of records) (length records) clock holds) where
  -- parents are strictly lower
  pub rising : Rising records
  rising = record {
    exists = λ i z l. F.parent_known i l;
    lower = λ i z l. below_above records (at records i).parent i (parent_below F i z l);
  }

  -- a path begins with its record
  path_first : (i : ℕ) → i < length records → (rest : List ℕ) × (path records i ≡ i ∷ rest)
  path_first i l = ⊎_elim (λ e. rw e ([], path_root records rising F.opened)) (λ z. (_, path_step records rising i z l)) (zero_or_more i)

  -- what is on a record's path is on it in the rules, and the other way round
  pub on_path_lem : {a i : ℕ} → tree_of records ⊢ a ⊑ i → i < length records → among a (path records i) ≡ true
  on_path_lem {a} here l = let (rest, e) = path_first a l in rw e (or_left (among a rest) (eq-eqb a a refl))
  on_path_lem {a} (up {b = i} p) l = go (on_path_lem p (F.parent_known i l)) (zero_or_more i)
    where
      go : among a (path records (at records i).parent) ≡ true → (i ≡ 0) ⊎ (0 < i) → among a (path records i) ≡ true
      go m (inl e) = let own : (at records i).parent ≡ i = rw e F.root_parent in rw own at m
      go m (inr z) = rw (path_step records rising i z l) (or_right (eqb a i) m)

  pub path_on : (i : ℕ) → i < length records → (a : ℕ) → among a (path records i) ≡ true → tree_of records ⊢ a ⊑ i
  path_on i l = climb records rising Back root child i l
    where
      Back : ℕ → Type 0
      Back i = (a : ℕ) → among a (path records i) ≡ true → tree_of records ⊢ a ⊑ i

      root : Back 0
      root a e =
          ⊎_elim (λ q. On-same (eqb-true a 0 q)) (λ q. absurd (false≢true q))
          (or_cases (eqb a 0) false (rw (path_root records rising F.opened) at e))

      child : (i : ℕ) → 0 < i → i < length records → Back (at records i).parent → Back i
      child i z l f a e =
          ⊎_elim (λ q. On-same (eqb-true a i q)) (λ q. up (f a q))
          (or_cases (eqb a i) (among a (path records (at records i).parent)) (rw (path_step records rising i z l) at e))

  -- refusal 10 not given: a commit after every change on the path
  pub all_closed : {r i : ℕ} → open_along records (path records i) ≡ false → i < length records
      → (tree_of records).sort r ≡ change → tree_of records ⊢ r ⊑ i
      → (c : ℕ) × ((tree_of records).sort c ≡ commit) × (tree_of records ⊢ r ⊑ c) × (tree_of records ⊢ c ⊑ i)
  all_closed {r} o l s here =
      let (rest, e) = path_first r l in
      absurd (torn (change_open (at records r).kind (open_along records rest) s) (rw e at o))
  all_closed {r} o l s (up {b = i} p) = go (at records i).kind refl (λ q. all_closed q (F.parent_known i l) s p)
    where
      Closed : ℕ → Type 0
      Closed i = (c : ℕ) × ((tree_of records).sort c ≡ commit) × (tree_of records ⊢ r ⊑ c) × (tree_of records ⊢ c ⊑ i)

      -- what record i says
      says : (k : Kind) → (at records i).kind ≡ k → 0 < i → open_at k (open_along records (path records (at records i).parent)) ≡ false
      says k e z = let o' = rw (path_step records rising i z l) at o in rw e at o'

      onward : Closed (at records i).parent → Closed i
      onward (c, e, q, h) = (c, e, q, up h)

      go : (k : Kind) → (at records i).kind ≡ k
          → (open_along records (path records (at records i).parent) ≡ false → Closed (at records i).parent) → Closed i
      go (Election voters) e f = onward (f (says (Election voters) e (uncommitted F i (election_or_commit (ap sort_of e)))))
      go (Command number) e f = onward (f (says (Command number) e (uncommitted F i (command_or_commit (ap sort_of e)))))
      go Change e f = absurd (true≢false (says Change e (uncommitted F i (change_or_commit (ap sort_of e)))))
      go (Commit voters) e f = (i, ap sort_of e, up p, here)

  -- refusal 11 not given: a commit of this time on the path
  pub one_leads : (time i : ℕ) → i < length records → commit_along records time (path records i) ≡ true
      → (c : ℕ) × ((tree_of records).sort c ≡ commit) × (tree_of records ⊢ c ⊑ i) × ((tree_of records).time c ≡ time)
  one_leads time i l e =
      let (c, m, k, t) = commit_met records time (path records i) e in
      (c, commit_sort (at records c).kind k, path_on i l c m, t)
