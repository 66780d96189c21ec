-- In the tree the list after a push is a commit put between the target and its children, and the log read afresh goes on from the old
-- one by what the target's path has gained.
use Prim.Native.Nat.{ℕ, zero, suc, ◌<◌}
use native.Mathlib.Nat.{not-suc-le-zero}
use native.Mathlib.Omega.{arith}
use mathlib.Core.Path.{◌≡◌, refl, ap, ◌∙◌}
use mathlib.Core.Bool.{true, false}
use mathlib.Core.List.{List, [], ◌∷◌, ◌++◌, map, reverse}
use borrow.Author.Tests.{eq-eqb, ne_eqb}
use lib.Dec.{eqb}
use lib.ListN.{length, length-append, length-map, get_or-append}
use lib.Seq.{get_or_at}
use Rattle.rules.specs.declared.Record.{Record}
use Rattle.rules.specs.Records.{blank, at, is_commit, is_entry, entry_kind, above}
use Rattle.rules.specs.Tree.{path, on_path, latest_commit}
use Rattle.rules.specs.State.{entries, log_of}
use Rattle.rules.specs.Proposals.{with_parent, adopted, gained}
use Rattle.rules.proofs.Choice.{chosen}
use Rattle.rules.proofs.Records.{above_irreflexive, above_asymmetric}
use Rattle.rules.proofs.Paths.{path_step}
use Rattle.rules.proofs.Searches.{LatestAt, commit_is}
use Rattle.rules.proofs.Logs.{entries_agree, log_gains}
use Rattle.agreement.specs.Tree.{here, up, ◌⊢◌⊑◌}
use Rattle.agreement.specs.Facts.{Facts}
use Rattle.agreement.specs.Passed.{Pushed}
use Rattle.agreement.specs.Steps.{NewCommit}
use Rattle.agreement.proofs.Cases.{below_suc}
use Rattle.agreement.proofs.Paths.{On-trans}
use Rattle.agreement.proofs.Rising.{parent_below, no_loop}
use Rattle.agreement.proofs.Never17.{new_above}
use Rattle.agreement.proofs.Single.{single}
use Rattle.agreement.proofs.Reading.{sort_of, voters_of, tree_of}
use Rattle.agreement.proofs.Readings.{commit_sort, below_above}
use Rattle.agreement.proofs.Upward.{rising}
use Rattle.agreement.proofs.OneMore.{OneMore, keeps}
use Rattle.agreement.proofs.Adopted as Adopted

at_map : (f : Record → Record) (records : List Record) (i : ℕ) → i < length records → at (map f records) i ≡ f (at records i)
at_map f [] i l = absurd (not-suc-le-zero l)
at_map f (r ∷ records) zero l = refl
at_map f (r ∷ records) (suc i) l = at_map f records i (omega arith)

-- who is adopted keeps all but the parent
adopted_keeps : {A : Type 0} (f : Record → A) → ((r : Record) (i : ℕ) → f (with_parent r i) ≡ f r) → (target new : ℕ) (r : Record)
    → f (adopted target new r) ≡ f r
adopted_keeps f h target new r = chosen (λ (q : Record). f q ≡ f r) (eqb r.parent target) (λ e. h r new) (λ e. refl)

module _ (records : List Record) (target caller voters : ℕ) where
  abbrev n : ℕ
  n = length records

  abbrev new : Record
  new = Adopted.new records target caller voters

  abbrev after : List Record
  after = Adopted.with_commit records target caller voters

  all_there : length (map (adopted target n) records) ≡ n
  all_there = length-map records (adopted target n)

  at_old : (i : ℕ) → i < n → at after i ≡ adopted target n (at records i)
  at_old i l =
      get_or-append (map (adopted target n) records) (new ∷ []) blank i (rw all_there l) ∙ at_map (adopted target n) records i l

  at_kept : {A : Type 0} (f : Record → A) → ((r : Record) (i : ℕ) → f (with_parent r i) ≡ f r)
      → (i : ℕ) → i < n → f (at after i) ≡ f (at records i)
  at_kept f h i l = ap f (at_old i l) ∙ adopted_keeps f h target n (at records i)

  pub inserted_more : OneMore records after new
  inserted_more = record {
    counted = omega (arith, length-append (map (adopted target n) records) (new ∷ []), all_there);
    new = get_or_at (map (adopted target n) records) new [] blank n all_there;
    caller = at_kept (λ r. r.caller) (λ r i. refl);
    time = at_kept (λ r. r.time) (λ r i. refl);
    version = at_kept (λ r. r.version) (λ r i. refl);
    members = at_kept (λ r. r.members) (λ r i. refl);
    kind = at_kept (λ r. r.kind) (λ r i. refl);
  }

  pub inserted_commit : caller ≡ (at records target).caller → NewCommit (tree_of records) (tree_of after) n target voters
  inserted_commit own =
      let e = inserted_more.new in
      record {
        keeps = keeps inserted_more;
        moved = λ i l q. ap (λ (r : Record). r.parent) (at_old i l) ∙ rw (eq-eqb (at records i).parent target q);
        stayed = λ i l d. ap (λ (r : Record). r.parent) (at_old i l) ∙ rw (ne_eqb (at records i).parent target d);
        parent_new = ap (λ (r : Record). r.parent) e;
        sort_new = ap (λ (r : Record). sort_of r.kind) e;
        caller_new = ap (λ (r : Record). r.caller) e ∙ own;
        time_new = ap (λ (r : Record). r.time) e;
        version_new = ap (λ (r : Record). r.version) e;
        voters_new = ap (λ (r : Record). voters_of r.kind) e;
        conf_new = ap (λ (r : Record). r.members) e;
      }

  module _ {clock clock' : ℕ → ℕ} {holds holds' : ℕ → ℕ → Type 0} (F : Facts single (tree_of records) n clock holds)
      (F' : Facts single (tree_of after) (length after) clock' holds')
      (P : Pushed single (tree_of records) n clock target voters) (own : caller ≡ (at records target).caller) where
    -- the new commit is above every old one
    over_all : (c : ℕ) → c < n → is_commit (at after c) ≡ true → above (at after n) (at after c) ≡ true
    over_all c l e =
        below_above after c n
        (new_above F P (inserted_commit own) c l (commit_sort (at records c).kind (rw (inserted_more.kind c l) at e)))

    -- so it is the latest
    new_latest : LatestAt (λ i r. is_commit r) after n
    new_latest = record {
      among = rw inserted_more.counted (omega arith);
      there = refl;
      wants = ap is_commit inserted_more.new;
      tops = λ j. rw inserted_more.counted (
          below_suc (λ j. is_commit (at after j) ≡ true → above (at after j) (at after n) ≡ false) n
          (λ j l e. above_asymmetric (at after n) (at after j) (over_all j l e))
          (λ e. above_irreflexive (at after n)) j);
      lowest = over_all;
    }

    -- no parent on the target's path has moved
    unmoved : (i : ℕ) → 0 < i → i < n → tree_of records ⊢ i ⊑ target → (at after i).parent ≡ (at records i).parent
    unmoved i z l p =
        (inserted_commit own).stayed i l (λ e. no_loop F p P.target_known (rw e at (parent_below F i z l)))

    -- the commit is no entry, and the way up from it goes on at the target
    skipped : entries after (path after n) ≡ entries after (path after target)
    skipped =
        rw (path_step after (rising after F') n F.opened new_latest.among)
        (rw (ap is_entry inserted_more.new, ap (λ (r : Record). r.parent) inserted_more.new))

    read_afresh : log_of after ≡ reverse (entries records (path records target))
    unfolding log_of
    read_afresh =
        ap (λ (i : ℕ). reverse (entries after (path after i))) (commit_is after n new_latest)
        ∙ ap reverse skipped
        ∙ ap reverse (entries_agree records after (rising records F) (rising after F') (omega (arith, inserted_more.counted))
        (λ i l. ap entry_kind (inserted_more.kind i l))
        (λ i. tree_of records ⊢ i ⊑ target)
        unmoved
        (λ i z l p. On-trans (up {b = i} here) p)
        target P.target_known here)

    pub log_inserted : on_path records (latest_commit records) target ≡ true → log_of after ≡ log_of records ++ gained records target
    log_inserted on = read_afresh ∙ log_gains records (rising records F) target P.target_known on
