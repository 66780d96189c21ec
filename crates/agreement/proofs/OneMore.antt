-- One more record in a list: the old records keep all but their parents. Then the tree keeps them too, every holder is accounted
-- for, and with the facts of the new tree the new state is sound.
use Prim.Native.Nat.{ℕ, suc, ◌≤◌, ◌<◌}
use mathlib.Core.Path.{◌≡◌, sym, ap, ◌∙◌}
use mathlib.Core.Logic.{⊎_elim}
use mathlib.Core.Bool.{true, false}
use mathlib.Core.List.{List}
use borrow.Author.Tests.{eqb-true, leb-false}
use lib.ListN.{length}
use Rattle.rules.specs.declared.Record.{Record}
use Rattle.rules.specs.Nodes.{nodes, has, empty}
use Rattle.rules.specs.Clocks.{clock}
use Rattle.rules.specs.Records.{at, is_commit, holds, called as calledBy}
use Rattle.rules.specs.State.{State, places, log_of, is_opening, rooted, full}
use Rattle.rules.proofs.Bools.{tested}
use Rattle.rules.proofs.Records.{holds_caller, holds_voters}
use Rattle.agreement.specs.Steps.{Keeps, Handed, Holder, held, called, reached}
use Rattle.agreement.proofs.Cases.{below_suc}
use Rattle.agreement.proofs.Single.{single}
use Rattle.agreement.proofs.Reading.{sort_of, voters_of, tree_of}
use Rattle.agreement.proofs.Readings.{commit_kind_lem, commit_sort, voters_hold}
use Rattle.agreement.proofs.Reading as Reading
use Rattle.agreement.proofs.Sound.{FactsOf, Sound}

-- the list has record r more, with the next number
pub record OneMore (records records' : List Record) (r : Record) : Type 0 where
  pub counted : length records' ≡ suc (length records)
  pub new : at records' (length records) ≡ r
  pub caller : (i : ℕ) → i < length records → (at records' i).caller ≡ (at records i).caller
  pub time : (i : ℕ) → i < length records → (at records' i).time ≡ (at records i).time
  pub version : (i : ℕ) → i < length records → (at records' i).version ≡ (at records i).version
  pub members : (i : ℕ) → i < length records → (at records' i).members ≡ (at records i).members
  pub kind : (i : ℕ) → i < length records → (at records' i).kind ≡ (at records i).kind

module _ {records records' : List Record} {r : Record} (M : OneMore records records' r) where
  pub keeps : Keeps (tree_of records) (tree_of records') (length records)
  keeps = record {
    caller = M.caller;
    time = M.time;
    version = M.version;
    sort = λ i l. ap sort_of (M.kind i l);
    voters = λ i l. ap voters_of (M.kind i l);
    conf = M.members;
  }

  module _ (clocks clocks' : List ℕ) where
    abbrev Holds : ℕ → ℕ → Type 0
    Holds v i = Reading.held records' v i → Holder (tree_of records') (length records) (clock clocks') (Reading.held records) v i

    -- who holds an old record held it
    old_holder : (v i : ℕ) → i < length records → Holds v i
    unfolding holds
    old_holder v i l h = held l (rw (M.kind i l, M.caller i l) at h)

    -- who holds the new one called it, or voted in it and has come to its time
    new_holder : 0 < length records → (is_commit r ≡ true → (v : ℕ) → has (voters_of r.kind) v ≡ true → r.time ≤ clock clocks' v)
        → (v : ℕ) → Holds v (length records)
    unfolding calledBy
    new_holder z voted v h = ⊎_elim
        (λ e.
        let k = commit_kind_lem r.kind (commit_sort r.kind e) in
        reached (rw M.new (voted e v (sym (holds_voters (length records) r (voters_of r.kind) v z k) ∙ h'))))
        (λ e. called (rw M.new (sym (eqb-true r.caller v (sym (holds_caller (length records) r v z e) ∙ h')))))
        (tested (is_commit r))
      where
        h' : holds (length records) r v ≡ true
        h' = rw M.new at h

    pub handed : 0 < length records → ((v : ℕ) → clock clocks v ≤ clock clocks' v)
        → (is_commit r ≡ true → (v : ℕ) → has (voters_of r.kind) v ≡ true → r.time ≤ clock clocks' v)
        → Handed single (tree_of records') (length records) (suc (length records)) (clock clocks) (clock clocks')
        (Reading.held records) (Reading.held records')
    handed z rise voted = record {
      rise = rise;
      voters_hold = λ i v h s x. voters_hold records' i v s x;
      holder = λ i v h. below_suc (λ i. Holds v i) (length records) (old_holder v) (new_holder z voted v) i h;
    }

-- with the facts of the new tree, the new state is sound
pub sound_more : {s : State} {records' : List Record} {r : Record} {clocks' log' : List ℕ} → Sound s → OneMore s.records records' r
    → FactsOf clocks' records' (suc (length s.records)) → length clocks' ≡ nodes → full s.records ≡ false
    → r.caller < nodes → empty r.members ≡ false → log' ≡ log_of records'
    → Sound (record { clocks = clocks'; records = records'; log = log' })
unfolding full rooted is_opening
sound_more {s} {records'} {r} {clocks'} S M F sixteen room caller members logged = record {
  facts = rw M.counted F;
  sixteen = sixteen;
  few = rw M.counted (fits room);
  root = same_root S.root;
  callers = λ i z. rw M.counted (λ l.
      below_suc (λ i. 0 < i → (at records' i).caller < nodes) n (λ i l z. rw (M.caller i l) (S.callers i z l)) (λ z. rw M.new caller) i l z);
  members = λ i. rw M.counted (λ l.
      below_suc (λ i. empty (at records' i).members ≡ false) n (λ i l. rw (M.members i l) (S.members i l)) (rw M.new members) i l);
  logged = logged;
}
  where
    n : ℕ
    n = length s.records

    fits : full s.records ≡ false → suc n ≤ places
    fits e = leb-false places (length s.records) e

    -- record 0 keeps its parent too: itself
    same_root : rooted s.records ≡ true → rooted records' ≡ true
    same_root e =
        let z = S.facts.opened in
        rw (F.root_parent, M.caller 0 z, M.time 0 z, M.version 0 z, M.members 0 z, M.kind 0 z)
        (rw S.facts.root_parent at e)
