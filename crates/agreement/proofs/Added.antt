-- A record added at the end of the list is a new leaf of the tree. If it is no commit, the log stays the one read afresh.
use Prim.Native.Nat.{ℕ, suc, ◌<◌}
use native.Mathlib.Omega.{arith}
use mathlib.Core.Path.{◌≡◌, refl, sym, ap, ◌∙◌}
use mathlib.Core.Bool.{true, false}
use mathlib.Core.List.{List, [], ◌∷◌, ◌++◌, reverse}
use lib.ListN.{length, length-append, get_or-append}
use lib.Seq.{get_or-append_seam}
use Rattle.rules.specs.declared.Record.{Record}
use Rattle.rules.specs.Nodes.{nodes, empty}
use Rattle.rules.specs.Records.{blank, at, is_commit, is_entry, above}
use Rattle.rules.specs.Tree.{latest_commit}
use Rattle.rules.specs.State.{State, log_of, full}
use Rattle.rules.proofs.Bools.{torn}
use Rattle.rules.proofs.Paths.{Rising}
use Rattle.rules.proofs.Searches.{LatestAt, commit_is}
use Rattle.rules.proofs.Logs.{entries_agree}
use Rattle.agreement.specs.Steps.{NewLeaf}
use Rattle.agreement.proofs.Cases.{below_suc}
use Rattle.agreement.proofs.Reading.{tree_of}
use Rattle.agreement.proofs.Upward.{rising}
use Rattle.agreement.proofs.Sound.{FactsOf, Sound, latest_commit_lem}
use Rattle.agreement.proofs.OneMore.{OneMore, keeps, sound_more}

module _ (records : List Record) (r : Record) where
  abbrev pub with_one : List Record
  with_one = records ++ (r ∷ [])

  pub at_old : (i : ℕ) → i < length records → at with_one i ≡ at records i
  at_old i l = get_or-append records (r ∷ []) blank i l

  pub added_more : OneMore records with_one r
  added_more = record {
    counted = omega (arith, length-append records (r ∷ []));
    new = get_or-append_seam records r [] blank;
    caller = λ i l. ap (λ (q : Record). q.caller) (at_old i l);
    time = λ i l. ap (λ (q : Record). q.time) (at_old i l);
    version = λ i l. ap (λ (q : Record). q.version) (at_old i l);
    members = λ i l. ap (λ (q : Record). q.members) (at_old i l);
    kind = λ i l. ap (λ (q : Record). q.kind) (at_old i l);
  }

  pub added_leaf : NewLeaf (tree_of records) (tree_of with_one) (length records) r.parent
  added_leaf = record {
    keeps = keeps added_more;
    parents = λ i l. ap (λ (q : Record). q.parent) (at_old i l);
    parent_new = ap (λ (q : Record). q.parent) added_more.new;
  }

  -- the latest commit stays the latest
  stays : is_commit r ≡ false → (i : ℕ) → LatestAt (λ i r. is_commit r) records i → LatestAt (λ i r. is_commit r) with_one i
  stays e i L = record {
    among = rw added_more.counted (let l = L.among in omega arith);
    there = refl;
    wants = rw (at_old i L.among) L.wants;
    tops = λ j. rw added_more.counted (
        below_suc (λ j. is_commit (at with_one j) ≡ true → above (at with_one j) (at with_one i) ≡ false) (length records)
        (λ j l. rw (at_old j l, at_old i L.among) (L.tops j l))
        (rw added_more.new (λ w. absurd (torn w e))) j);
    lowest = λ j l. let m = L.among in rw (at_old j (omega arith), at_old i L.among) (L.lowest j l);
  }

  pub log_stays : Rising records → Rising with_one → is_commit r ≡ false → LatestAt (λ i r. is_commit r) records (latest_commit records)
      → log_of with_one ≡ log_of records
  unfolding log_of
  log_stays up up' e L =
      rw (commit_is with_one (latest_commit records) (stays e (latest_commit records) L))
      (ap reverse (entries_agree records with_one up up' (omega (arith, added_more.counted))
      (λ i l. ap is_entry (at_old i l))
      (λ i. Unit {0})
      (λ i z l o. ap (λ (q : Record). q.parent) (at_old i l))
      (λ i z l o. tt)
      (latest_commit records) L.among tt))

-- a state with a leaf more that is no commit is sound, if the new tree has the facts
pub added_sound : {s : State} {clocks' : List ℕ} (S : Sound s) (r : Record) → FactsOf clocks' (with_one s.records r) (suc (length s.records))
    → length clocks' ≡ nodes → full s.records ≡ false → r.caller < nodes → empty r.members ≡ false → is_commit r ≡ false
    → Sound (record { clocks = clocks'; records = with_one s.records r; log = s.log })
added_sound {s} {clocks'} S r F sixteen room caller members e =
    sound_more S M F sixteen room caller members (S.logged ∙ sym (log_stays s.records r (rising s.records S.facts) up' e (latest_commit_lem S)))
  where
    M : OneMore s.records (with_one s.records r) r
    M = added_more s.records r

    up' : Rising (with_one s.records r)
    up' = rising (with_one s.records r) (rw (sym M.counted) at F)
