-- A push that passes: no voter of the commit has voted in a later election, and the commit's path is the target's path
-- and itself.
use mathlib.Core.Path.{◌≡◌, sym, ◌∙◌}
use mathlib.Core.Logic.{◌⊎◌, inl, inr, ⊎_map}
use Prim.Native.Nat.{ℕ, suc, ◌<◌}
use native.Mathlib.Omega.{arith}
use Rattle.agreement.specs.Scheme.{Scheme}
use Rattle.agreement.specs.Tree.{Tree, election, ◌⊢◌⊑◌}
use Rattle.agreement.specs.Facts.{Facts, Commit}
use Rattle.agreement.specs.Passed.{Pushed}
use Rattle.agreement.specs.Steps.{NewCommit, Handed}
use Rattle.agreement.proofs.Cases.{election_or_commit}
use Rattle.agreement.proofs.Paths.{On-same}
use Rattle.agreement.proofs.Extend.{Owed, extend}
use Rattle.agreement.proofs.Insert.{target_positive, insert_new, insert_under, insert_extends}

module _ {𝓢 : Scheme} {T T' : Tree 𝓢.Conf} {n target voters : ℕ} {clock clock' : ℕ → ℕ} {holds holds' : ℕ → ℕ → Type 0}
    (F : Facts 𝓢 T n clock holds) (P : Pushed 𝓢 T n clock target voters) (N : NewCommit T T' n target voters)
    (H : Handed 𝓢 T' n (suc n) clock clock' holds holds') where
  open N use {keeps, parent_new, sort_new, caller_new, time_new, version_new, voters_new, conf_new}
  open P use {target_known, target_open}

  positive : 0 < target
  positive = target_positive F P N

  shape : Commit 𝓢 T' n
  shape = record {
    continues = record {
      caller_is = rw (parent_new, keeps.caller target target_known) caller_new;
      time_is = rw (parent_new, keeps.time target target_known) time_new;
    };
    version_is = rw (parent_new, keeps.version target target_known) version_new;
    conf_is = rw (parent_new, keeps.conf target target_known) conf_new;
    target = rw (parent_new, keeps.sort target target_known) target_open;
    quorum = rw (voters_new, conf_new) P.quorum;
  }

  -- what is comparable with the target is comparable with the commit
  chained : (i : ℕ) → i < n → T ⊢ i ⊑ target ⊎ T ⊢ target ⊑ i → T' ⊢ i ⊑ n ⊎ T' ⊢ n ⊑ i
  chained i h (inl p) = inl (insert_new F P N p)
  chained i h (inr p) = ⊎_map (λ e. insert_new F P N (On-same (sym e))) (λ q. q) (insert_under F P N p h)

  no_election : ¬ (T'.sort n ≡ election)
  no_election e = election_or_commit e sort_new

  owed : Owed 𝓢 T T' n clock'
  owed = record {
    parent_known = rw parent_new (omega (arith, target_known));
    rooted = insert_new F P N (F.rooted target target_known);
    after_root = rw time_new (F.after_root target positive target_known);
    shape = rw sort_new shape;
    chain = λ i z h c t. chained i h (F.chain i target z h positive target_known (c ∙ caller_new) (t ∙ time_new));
    clock_called = rw (time_new, caller_new) (omega (arith, F.clock_called target positive target_known, H.rise (T.caller target)));
    clock_voted = λ v e. absurd (no_election e);
    after_commit = λ c v h e. absurd (no_election e);
    first_vote = λ c v h e. absurd (no_election e);
    no_later = λ e v h s r x y. omega (arith, F.clock_voted e v h s x, P.clocks_within v (rw voters_new at y), time_new);
  }

  -- the facts after a push
  pub pushed : Facts 𝓢 T' (suc n) clock' holds'
  pushed = extend F (insert_extends F P N) H owed
