-- Invoke and reconfigure: the new record continues the head, which is the last record of its caller's chain.
use mathlib.Core.Path.{◌≡◌, sym, ◌∙◌}
use mathlib.Core.Logic.{inl, ⊎_elim}
use Prim.Native.Nat.{ℕ, suc, ◌<◌}
use native.Mathlib.Omega.{arith}
use Rattle.agreement.specs.Scheme.{Scheme}
use Rattle.agreement.specs.Tree.{Tree, election, commit, ◌⊢◌⊑◌}
use Rattle.agreement.specs.Facts.{Facts, Shape, Continues, Command, Change}
use Rattle.agreement.specs.Passed.{Grown, Changed}
use Rattle.agreement.specs.Steps.{NewGrowth, NewCommand, NewChange, Handed}
use Rattle.agreement.proofs.Cases.{command_or_election, command_or_commit, change_or_election, change_or_commit}
use Rattle.agreement.proofs.Paths.{On-last, On-same}
use Rattle.agreement.proofs.Rising.{known, rises}
use Rattle.agreement.proofs.Extend.{extend}
use Rattle.agreement.proofs.Leaf.{leaf_kept, leaf_new, leaf_last, leaf_extends}

module _ {𝓢 : Scheme} {T T' : Tree 𝓢.Conf} {n head : ℕ} {clock clock' : ℕ → ℕ} {holds holds' : ℕ → ℕ → Type 0}
    (F : Facts 𝓢 T n clock holds) (H : Handed 𝓢 T' n (suc n) clock clock' holds holds') where
  module _ (G : Grown T n head) (N : NewGrowth T T' n head) where
    open N use {leaf, caller_new, time_new, version_new}

    continues : Continues 𝓢 T' n
    continues = record {
      caller_is = rw (leaf.parent_new, leaf.keeps.caller head G.head_known) caller_new;
      time_is = rw (leaf.parent_new, leaf.keeps.time head G.head_known) time_new;
    }

    version_is : T'.version n ≡ suc (T'.version (T'.parent n))
    version_is = rw (leaf.parent_new, leaf.keeps.version head G.head_known) version_new

    -- every record of the head's caller and time is on the head's path
    chained : (i : ℕ) → 0 < i → i < n → T.caller i ≡ T.caller head → T.time i ≡ T.time head → T ⊢ i ⊑ head
    chained i z h c t =
        ⊎_elim (λ p. p) (λ p. ⊎_elim (λ e. On-same (sym e)) (λ b. absurd (G.head_latest i z h c b)) (rises F p h))
        (F.chain i head z h G.head_called G.head_known c t)

    -- what both owe
    grow : ¬ (T'.sort n ≡ election) → ¬ (T'.sort n ≡ commit) → Shape 𝓢 T' n (T'.sort n) → Facts 𝓢 T' (suc n) clock' holds'
    grow e c s = extend F (leaf_extends F leaf) H (record {
      parent_known = rw leaf.parent_new (omega (arith, G.head_known));
      rooted = leaf_new F leaf G.head_known (F.rooted head G.head_known);
      after_root = rw time_new (F.after_root head G.head_called G.head_known);
      shape = s;
      chain = λ i z h a t. inl (leaf_new F leaf G.head_known (chained i z h (a ∙ caller_new) (t ∙ time_new)));
      clock_called = rw (time_new, caller_new) (omega (arith, F.clock_called head G.head_called G.head_known, H.rise (T.caller head)));
      clock_voted = λ v r. absurd (e r);
      after_commit = λ d v h r. absurd (e r);
      first_vote = λ d v h r. absurd (e r);
      no_later = λ d v h r q. absurd (c q);
    })

  -- the facts after an invoke
  pub invoked : Grown T n head → NewCommand T T' n head → Facts 𝓢 T' (suc n) clock' holds'
  invoked G N =
      grow G N.growth (command_or_election N.sort_new) (command_or_commit N.sort_new) (rw N.sort_new shape)
    where
      shape : Command 𝓢 T' n
      shape = record {
        continues = continues G N.growth;
        version_is = version_is G N.growth;
        conf_is = rw (N.growth.leaf.parent_new, N.growth.leaf.keeps.conf head G.head_known) N.conf_new;
      }

  module _ {C : 𝓢.Conf} (P : Changed 𝓢 T n head C) (N : NewChange T T' n head C) where
    open N use {growth, sort_new, conf_new}
    open growth use {leaf, time_new}
    open leaf use {keeps, parent_new}
    open P.grown use {head_known}

    -- what is on the new record's path, other than it, is on the head's path
    above : {r : ℕ} → T' ⊢ r ⊑ n → ¬ (r ≡ n) → T ⊢ r ⊑ head
    above p d = ⊎_elim (λ e. absurd (d e)) (leaf_last F leaf head_known) (On-last p)

    change_shape : Change 𝓢 T' n
    change_shape = record {
      continues = continues P.grown growth;
      version_is = version_is P.grown growth;
      next = rw (parent_new, keeps.conf head head_known, conf_new) P.next;
      closed = λ r e p d.
          let q = above p d in
          let (c, s, i, j) = P.closed r (sym (keeps.sort r (known F q head_known)) ∙ e) q in
          let h = known F j head_known in
          (c, keeps.sort c h ∙ s, leaf_kept F leaf i h, leaf_new F leaf head_known j);
      led =
          let (c, s, j, t) = P.led in
          let h = known F j head_known in
          (c, keeps.sort c h ∙ s, leaf_new F leaf head_known j, keeps.time c h ∙ t ∙ sym time_new);
    }

    -- the facts after a reconfigure
    pub reconfigured : Facts 𝓢 T' (suc n) clock' holds'
    reconfigured =
        grow P.grown growth (change_or_election sort_new) (change_or_commit sort_new) (rw sort_new change_shape)
