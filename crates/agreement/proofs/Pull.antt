-- A pull that passes: its voters' clocks are below its time, so no older record or vote has that time, and its base is at
-- or above every commit that a voter voted in.
use mathlib.Core.Path.{◌≡◌}
use Prim.Native.Nat.{ℕ, suc, ◌≤◌, ◌<◌}
use native.Mathlib.Omega.{arith}
use Rattle.agreement.specs.Scheme.{Scheme}
use Rattle.agreement.specs.Tree.{Tree, commit, Below}
use Rattle.agreement.specs.Facts.{Facts, Election}
use Rattle.agreement.specs.Passed.{Elected}
use Rattle.agreement.specs.Steps.{NewElection, Handed}
use Rattle.agreement.proofs.Cases.{election_or_commit}
use Rattle.agreement.proofs.Paths.{Below-kept}
use Rattle.agreement.proofs.Extend.{Owed, extend}
use Rattle.agreement.proofs.Leaf.{leaf_new, leaf_extends}

module _ {𝓢 : Scheme} {T T' : Tree 𝓢.Conf} {n base caller voters time : ℕ} {clock clock' : ℕ → ℕ} {holds holds' : ℕ → ℕ → Type 0}
    (F : Facts 𝓢 T n clock holds) (E : Elected 𝓢 T n clock holds base caller voters time) (N : NewElection T T' n base caller voters time)
    (H : Handed 𝓢 T' n (suc n) clock clock' holds holds') (reached : (v : ℕ) → 𝓢.Has voters v → time ≤ clock' v) where
  open N use {leaf, sort_new, caller_new, voters_new, time_new, conf_new}
  open leaf use {keeps, parent_new}
  open E use {base_known}

  -- a voter's clock is below the new time
  early : (v : ℕ) → 𝓢.Has (T'.voters n) v → clock v < T'.time n
  early v h = rw time_new (E.clocks_below v (rw voters_new at h))

  shape : Election 𝓢 T' n
  shape = record {
    later = rw (parent_new, keeps.time base base_known, time_new) base_early;
    conf_is = rw (parent_new, keeps.conf base base_known) conf_new;
    quorum = rw (parent_new, keeps.conf base base_known, voters_new) E.quorum;
  }
    where
      base_early : T.time base < time
      base_early = let (v, h, k) = E.base_held in omega (arith, F.clock_held base v base_known k, E.clocks_below v h)

  -- no older record has the new caller and the new time
  alone : (i : ℕ) → 0 < i → i < n → T.caller i ≡ T'.caller n → T.time i ≡ T'.time n → ⊥
  alone i z h c t =
      let l = F.clock_called i z h in
      omega (arith, rw (c, caller_new) at l, E.clocks_below caller E.caller_votes, time_new)

  -- a voter in a commit holds it, so the base is not below it
  base_above : (c v : ℕ) → c < n → T.sort c ≡ commit → 𝓢.Has (T'.voters n) v → 𝓢.Has (T.voters c) v → ¬ Below T' (T'.parent n) c
  base_above c v h s x y = rw parent_new λ b.
      E.base_latest v c h (rw voters_new at x) (F.voters_hold c v h s y)
      (Below-kept keeps base_known h b)

  owed : Owed 𝓢 T T' n clock'
  owed = record {
    parent_known = rw parent_new (omega (arith, base_known));
    rooted = leaf_new F leaf base_known (F.rooted base base_known);
    after_root = omega (arith, E.clocks_below caller E.caller_votes, time_new);
    shape = rw sort_new shape;
    chain = λ i z h c t. absurd (alone i z h c t);
    clock_called = rw (time_new, caller_new) (reached caller E.caller_votes);
    clock_voted = λ v s h. rw time_new (reached v (rw voters_new at h));
    after_commit = λ c v h s r x y. base_above c v h r x y;
    first_vote = λ e v h s r x y. omega (arith, F.clock_voted e v h r y, early v x);
    no_later = λ e v h s r. absurd (election_or_commit sort_new r);
  }

  -- the facts after a pull
  pub pulled : Facts 𝓢 T' (suc n) clock' holds'
  pulled = extend F (leaf_extends F leaf) H owed
