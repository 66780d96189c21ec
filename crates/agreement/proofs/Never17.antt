-- Refusal 17 never comes: every commit is on the path of a target whose push has passed. So the new commit is above every
-- old one.
use mathlib.Core.Path.{◌≡◌, refl, sym, ◌∙◌}
use mathlib.Core.Logic.{◌⊎◌, inl, inr, ⊎_elim}
use Prim.Native.Nat.{ℕ, suc, ◌+◌, ◌≤◌, ◌<◌}
use native.Mathlib.Omega.{arith}
use Rattle.agreement.specs.Scheme.{Scheme}
use Rattle.agreement.specs.Tree.{Tree, commit, here, up, Below, ◌⊢◌⊑◌}
use Rattle.agreement.specs.Facts.{Facts}
use Rattle.agreement.specs.Passed.{Pushed}
use Rattle.agreement.specs.Steps.{NewCommit, Handed, reached}
use Rattle.agreement.proofs.Cases.{Compared, less, same, more, compared, below_suc, commit_or_not}
use Rattle.agreement.proofs.Paths.{Below-like}
use Rattle.agreement.proofs.Rising.{positive, uncommitted, strictly, time_rises, version_rises, one_caller}
use Rattle.agreement.proofs.Nearest.{Top, over, top_of, commit_quorum, share}
use Rattle.agreement.proofs.Theorem.{commits_comparable}
use Rattle.agreement.proofs.Insert.{insert_path, under_back}
use Rattle.agreement.proofs.Push.{pushed}
use Rattle.agreement.proofs.Inserted.{inserted, inserted_new}

module _ {𝓢 : Scheme} {T : Tree 𝓢.Conf} {n target voters : ℕ} {clock : ℕ → ℕ} {holds : ℕ → ℕ → Type 0}
    (F : Facts 𝓢 T n clock holds) (P : Pushed 𝓢 T n clock target voters) where
  open P use {target_known, target_open}

  -- no commit stands under the target with no other commit between
  first_under : (k c : ℕ) → c < n → T.sort c ≡ commit → T ⊢ target ⊑ T.parent c → Top T k target → Top T k (T.parent c) → ⊥
  first_under k c h s p t t' = go (compared (T.time target) (T.time c))
    where
      on : T ⊢ target ⊑ c
      on = up p

      risen : T.time target ≤ T.time c
      risen = time_rises F on h

      late : 0 < T.time c
      late = omega (arith, risen, F.after_root target (uncommitted F target target_open) target_known)

      go : Compared (T.time target) (T.time c) → ⊥
      go (less l) =
          let (v, x, y) = share F t t' target_known (F.parent_known c h) P.quorum (commit_quorum F c (positive F c late) h s) in
          omega (arith, F.clock_held c v h (F.voters_hold c v h s y), P.clocks_within v x)
      go (same e) = omega (arith, version_rises F on h e, P.target_first c h s (sym (one_caller F on h late e)) (sym e))
      go (more l) = omega (arith, risen)

  -- so a record under the target has the target's nearest commit
  top_under : {k x : ℕ} → Top T k target → T ⊢ target ⊑ x → x < n → Top T k x
  top_under t here h = t
  top_under {k} t (up {b = x} p) h = go (commit_or_not (T.sort x)) (top_under t p (F.parent_known x h))
    where
      go : (T.sort x ≡ commit) ⊎ ¬ (T.sort x ≡ commit) → Top T k (T.parent x) → Top T k x
      go (inl s) u = absurd (first_under k x h s p t u)
      go (inr s) u = over s u

  none_under : (c : ℕ) → c < n → T.sort c ≡ commit → ¬ (T ⊢ target ⊑ T.parent c)
  none_under c h s p =
      let (k, t) = top_of F target target_known in
      first_under k c h s p t (top_under t p (F.parent_known c h))

  -- the tree with the new commit in place, at clocks that have come to the target's time
  T' : Tree 𝓢.Conf
  T' = inserted T n target voters

  N : NewCommit T T' n target voters
  unfolding T'
  N = inserted_new T n target voters

  clock' : ℕ → ℕ
  clock' v = clock v + T.time target

  handed : Handed 𝓢 T' n (suc n) clock clock' holds (λ v i. T'.time i ≤ clock' v)
  unfolding clock'
  handed = record {
    rise = λ v. omega arith;
    voters_hold = λ i v h. below_suc (λ i. T'.sort i ≡ commit → 𝓢.Has (T'.voters i) v → T'.time i ≤ clock' v) n (old v) (new v) i h;
    holder = λ i v h l. reached l;
  }
    where
      old : (v i : ℕ) → i < n → T'.sort i ≡ commit → 𝓢.Has (T'.voters i) v → T'.time i ≤ clock' v
      old v i h s x =
          let l = F.clock_held i v h (F.voters_hold i v h (rw (N.keeps.sort i h) at s) (rw (N.keeps.voters i h) at x)) in
          rw (N.keeps.time i h) (omega arith)

      new : (v : ℕ) → T'.sort n ≡ commit → 𝓢.Has (T'.voters n) v → T'.time n ≤ clock' v
      new v s x = rw N.time_new (omega arith)

  -- in it the new commit is comparable with every other, and none is under the target
  pub never17 : (c : ℕ) → c < n → T.sort c ≡ commit → T ⊢ c ⊑ target
  never17 c h s = go (commits_comparable (pushed F P N handed) c n (omega arith) (omega arith) (N.keeps.sort c h ∙ s) N.sort_new)
    where
      go : T' ⊢ c ⊑ n ⊎ T' ⊢ n ⊑ c → T ⊢ c ⊑ target
      go (inl p) = ⊎_elim (λ e. absurd (omega arith)) (λ q. q) (insert_path F P N p)
      go (inr p) = absurd (none_under c h s (under_back F P N p refl h))

  module _ {T' : Tree 𝓢.Conf} (N : NewCommit T T' n target voters) where
    open N use {keeps}

    -- the new commit is above every old one
    pub new_above : (c : ℕ) → c < n → T.sort c ≡ commit → Below T' c n
    new_above c h s =
        Below-like (sym (keeps.time c h)) (sym (keeps.version c h)) (rw (keeps.sort c h) (λ f. f))
        (sym N.time_new) (sym N.version_new) (λ f. absurd (target_open f))
        (strictly F (never17 c h s) target_known (λ e. target_open (rw e at s)))
