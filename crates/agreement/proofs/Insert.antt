-- A commit put between its target and the target's children: old paths only gain the commit, and what a moved child read
-- off the target it reads off the commit.
use mathlib.Core.Path.{◌≡◌, refl, sym, ap, ◌∙◌}
use mathlib.Core.Logic.{◌⊎◌, inl, inr, ⊎_elim}
use Prim.Native.Nat.{ℕ, suc, ◌<◌}
use native.Mathlib.Omega.{arith}
use Rattle.agreement.specs.Scheme.{Scheme}
use Rattle.agreement.specs.Tree.{Tree, commit, here, up, ◌⊢◌⊑◌}
use Rattle.agreement.specs.Facts.{Facts, Commit}
use Rattle.agreement.specs.Passed.{Pushed}
use Rattle.agreement.specs.Steps.{NewCommit}
use Rattle.agreement.proofs.Cases.{above_zero, equal_or_not, less_or_same, below_suc}
use Rattle.agreement.proofs.Paths.{On-same, On-up, On-known}
use Rattle.agreement.proofs.Rising.{uncommitted}
use Rattle.agreement.proofs.Extend.{Extends}

-- where the parent of an old record is now
data Parent {Conf : Type 0} (T T' : Tree Conf) (n target i : ℕ) : Type 0 where
  moves : T.parent i ≡ target → T'.parent i ≡ n → Parent T T' n target i
  stays : ¬ (T.parent i ≡ target) → T'.parent i ≡ T.parent i → Parent T T' n target i

module _ {𝓢 : Scheme} {T T' : Tree 𝓢.Conf} {n target voters : ℕ} {clock : ℕ → ℕ} {holds : ℕ → ℕ → Type 0}
    (F : Facts 𝓢 T n clock holds) (P : Pushed 𝓢 T n clock target voters) (N : NewCommit T T' n target voters) where
  open N use {keeps, moved, stayed, parent_new}
  open P use {target_known, target_open}

  parent : (i : ℕ) → i < n → Parent T T' n target i
  parent i h = ⊎_elim (λ e. moves e (moved i h e)) (λ d. stays d (stayed i h d)) (equal_or_not (T.parent i) target)

  parent_known : (i : ℕ) → i < suc n → T'.parent i < suc n
  parent_known = below_suc (λ i. T'.parent i < suc n) n (λ i h. go i h (parent i h)) (rw parent_new (omega (arith, target_known)))
    where
      go : (i : ℕ) → i < n → Parent T T' n target i → T'.parent i < suc n
      go i h (moves e m) = rw m (omega arith)
      go i h (stays d s) = rw s (omega (arith, F.parent_known i h))

  -- what was on an old record's path is on it
  pub insert_kept : {a b : ℕ} → T ⊢ a ⊑ b → b < n → T' ⊢ a ⊑ b
  insert_kept here h = here
  insert_kept {a} (up {b = b} p) h = go (insert_kept p (F.parent_known b h)) (parent b h)
    where
      go : T' ⊢ a ⊑ T.parent b → Parent T T' n target b → T' ⊢ a ⊑ b
      go q (moves e m) = On-up m (On-up parent_new (rw e at q))
      go q (stays d s) = On-up s q

  -- what was on the target's path is on the commit's
  pub insert_new : {a : ℕ} → T ⊢ a ⊑ target → T' ⊢ a ⊑ n
  insert_new p = On-up parent_new (insert_kept p target_known)

  -- the commit is on the path of what is under the target
  pub insert_under : {j : ℕ} → T ⊢ target ⊑ j → j < n → (target ≡ j) ⊎ T' ⊢ n ⊑ j
  insert_under here h = inl refl
  insert_under (up {b = j} p) h = go (insert_under p (F.parent_known j h)) (parent j h)
    where
      go : (target ≡ T.parent j) ⊎ T' ⊢ n ⊑ T.parent j → Parent T T' n target j → (target ≡ j) ⊎ T' ⊢ n ⊑ j
      go q (moves e m) = inr (On-up m here)
      go (inl f) (stays d s) = absurd (d (sym f))
      go (inr q) (stays d s) = inr (On-up s q)

  -- and the way back, for an old record and for the commit
  back_both : {a j : ℕ} → T' ⊢ a ⊑ j → a < n → (j < n → T ⊢ a ⊑ j) × (j ≡ n → T ⊢ a ⊑ target)
  back_both here h = (λ k. here, λ e. absurd (omega arith))
  back_both {a} (up {b = j} p) h = let (old, new) = back_both p h in (λ k. from_old old new k (parent j k), from_new old)
    where
      from_old : (T'.parent j < n → T ⊢ a ⊑ T'.parent j) → (T'.parent j ≡ n → T ⊢ a ⊑ target) → j < n →
          Parent T T' n target j → T ⊢ a ⊑ j
      from_old old new k (moves e m) = On-up e (new m)
      from_old old new k (stays d s) = let q = old (rw s (F.parent_known j k)) in up (rw s at q)

      from_new : (T'.parent j < n → T ⊢ a ⊑ T'.parent j) → j ≡ n → T ⊢ a ⊑ target
      from_new old e =
          let f : T'.parent j ≡ target = ap T'.parent e ∙ parent_new in
          let q = old (rw f target_known) in
          rw f at q

  pub insert_old : {a b : ℕ} → T' ⊢ a ⊑ b → a < n → b < n → T ⊢ a ⊑ b
  insert_old p h k = (back_both p h).0 k

  -- the commit's path is the target's path and itself
  pub insert_path : {a : ℕ} → T' ⊢ a ⊑ n → (a ≡ n) ⊎ T ⊢ a ⊑ target
  insert_path p = ⊎_elim (λ h. inr ((back_both p h).1 refl)) inl (less_or_same (On-known parent_known p (omega arith)))

  -- what the commit is on the path of is strictly under the target
  pub under_back : {a j : ℕ} → T' ⊢ a ⊑ j → a ≡ n → j < n → T ⊢ target ⊑ T.parent j
  under_back here e h = absurd (omega arith)
  under_back (up {b = j} p) e h = go (λ k. under_back p e k) (parent j h)
    where
      go : (T'.parent j < n → T ⊢ target ⊑ T.parent (T'.parent j)) → Parent T T' n target j → T ⊢ target ⊑ T.parent j
      go ih (moves f m) = On-same (sym f)
      go ih (stays d s) = let q = ih (rw s (F.parent_known j h)) in up (rw s at q)

  -- what is equal at the commit and the target, and at old records, is equal at old and new parents
  parent_data : {A : Type 0} (f' f : ℕ → A) → f' n ≡ f target → ((i : ℕ) → i < n → f' i ≡ f i) →
      (i : ℕ) → i < n → f' (T'.parent i) ≡ f (T.parent i)
  parent_data f' f new old i h = go (parent i h)
    where
      go : Parent T T' n target i → f' (T'.parent i) ≡ f (T.parent i)
      go (moves e m) = ap f' m ∙ new ∙ ap f (sym e)
      go (stays d s) = ap f' s ∙ old (T.parent i) (F.parent_known i h)

  -- the target is not record 0
  pub target_positive : 0 < target
  target_positive = uncommitted F target target_open

  -- record 0 is no child of the target, and by refusal 8 no commit is
  root_no_child : ¬ (T.parent 0 ≡ target)
  root_no_child e = omega (arith, F.root_parent, target_positive)

  no_commit_child : (i : ℕ) → i < n → T.sort i ≡ commit → ¬ (T.parent i ≡ target)
  no_commit_child i h s e =
      let t = F.shape i (above_zero (λ i. T.parent i ≡ target) root_no_child i e) h in
      let c : Commit 𝓢 T i = rw s at t in
      let l = P.target_first i h s (c.continues.caller_is ∙ ap T.caller e) (c.continues.time_is ∙ ap T.time e) in
      omega (arith, c.version_is ∙ ap T.version e)

  parent_open : (i : ℕ) → i < n → ¬ (T'.sort (T'.parent i) ≡ commit) → ¬ (T.sort (T.parent i) ≡ commit)
  parent_open i h r = go (parent i h)
    where
      go : Parent T T' n target i → ¬ (T.sort (T.parent i) ≡ commit)
      go (moves e m) = rw e target_open
      go (stays d s) = rw (s, keeps.sort (T.parent i) (F.parent_known i h)) at r

  pub insert_extends : Extends T T' n
  insert_extends = record {
    keeps = keeps;
    root_parent = stayed 0 F.opened root_no_child ∙ F.root_parent;
    parent_known = λ i h. parent_known i (omega arith);
    parent_caller = parent_data T'.caller T.caller N.caller_new keeps.caller;
    parent_time = parent_data T'.time T.time N.time_new keeps.time;
    parent_version = parent_data T'.version T.version N.version_new keeps.version;
    parent_conf = parent_data T'.conf T.conf N.conf_new keeps.conf;
    parent_sort = λ i h s. rw (stayed i h (no_commit_child i h s), keeps.sort (T.parent i) (F.parent_known i h)) (λ r. r);
    parent_open = parent_open;
    kept = λ p h. insert_kept p h;
    back = λ p h k. insert_old p h k;
    old = λ p h s.
        ⊎_elim (λ k. k) (λ e. absurd (s (ap T'.sort e ∙ N.sort_new))) (less_or_same (On-known parent_known p (omega arith)));
  }
