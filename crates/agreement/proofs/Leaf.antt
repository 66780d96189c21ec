-- A new leaf: the old records keep their parents, so all that an old record sees stays as it was.
use mathlib.Core.Path.{◌∙◌}
use Prim.Native.Nat.{ℕ, ◌<◌}
use native.Mathlib.Omega.{arith}
use Rattle.agreement.specs.Scheme.{Scheme}
use Rattle.agreement.specs.Tree.{Tree, here, up, ◌⊢◌⊑◌}
use Rattle.agreement.specs.Facts.{Facts}
use Rattle.agreement.specs.Steps.{NewLeaf}
use Rattle.agreement.proofs.Paths.{On-up, On-known}
use Rattle.agreement.proofs.Extend.{Extends}

module _ {𝓢 : Scheme} {T T' : Tree 𝓢.Conf} {n base : ℕ} {clock : ℕ → ℕ} {holds : ℕ → ℕ → Type 0}
    (F : Facts 𝓢 T n clock holds) (N : NewLeaf T T' n base) where
  -- an old record's path is the same, one way and the other
  pub leaf_kept : {a b : ℕ} → T ⊢ a ⊑ b → b < n → T' ⊢ a ⊑ b
  leaf_kept here h = here
  leaf_kept (up {b = b} p) h = On-up (N.parents b h) (leaf_kept p (F.parent_known b h))

  parent_old : (i : ℕ) → i < n → T'.parent i < n
  parent_old i h = rw (N.parents i h) (F.parent_known i h)

  pub leaf_back : {a b : ℕ} → T' ⊢ a ⊑ b → b < n → T ⊢ a ⊑ b
  leaf_back here h = here
  leaf_back (up {b = b} p) h = let q = leaf_back p (parent_old b h) in up (rw (N.parents b h) at q)

  -- the new record's path is the base's path and itself
  pub leaf_new : {a : ℕ} → base < n → T ⊢ a ⊑ base → T' ⊢ a ⊑ n
  leaf_new h p = On-up N.parent_new (leaf_kept p h)

  pub leaf_last : {a : ℕ} → base < n → T' ⊢ a ⊑ T'.parent n → T ⊢ a ⊑ base
  leaf_last h p = leaf_back (rw N.parent_new at p) h

  pub leaf_extends : Extends T T' n
  leaf_extends = record {
    keeps = N.keeps;
    root_parent = N.parents 0 F.opened ∙ F.root_parent;
    parent_known = λ i h. omega (arith, parent_old i h);
    parent_caller = λ i h. rw (N.parents i h) (N.keeps.caller (T.parent i) (F.parent_known i h));
    parent_time = λ i h. rw (N.parents i h) (N.keeps.time (T.parent i) (F.parent_known i h));
    parent_version = λ i h. rw (N.parents i h) (N.keeps.version (T.parent i) (F.parent_known i h));
    parent_conf = λ i h. rw (N.parents i h) (N.keeps.conf (T.parent i) (F.parent_known i h));
    parent_sort = λ i h e. rw (N.parents i h, N.keeps.sort (T.parent i) (F.parent_known i h)) (λ s. s);
    parent_open = λ i h. rw (N.parents i h, N.keeps.sort (T.parent i) (F.parent_known i h)) (λ s. s);
    kept = λ p h. leaf_kept p h;
    back = λ p h k. leaf_back p k;
    old = λ p h s. On-known parent_old p h;
  }
