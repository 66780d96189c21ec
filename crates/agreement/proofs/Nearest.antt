-- The nearest commit at or above a record. Two records with the same nearest commit have equal or neighbouring
-- configurations, so quorums of the two share a node.
use mathlib.Core.Path.{◌≡◌, refl, sym, ap, ◌∙◌}
use mathlib.Core.Logic.{◌⊎◌, inl, inr, ⊎_elim}
use Prim.Native.Nat.{ℕ, ◌≤◌, ◌<◌}
use native.Mathlib.Omega.{arith}
use Rattle.agreement.specs.Scheme.{Scheme}
use Rattle.agreement.specs.Tree.{Tree, Sort, election, command, change, commit, here, up, ◌⊢◌⊑◌}
use Rattle.agreement.specs.Facts.{Facts, Shape, Change, Commit}
use Rattle.agreement.proofs.Cases.{change_or_commit, commit_or_not}
use Rattle.agreement.proofs.Paths.{On-trans, On-last}
use Rattle.agreement.proofs.Rising.{uncommitted, known, parent_below, time_rises, no_loop, one_caller}

-- k is the nearest commit on the path of a record
pub data Top {Conf : Type 0} (T : Tree Conf) (k : ℕ) : ℕ → Type 0 where
  top : T.sort k ≡ commit → Top T k k
  over : {x : ℕ} → ¬ (T.sort x ≡ commit) → Top T k (T.parent x) → Top T k x

-- a commit on the path of a record that is none is on its parent's path
pub commit_above : {Conf : Type 0} (T : Tree Conf) {m x : ℕ} → T.sort m ≡ commit → ¬ (T.sort x ≡ commit) →
    T ⊢ m ⊑ x → T ⊢ m ⊑ T.parent x
commit_above T e s q = ⊎_elim (λ i. absurd (s (rw i at e))) (λ p. p) (On-last q)

module _ {Conf : Type 0} {T : Tree Conf} where
  pub top_commit : {k x : ℕ} → Top T k x → T.sort k ≡ commit
  top_commit (top e) = e
  top_commit (over s p) = top_commit p

  pub top_on : {k x : ℕ} → Top T k x → T ⊢ k ⊑ x
  top_on (top e) = here
  top_on (over s p) = up (top_on p)

  -- every commit on the path is on the nearest one's path
  pub nearest : {m k x : ℕ} → Top T k x → T.sort m ≡ commit → T ⊢ m ⊑ x → T ⊢ m ⊑ k
  nearest (top s) e q = q
  nearest (over s p) e q = nearest p e (commit_above T e s q)

  -- a path that begins with a commit has a nearest one
  pub find : {a x : ℕ} → T.sort a ≡ commit → T ⊢ a ⊑ x → (k : ℕ) × Top T k x
  find {a} e here = (a, top e)
  find e (up {b = x} p) = go (find e p) (commit_or_not (T.sort x))
    where
      go : (k : ℕ) × Top T k (T.parent x) → (T.sort x ≡ commit) ⊎ ¬ (T.sort x ≡ commit) → (k : ℕ) × Top T k x
      go t (inl s) = (x, top s)
      go t (inr s) = (t.0, over s t.1)

-- the configuration at x: that of the nearest commit k, or that of the last change after it
data Since {Conf : Type 0} (T : Tree Conf) (k x : ℕ) : Type 0 where
  unchanged : T.conf x ≡ T.conf k → Since T k x
  changed : (r : ℕ) → T.sort r ≡ change → T ⊢ r ⊑ x → Top T k (T.parent r) → T.conf x ≡ T.conf r → Since T k x

module _ {𝓢 : Scheme} {T : Tree 𝓢.Conf} {n : ℕ} {clock : ℕ → ℕ} {holds : ℕ → ℕ → Type 0} (F : Facts 𝓢 T n clock holds) where
  -- every record has a nearest commit
  pub top_of : (x : ℕ) → x < n → (k : ℕ) × Top T k x
  top_of x h = find F.root_sort (F.rooted x h)

  -- a commit's voters are a quorum of its parent's configuration
  pub commit_quorum : (c : ℕ) → 0 < c → c < n → T.sort c ≡ commit → 𝓢.Quorum (T.voters c) (T.conf (T.parent c))
  commit_quorum c z h e =
      let s = F.shape c z h in
      let t : Commit 𝓢 T c = rw e at s in
      rw t.conf_is at t.quorum

  -- going up from x, elections and commands keep the configuration
  since : {k x : ℕ} → Top T k x → x < n → Since T k x
  since (top e) h = unchanged refl
  since {k} (over {x = x} s p) h = go (T.sort x) refl (F.shape x (uncommitted F x s) h) (since p (F.parent_known x h))
    where
      onward : T.conf x ≡ T.conf (T.parent x) → Since T k (T.parent x) → Since T k x
      onward e (unchanged f) = unchanged (e ∙ f)
      onward e (changed r c i t f) = changed r c (up i) t (e ∙ f)

      go : (s : Sort) → T.sort x ≡ s → Shape 𝓢 T x s → Since T k (T.parent x) → Since T k x
      go election e t ih = onward t.conf_is ih
      go command e t ih = onward t.conf_is ih
      go change e t ih = changed x e here p refl
      go commit e t ih = absurd (s e)

  -- a change r, and the nearest commit k above it
  module _ {k r : ℕ} (h : r < n) (e : T.sort r ≡ change) (p : Top T k (T.parent r)) where
    change_positive : 0 < r
    change_positive = uncommitted F r (change_or_commit e)

    change_shape : Change 𝓢 T r
    change_shape = let s = F.shape r change_positive h in rw e at s

    -- it is not on its parent's path, so not on k's
    not_own : ¬ (T ⊢ r ⊑ T.parent r)
    not_own q = no_loop F q (F.parent_known r h) (parent_below F r change_positive h)

    not_above : ¬ (T ⊢ r ⊑ k)
    not_above q = not_own (On-trans q (top_on p))

    -- R2: any other change on its path is on k's
    closed : (r' : ℕ) → T.sort r' ≡ change → T ⊢ r' ⊑ T.parent r → T ⊢ r' ⊑ k
    closed r' e' q =
        let (c, s, i, j) = change_shape.closed r' e' (up q) (λ f. not_own (rw f at q)) in
        On-trans i (nearest p s (commit_above T s (change_or_commit e) j))

    -- R3: it has k's caller and time
    led : (T.caller k ≡ T.caller r) × (T.time k ≡ T.time r)
    led =
        let (c, s, i, t) = change_shape.led in
        let on : T ⊢ k ⊑ r = up (top_on p) in
        let l : T.time c ≤ T.time k = time_rises F (nearest p s (commit_above T s (change_or_commit e) i)) (known F on h) in
        let m : T.time k ≤ T.time r = time_rises F on h in
        (one_caller F on h (F.after_root r change_positive h) (omega arith), omega arith)

  -- it goes from k's configuration to a next one
  change_next : {k r : ℕ} → r < n → T.sort r ≡ change → Top T k (T.parent r) → 𝓢.Next (T.conf k) (T.conf r)
  change_next {k} {r} h e p = rw (go (since p (F.parent_known r h))) at (change_shape h e p).next
    where
      go : Since T k (T.parent r) → T.conf (T.parent r) ≡ T.conf k
      go (unchanged f) = f
      go (changed r' e' i p' f) = absurd (not_above (known F i (F.parent_known r h)) e' p' (closed h e p r' e' i))

  -- and it is the only change whose nearest commit is k
  change_on : {k r r' : ℕ} → r < n → r' < n → T.sort r ≡ change → T.sort r' ≡ change →
      Top T k (T.parent r) → Top T k (T.parent r') → T ⊢ r ⊑ r' → r ≡ r'
  change_on {r} h h' e e' p p' q = ⊎_elim (λ f. f) (λ i. absurd (not_above h e p (closed h' e' p' r e i))) (On-last q)

  one_change : {k r r' : ℕ} → r < n → r' < n → T.sort r ≡ change → T.sort r' ≡ change →
      Top T k (T.parent r) → Top T k (T.parent r') → r ≡ r'
  one_change {r} {r'} h h' e e' p p' =
      let (c, t) = led h e p in
      let (c', t') = led h' e' p' in
      ⊎_elim (change_on h h' e e' p p') (λ q. sym (change_on h' h e' e p' p q))
      (F.chain r r' (change_positive h e p) h (change_positive h' e' p') h' (cc) (cc))

  -- quorums at two records with the same nearest commit share a node
  pub share : {k x y S S' : ℕ} → Top T k x → Top T k y → x < n → y < n →
      𝓢.Quorum S (T.conf x) → 𝓢.Quorum S' (T.conf y) → (v : ℕ) × 𝓢.Has S v × 𝓢.Has S' v
  share {k} {x} {y} {S} {S'} p p' h h' q q' = go (since p h) (since p' h')
    where
      go : Since T k x → Since T k y → (v : ℕ) × 𝓢.Has S v × 𝓢.Has S' v
      go (unchanged f) (unchanged f') = 𝓢.share_same (rw f at q) (rw f' at q')
      go (unchanged f) (changed r e i t f') = 𝓢.share_next (change_next (known F i h') e t) (rw f at q) (rw f' at q')
      go (changed r e i t f) (unchanged f') =
          let (v, a, b) = 𝓢.share_next (change_next (known F i h) e t) (rw f' at q') (rw f at q) in
          (v, b, a)
      go (changed r e i t f) (changed r' e' i' t' f') =
          let g : T.conf y ≡ T.conf r = f' ∙ ap T.conf (one_change (known F i' h') (known F i h) e' e t' t) in
          𝓢.share_same (rw f at q) (rw g at q')
