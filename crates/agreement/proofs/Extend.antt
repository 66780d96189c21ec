-- One more record: a tree that keeps the old records and their paths keeps the facts, if the new record has what it owes.
use mathlib.Core.Path.{◌≡◌, refl, sym, ◌∙◌}
use mathlib.Core.Logic.{◌⊎◌, inl, ⊎_map, ⊎_swap}
use Prim.Native.Nat.{ℕ, suc, ◌≤◌, ◌<◌}
use native.Mathlib.Omega.{arith}
use Rattle.agreement.specs.Scheme.{Scheme}
use Rattle.agreement.specs.Tree.{Tree, Sort, election, command, change, commit, On, here, Below, ◌⊢◌⊑◌}
use Rattle.agreement.specs.Facts.{Facts, Shape, Continues}
use Rattle.agreement.specs.Steps.{Keeps, Handed}
use Rattle.agreement.proofs.Cases.{change_or_commit, below_suc, below_suc₂}
use Rattle.agreement.proofs.Paths.{Below-like}
use Rattle.agreement.proofs.Clocks.{holder_clock}
use Rattle.agreement.proofs.Rising.{known}

-- the old records keep their data, the data of their parents, and their paths
pub record Extends {Conf : Type 0} (T T' : Tree Conf) (n : ℕ) : Type 0 where
  pub keeps : Keeps T T' n
  pub root_parent : T'.parent 0 ≡ 0
  pub parent_known : (i : ℕ) → i < n → T'.parent i < suc n
  pub parent_caller : (i : ℕ) → i < n → T'.caller (T'.parent i) ≡ T.caller (T.parent i)
  pub parent_time : (i : ℕ) → i < n → T'.time (T'.parent i) ≡ T.time (T.parent i)
  pub parent_version : (i : ℕ) → i < n → T'.version (T'.parent i) ≡ T.version (T.parent i)
  pub parent_conf : (i : ℕ) → i < n → T'.conf (T'.parent i) ≡ T.conf (T.parent i)
  -- a parent becomes a commit, if at all, at a record that is none
  pub parent_sort : (i : ℕ) → i < n → T.sort i ≡ commit → ¬ (T.sort (T.parent i) ≡ commit) → ¬ (T'.sort (T'.parent i) ≡ commit)
  pub parent_open : (i : ℕ) → i < n → ¬ (T'.sort (T'.parent i) ≡ commit) → ¬ (T.sort (T.parent i) ≡ commit)
  pub kept : {a b : ℕ} → T ⊢ a ⊑ b → b < n → T' ⊢ a ⊑ b
  pub back : {a b : ℕ} → T' ⊢ a ⊑ b → a < n → b < n → T ⊢ a ⊑ b
  -- on an old path the new record can only be a commit
  pub old : {a b : ℕ} → T' ⊢ a ⊑ b → b < n → ¬ (T'.sort a ≡ commit) → a < n

-- what the new record owes
pub record Owed (𝓢 : Scheme) (T T' : Tree 𝓢.Conf) (n : ℕ) (clock' : ℕ → ℕ) : Type 0 where
  pub parent_known : T'.parent n < suc n
  pub rooted : T' ⊢ 0 ⊑ n
  pub after_root : 0 < T'.time n
  pub shape : Shape 𝓢 T' n (T'.sort n)
  pub chain : (i : ℕ) → 0 < i → i < n → T.caller i ≡ T'.caller n → T.time i ≡ T'.time n → T' ⊢ i ⊑ n ⊎ T' ⊢ n ⊑ i
  pub clock_called : T'.time n ≤ clock' (T'.caller n)
  pub clock_voted : (v : ℕ) → T'.sort n ≡ election → 𝓢.Has (T'.voters n) v → T'.time n ≤ clock' v
  -- as an election, against an older commit and an older election
  pub after_commit : (c v : ℕ) → c < n → T'.sort n ≡ election → T.sort c ≡ commit → 𝓢.Has (T'.voters n) v → 𝓢.Has (T.voters c) v →
      ¬ Below T' (T'.parent n) c
  pub first_vote : (e v : ℕ) → e < n → T'.sort n ≡ election → T.sort e ≡ election → 𝓢.Has (T'.voters n) v → 𝓢.Has (T.voters e) v →
      T.time e < T'.time n
  -- as a commit, against an older election
  pub no_later : (e v : ℕ) → e < n → T.sort e ≡ election → T'.sort n ≡ commit → 𝓢.Has (T.voters e) v → 𝓢.Has (T'.voters n) v →
      T.time e ≤ T'.time n

module _ {𝓢 : Scheme} {T T' : Tree 𝓢.Conf} {n : ℕ} {clock clock' : ℕ → ℕ} {holds holds' : ℕ → ℕ → Type 0}
    (F : Facts 𝓢 T n clock holds) (X : Extends T T' n) (H : Handed 𝓢 T' n (suc n) clock clock' holds holds') (O : Owed 𝓢 T T' n clock') where
  open X.keeps use {caller, time, version, sort, voters, conf}

  continues_kept : (i : ℕ) → i < n → Continues 𝓢 T i → Continues 𝓢 T' i
  continues_kept i h c = record {
    caller_is = rw (caller i h, X.parent_caller i h) c.caller_is;
    time_is = rw (time i h, X.parent_time i h) c.time_is;
  }

  shape_kept : (i : ℕ) → i < n → (s : Sort) → T.sort i ≡ s → Shape 𝓢 T i s → Shape 𝓢 T' i s
  shape_kept i h election e s = record {
    later = rw (time i h, X.parent_time i h) s.later;
    conf_is = rw (conf i h, X.parent_conf i h) s.conf_is;
    quorum = rw (voters i h, X.parent_conf i h) s.quorum;
  }
  shape_kept i h command e s = record {
    continues = continues_kept i h s.continues;
    version_is = rw (version i h, X.parent_version i h) s.version_is;
    conf_is = rw (conf i h, X.parent_conf i h) s.conf_is;
  }
  shape_kept i h change e s = record {
    continues = continues_kept i h s.continues;
    version_is = rw (version i h, X.parent_version i h) s.version_is;
    next = rw (conf i h, X.parent_conf i h) s.next;
    closed = λ r e' p d.
        let k : r < n = X.old p h (change_or_commit e') in
        let (c, f, q, l) = s.closed r (sym (sort r k) ∙ e') (X.back p k h) d in
        let m = known F l h in
        (c, sort c m ∙ f, X.kept q m, X.kept l h);
    led = let (c, f, l, t) = s.led in
        let m = known F l h in
        (c, sort c m ∙ f, X.kept l h, time c m ∙ t ∙ sym (time i h));
  }
  shape_kept i h commit e s = record {
    continues = continues_kept i h s.continues;
    version_is = rw (version i h, X.parent_version i h) s.version_is;
    conf_is = rw (conf i h, X.parent_conf i h) s.conf_is;
    target = X.parent_sort i h e s.target;
    quorum = rw (voters i h, conf i h) s.quorum;
  }

  -- an old election's parent is below no more commits than it was
  below_back : (e c : ℕ) → e < n → c < n → Below T' (T'.parent e) c → Below T (T.parent e) c
  below_back e c h k =
      Below-like (X.parent_time e h) (X.parent_version e h) (X.parent_open e h) (time c k) (version c k) (rw (sort c k) (λ s. s))

  clock_called' : (i : ℕ) → 0 < i → i < suc n → T'.time i ≤ clock' (T'.caller i)
  clock_called' i z h = below_suc (λ i. 0 < i → T'.time i ≤ clock' (T'.caller i)) n old (λ z. O.clock_called) i h z
    where
      old : (i : ℕ) → i < n → 0 < i → T'.time i ≤ clock' (T'.caller i)
      old i h z = rw (time i h, caller i h) (omega (arith, F.clock_called i z h, H.rise (T.caller i)))

  clock_voted' : (i v : ℕ) → i < suc n → T'.sort i ≡ election → 𝓢.Has (T'.voters i) v → T'.time i ≤ clock' v
  clock_voted' i v h s k = below_suc (λ i. T'.sort i ≡ election → 𝓢.Has (T'.voters i) v → T'.time i ≤ clock' v) n old (O.clock_voted v) i h s k
    where
      old : (i : ℕ) → i < n → T'.sort i ≡ election → 𝓢.Has (T'.voters i) v → T'.time i ≤ clock' v
      old i h s k = rw (time i h) (omega (arith, F.clock_voted i v h (rw (sort i h) at s) (rw (voters i h) at k), H.rise v))

  shape' : (i : ℕ) → 0 < i → i < suc n → Shape 𝓢 T' i (T'.sort i)
  shape' i z h = below_suc (λ i. 0 < i → Shape 𝓢 T' i (T'.sort i)) n old (λ z. O.shape) i h z
    where
      old : (i : ℕ) → i < n → 0 < i → Shape 𝓢 T' i (T'.sort i)
      old i h z = rw (sort i h) (shape_kept i h (T.sort i) refl (F.shape i z h))

  -- Chain of two records
  Comparable : ℕ → ℕ → Type 0
  Comparable i j = 0 < i → 0 < j → T'.caller i ≡ T'.caller j → T'.time i ≡ T'.time j → T' ⊢ i ⊑ j ⊎ T' ⊢ j ⊑ i

  chain' : (i j : ℕ) → i < suc n → j < suc n → Comparable i j
  unfolding Comparable
  chain' = below_suc₂ Comparable n old new (λ j h z y c t. ⊎_swap (new j h y z (sym c) (sym t))) (λ z y c t. inl here)
    where
      old : (i j : ℕ) → i < n → j < n → Comparable i j
      old i j h k z y c t =
          ⊎_map (λ p. X.kept p k) (λ p. X.kept p h) (F.chain i j z h y k (rw (caller i h, caller j k) at c) (rw (time i h, time j k) at t))

      new : (i : ℕ) → i < n → Comparable i n
      new i h z y c t = O.chain i z h (rw (caller i h) at c) (rw (time i h) at t)

  -- Vote after commit of an election and a commit
  After : ℕ → ℕ → Type 0
  After e c = (v : ℕ) → T'.sort e ≡ election → T'.sort c ≡ commit → 𝓢.Has (T'.voters e) v → 𝓢.Has (T'.voters c) v →
      T'.time c < T'.time e → ¬ Below T' (T'.parent e) c

  after : (e c : ℕ) → e < suc n → c < suc n → After e c
  unfolding After
  after = below_suc₂ After n old
      (λ e h v s r x y l b. omega (arith, O.no_later e v h (rw (sort e h) at s) r (rw (voters e h) at x) y, rw (time e h) at l))
      (λ c k v s r x y l b. O.after_commit c v k s (rw (sort c k) at r) x (rw (voters c k) at y) b)
      (λ v s r x y l b. omega arith)
    where
      old : (e c : ℕ) → e < n → c < n → After e c
      old e c h k v s r x y l b =
          F.vote_after_commit e c v h k (rw (sort e h) at s) (rw (sort c k) at r) (rw (voters e h) at x) (rw (voters c k) at y)
          (rw (time e h, time c k) at l) (below_back e c h k b)

  -- One vote a time of two elections
  Once : ℕ → ℕ → Type 0
  Once e e' = (v : ℕ) → T'.sort e ≡ election → T'.sort e' ≡ election → 𝓢.Has (T'.voters e) v → 𝓢.Has (T'.voters e') v →
      T'.time e ≡ T'.time e' → e ≡ e'

  once : (e e' : ℕ) → e < suc n → e' < suc n → Once e e'
  unfolding Once
  once = below_suc₂ Once n old new (λ e h v s r x y t. sym (new e h v r s y x (sym t))) (λ v s r x y t. refl)
    where
      old : (e e' : ℕ) → e < n → e' < n → Once e e'
      old e e' h k v s r x y t =
          F.one_vote e e' v h k (rw (sort e h) at s) (rw (sort e' k) at r) (rw (voters e h) at x) (rw (voters e' k) at y)
          (rw (time e h, time e' k) at t)

      new : (e : ℕ) → e < n → Once e n
      new e h v s r x y t = absurd (omega (arith, O.first_vote e v h r (rw (sort e h) at s) y (rw (voters e h) at x), rw (time e h) at t))

  -- the facts of one more record
  pub extend : Facts 𝓢 T' (suc n) clock' holds'
  unfolding Comparable After Once
  extend = record {
    opened = omega arith;
    root_sort = sort 0 F.opened ∙ F.root_sort;
    root_time = time 0 F.opened ∙ F.root_time;
    root_parent = X.root_parent;
    after_root = λ i z h. below_suc (λ i. 0 < i → 0 < T'.time i) n (λ i h z. rw (time i h) (F.after_root i z h)) (λ z. O.after_root) i h z;
    parent_known = below_suc (λ i. T'.parent i < suc n) n X.parent_known O.parent_known;
    rooted = below_suc (On T'.parent 0) n (λ i h. X.kept (F.rooted i h) h) O.rooted;
    shape = shape';
    chain = λ i j z h y k. chain' i j h k z y;
    clock_called = clock_called';
    clock_voted = clock_voted';
    clock_held = holder_clock F H time clock_called';
    voters_hold = H.voters_hold;
    vote_after_commit = λ e c v h k. after e c h k v;
    one_vote = λ e e' v h k. once e e' h k v;
  }
