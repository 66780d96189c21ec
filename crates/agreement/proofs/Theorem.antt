-- The theorem, from the facts alone, by induction on time: every election stands under every commit of a lower time (1),
-- no two elections have the same time (2), any two commits are comparable (3), no two records are equal in order (4).
use mathlib.Core.Path.{◌≡◌, sym, ap, ◌∙◌}
use mathlib.Core.Logic.{◌⊎◌, inl, inr, ⊎_elim, ⊎_map}
use Prim.Native.Nat.{ℕ, zero, suc, ◌+◌, ◌<◌}
use native.Mathlib.Omega.{arith}
use Rattle.agreement.specs.Scheme.{Scheme}
use Rattle.agreement.specs.Tree.{Tree, election, commit, here, up, Below, by_time, ◌⊢◌⊑◌}
use Rattle.agreement.specs.Facts.{Facts, Election}
use Rattle.agreement.proofs.Cases.{election_or_commit, zero_or_more, Compared, less, same, more, compared, less_or_same}
use Rattle.agreement.proofs.Paths.{On-trans, On-last, On-same, Below-irrefl, Below-trans}
use Rattle.agreement.proofs.Rising.{positive, uncommitted, known, rises, strictly, time_rises, both_ways, term}
use Rattle.agreement.proofs.Nearest.{Top, top_commit, top_on, commit_above, nearest, top_of, commit_quorum, share}

module _ {𝓢 : Scheme} {T : Tree 𝓢.Conf} {n : ℕ} {clock : ℕ → ℕ} {holds : ℕ → ℕ → Type 0} (F : Facts 𝓢 T n clock holds) where
  election_shape : (e : ℕ) → e < n → T.sort e ≡ election → Election 𝓢 T e
  election_shape e h s = let t = F.shape e (uncommitted F e (election_or_commit s)) h in rw s at t

  -- claims 1 and 2 for the elections of a time below t
  record Until (t : ℕ) : Type 0 where
    under : (e c : ℕ) → e < n → c < n → T.sort e ≡ election → T.sort c ≡ commit → T.time e < t → T.time c < T.time e →
        T ⊢ c ⊑ e
    once : (e e' : ℕ) → e < n → e' < n → T.sort e ≡ election → T.sort e' ≡ election → T.time e < t →
        T.time e ≡ T.time e' → e ≡ e'

  module _ {t : ℕ} (U : Until t) where
    -- a record stands under every commit of a lower time
    later : (c x : ℕ) → c < n → x < n → T.sort c ≡ commit → T.time x < t → T.time c < T.time x → T ⊢ c ⊑ x
    later c x h k s l m =
        let e = term F x (positive F x (omega arith)) k in
        let i = e.time_is in
        On-trans (U.under e.first c e.known h e.sort_is s (omega arith) (omega arith)) e.on

    -- two records of one time are in one term, so they are comparable
    level : (x y : ℕ) → x < n → y < n → T.time x < t → T.time x ≡ T.time y → T ⊢ x ⊑ y ⊎ T ⊢ y ⊑ x
    level x y h k l e = go (zero_or_more x) (zero_or_more y)
      where
        go : (x ≡ 0) ⊎ (0 < x) → (y ≡ 0) ⊎ (0 < y) → T ⊢ x ⊑ y ⊎ T ⊢ y ⊑ x
        go (inl z) w = inl (rw z (F.rooted y k))
        go (inr z) (inl w) = inr (rw w (F.rooted x h))
        go (inr z) (inr w) =
            let a = term F x z h in
            let b = term F y w k in
            let i = a.time_is in
            let j = b.time_is in
            let o : a.first ≡ b.first = U.once a.first b.first a.known b.known a.sort_is b.sort_is (omega arith) (omega arith) in
            F.chain x y z h w k (sym a.caller_is ∙ ap T.caller o ∙ b.caller_is) e

    -- a commit is on the path of every record that is not below it
    against : (c x : ℕ) → c < n → x < n → T.sort c ≡ commit → T.time x < t → T ⊢ c ⊑ x ⊎ Below T x c
    against c x h k s l = go (compared (T.time c) (T.time x))
      where
        either : T ⊢ c ⊑ x ⊎ T ⊢ x ⊑ c → T ⊢ c ⊑ x ⊎ Below T x c
        either (inl p) = inl p
        either (inr p) = ⊎_map (λ e. On-same (sym e)) (λ b. b) (rises F p h)

        go : Compared (T.time c) (T.time x) → T ⊢ c ⊑ x ⊎ Below T x c
        go (less m) = inl (later c x h k s l m)
        go (same e) = either (level c x h k (omega arith) e)
        go (more m) = inr (by_time m)

    -- two commits are comparable
    commits : (c d : ℕ) → c < n → d < n → T.sort c ≡ commit → T.sort d ≡ commit → T.time c < t → T.time d < t →
        T ⊢ c ⊑ d ⊎ T ⊢ d ⊑ c
    commits c d h k s s' l l' = go (against c d h k s l') (against d c k h s' l)
      where
        go : T ⊢ c ⊑ d ⊎ Below T d c → T ⊢ d ⊑ c ⊎ Below T c d → T ⊢ c ⊑ d ⊎ T ⊢ d ⊑ c
        go (inl p) q = inl p
        go (inr b) (inl q) = inr q
        go (inr b) (inr b') = absurd (Below-irrefl (Below-trans b b'))

    -- claim 1 for an election e of time t, on its base: the induction is on the commit's own path
    module _ (e : ℕ) (h : e < n) (s : T.sort e ≡ election) (et : T.time e ≡ t) where
      abbrev base : ℕ
      base = T.parent e

      base_known : base < n
      base_known = F.parent_known e h

      base_early : T.time base < t
      base_early = let l = (election_shape e h s).later in omega arith

      -- a commit c of a lower time, other than record 0
      module _ (c : ℕ) (z : 0 < c) (i : c < n) (r : T.sort c ≡ commit) (l : T.time c < t) where
        -- a common voter of e and c rules out that the base is below c
        voted : {k : ℕ} → Top T k base → Top T k (T.parent c) → ¬ Below T base c
        voted p q below =
            let (v, x, y) = share F p q base_known (F.parent_known c i) (election_shape e h s).quorum (commit_quorum F c z i r) in
            F.vote_after_commit e c v h i s r x y (omega arith) below

        -- so if the base and c's parent have the same nearest commit, c is on the base's path
        joined : {k : ℕ} → Top T k base → Top T k (T.parent c) → T ⊢ c ⊑ base
        joined p q = ⊎_elim (λ m. m) (λ b. absurd (voted p q b)) (against c base i base_known r base_early)

        -- they have, if the nearest commit above c is on the base's path
        next_commit : {m : ℕ} → Top T m (T.parent c) → T ⊢ m ⊑ base → T ⊢ c ⊑ base
        next_commit {m} q on = go (top_of F base base_known)
          where
            go : (k : ℕ) × Top T k base → T ⊢ c ⊑ base
            go (k, p) = pick (commits k c k_known i (top_commit p) r k_early l)
              where
                k_known : k < n
                k_known = known F (top_on p) base_known

                k_early : T.time k < t
                k_early = omega (arith, time_rises F (top_on p) base_known, base_early)

                meet : (k ≡ c) ⊎ T ⊢ k ⊑ T.parent c → T ⊢ c ⊑ base
                meet (inl f) = On-trans (On-same (sym f)) (top_on p)
                meet (inr u) =
                    let f : m ≡ k = both_ways F (nearest p (top_commit q) on) (nearest q (top_commit p) u) k_known in
                    joined p (rw f at q)

                pick : T ⊢ k ⊑ c ⊎ T ⊢ c ⊑ k → T ⊢ c ⊑ base
                pick (inl u) = meet (On-last u)
                pick (inr u) = On-trans u (top_on p)

      -- so every commit on the path of a record of a time below t is on the base's path
      commits_under : {x : ℕ} → T ⊢ 0 ⊑ x → x < n → T.time x < t → (c : ℕ) → T.sort c ≡ commit → T ⊢ c ⊑ x → T ⊢ c ⊑ base
      commits_under here i l c r p = On-trans p (F.rooted base base_known)
      commits_under (up {b = x} q) i l c r p = go (zero_or_more x) (On-last p) (λ d u v. commits_under q (F.parent_known x i) early d u v)
        where
          early : T.time (T.parent x) < t
          early = let m = time_rises F {a = T.parent x} (up here) i in omega arith

          go : (x ≡ 0) ⊎ (0 < x) → (c ≡ x) ⊎ T ⊢ c ⊑ T.parent x →
              ((d : ℕ) → T.sort d ≡ commit → T ⊢ d ⊑ T.parent x → T ⊢ d ⊑ base) → T ⊢ c ⊑ base
          go (inl z) a ih = On-trans (rw z at p) (F.rooted base base_known)
          go (inr z) (inl f) ih =
              let (m, u) = top_of F (T.parent x) (F.parent_known x i) in
              rw f (next_commit x z i (rw f at r) l u (ih m (top_commit u) (top_on u)))
          go (inr z) (inr u) ih = ih c r u

      under_now : (c : ℕ) → c < n → T.sort c ≡ commit → T.time c < t → T ⊢ c ⊑ e
      under_now c i r l = up (commits_under (F.rooted c i) i l c r here)

    -- claim 2 for two elections of time t: their bases have the same nearest commit, so they share a voter
    same_top : (e e' k : ℕ) → e < n → e' < n → T.sort e ≡ election → T.sort e' ≡ election → T.time e ≡ t → T.time e' ≡ t →
        Top T k (T.parent e) → T ⊢ k ⊑ T.parent e'
    same_top e e' k h h' s s' et et' p =
        let i = known F (top_on p) (F.parent_known e h) in
        let l = time_rises F (top_on p) (F.parent_known e h) in
        let m = (election_shape e h s).later in
        commit_above T (top_commit p) (election_or_commit s') (under_now e' h' s' et' k i (top_commit p) (omega arith))

    once_now : (e e' : ℕ) → e < n → e' < n → T.sort e ≡ election → T.sort e' ≡ election → T.time e ≡ t → T.time e' ≡ t → e ≡ e'
    once_now e e' h h' s s' et et' =
        let (k, p) = top_of F (T.parent e) (F.parent_known e h) in
        let (k', p') = top_of F (T.parent e') (F.parent_known e' h') in
        let on : T ⊢ k ⊑ k' = nearest p' (top_commit p) (same_top e e' k h h' s s' et et' p) in
        let no : T ⊢ k' ⊑ k = nearest p (top_commit p') (same_top e' e k' h' h s' s et' et p') in
        let f : k ≡ k' = both_ways F on no (known F (top_on p') (F.parent_known e' h')) in
        let q = (election_shape e h s).quorum in
        let q' = (election_shape e' h' s').quorum in
        let (v, x, y) = share F (rw f at p) p' (F.parent_known e h) (F.parent_known e' h') q q' in
        F.one_vote e e' v h h' s s' x y (et ∙ sym et')

    step : Until (suc t)
    step = record {
      under = λ e c h i s r l m. under_or e c h i s r m (less_or_same l);
      once = λ e e' h h' s s' l m. once_or e e' h h' s s' m (less_or_same l);
    }
      where
        under_or : (e c : ℕ) → e < n → c < n → T.sort e ≡ election → T.sort c ≡ commit → T.time c < T.time e →
            (T.time e < t) ⊎ (T.time e ≡ t) → T ⊢ c ⊑ e
        under_or e c h i s r m (inl k) = U.under e c h i s r k m
        under_or e c h i s r m (inr k) = under_now e h s k c i r (omega arith)

        once_or : (e e' : ℕ) → e < n → e' < n → T.sort e ≡ election → T.sort e' ≡ election → T.time e ≡ T.time e' →
            (T.time e < t) ⊎ (T.time e ≡ t) → e ≡ e'
        once_or e e' h h' s s' m (inl k) = U.once e e' h h' s s' k m
        once_or e e' h h' s s' m (inr k) = once_now e e' h h' s s' k (sym m ∙ k)

  until : (t : ℕ) → Until t
  until zero = record { under = λ e c h i s r l m. absurd (omega arith); once = λ e e' h h' s s' l m. absurd (omega arith) }
  until (suc t) = step (until t)

  -- 1: every election stands under every commit of a lower time
  pub election_under : (e c : ℕ) → e < n → c < n → T.sort e ≡ election → T.sort c ≡ commit → T.time c < T.time e → T ⊢ c ⊑ e
  election_under e c h i s r l = (until (suc (T.time e))).under e c h i s r (omega arith) l

  -- 2: no two elections have the same time
  pub election_once : (e e' : ℕ) → e < n → e' < n → T.sort e ≡ election → T.sort e' ≡ election → T.time e ≡ T.time e' → e ≡ e'
  election_once e e' h h' s s' l = (until (suc (T.time e))).once e e' h h' s s' (omega arith) l

  -- 3: any two commits are comparable
  pub commits_comparable : (c d : ℕ) → c < n → d < n → T.sort c ≡ commit → T.sort d ≡ commit → T ⊢ c ⊑ d ⊎ T ⊢ d ⊑ c
  commits_comparable c d h k s s' = commits (until (suc (T.time c + T.time d))) c d h k s s' (omega arith) (omega arith)

  -- so a commit is on the path of every record that is not below it
  pub commit_on : (c x : ℕ) → c < n → x < n → T.sort c ≡ commit → T ⊢ c ⊑ x ⊎ Below T x c
  commit_on c x h k s = against (until (suc (T.time x))) c x h k s (omega arith)

  -- and every commit is on the latest one's path
  pub latest_over : (l : ℕ) → l < n → ((c : ℕ) → c < n → T.sort c ≡ commit → ¬ Below T l c) →
      (c : ℕ) → c < n → T.sort c ≡ commit → T ⊢ c ⊑ l
  latest_over l h latest c k s = ⊎_elim (λ p. p) (λ b. absurd (latest c k s b)) (commit_on c l k h s)

  -- 4: of two different records one is below the other
  pub one_below : (i j : ℕ) → i < n → j < n → ¬ (i ≡ j) → Below T i j ⊎ Below T j i
  one_below i j h k d = go (compared (T.time i) (T.time j))
    where
      go : Compared (T.time i) (T.time j) → Below T i j ⊎ Below T j i
      go (less l) = inl (by_time l)
      go (same e) =
          ⊎_map (λ p. strictly F p k d) (λ p. strictly F p h (λ f. d (sym f))) (level (until (suc (T.time i))) i j h k (omega arith) e)
      go (more l) = inr (by_time l)
