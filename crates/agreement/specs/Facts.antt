-- The facts that every call keeps: of n records in a tree, of the nodes' clocks, and of who holds which record.
-- None speaks of quorums of two different configurations at once, so each is kept by a short local argument.
use Rattle.std.specs.Prelude.{◌≡◌, ◌⊎◌, ℕ, suc, ◌≤◌, ◌<◌}
use Rattle.agreement.specs.Scheme.{Scheme}
use Rattle.agreement.specs.Tree.{Tree, Sort, election, command, change, commit, Below, ◌⊢◌⊑◌}

-- Shape: what a record of each sort has from its parent.
module _ (𝓢 : Scheme) (T : Tree 𝓢.Conf) (i : ℕ) where
  -- caller and time are the parent's
  pub record Continues : Type 0 where
    pub caller_is : T.caller i ≡ T.caller (T.parent i)
    pub time_is : T.time i ≡ T.time (T.parent i)

  -- a later time; the parent's configuration; voters that are a quorum of it
  pub record Election : Type 0 where
    pub later : T.time (T.parent i) < T.time i
    pub conf_is : T.conf i ≡ T.conf (T.parent i)
    pub quorum : 𝓢.Quorum (T.voters i) (T.conf (T.parent i))

  -- one version more; the parent's configuration
  pub record Command : Type 0 where
    pub continues : Continues
    pub version_is : T.version i ≡ suc (T.version (T.parent i))
    pub conf_is : T.conf i ≡ T.conf (T.parent i)

  -- one version more; a next configuration; R2: a commit after every change before it; R3: a commit of its time before it
  pub record Change : Type 0 where
    pub continues : Continues
    pub version_is : T.version i ≡ suc (T.version (T.parent i))
    pub next : 𝓢.Next (T.conf (T.parent i)) (T.conf i)
    pub closed : (r : ℕ) → T.sort r ≡ change → T ⊢ r ⊑ i → ¬ (r ≡ i) →
        (c : ℕ) × (T.sort c ≡ commit) × (T ⊢ r ⊑ c) × (T ⊢ c ⊑ i)
    pub led : (c : ℕ) × (T.sort c ≡ commit) × (T ⊢ c ⊑ i) × (T.time c ≡ T.time i)

  -- under a record that is no commit, with its version and configuration; voters that are a quorum of that
  pub record Commit : Type 0 where
    pub continues : Continues
    pub version_is : T.version i ≡ T.version (T.parent i)
    pub conf_is : T.conf i ≡ T.conf (T.parent i)
    pub target : ¬ (T.sort (T.parent i) ≡ commit)
    pub quorum : 𝓢.Quorum (T.voters i) (T.conf i)

  -- the shape of each sort
  abbrev pub Shape : Sort → Type 0
  Shape election = Election
  Shape command = Command
  Shape change = Change
  Shape commit = Commit

pub record Facts (𝓢 : Scheme) (T : Tree 𝓢.Conf) (n : ℕ) (clock : ℕ → ℕ) (holds : ℕ → ℕ → Type 0) : Type 0 where
  -- Root: there is a record 0
  pub opened : 0 < n
  -- Root: record 0 is a commit
  pub root_sort : T.sort 0 ≡ commit
  -- Root: its time is 0
  pub root_time : T.time 0 ≡ 0
  -- Root: its parent is itself
  pub root_parent : T.parent 0 ≡ 0
  -- Root: every other record has a time of at least 1
  pub after_root : (i : ℕ) → 0 < i → i < n → 0 < T.time i
  -- Root: record 0 is on every path
  pub rooted : (i : ℕ) → i < n → T ⊢ 0 ⊑ i
  -- Shape: every parent is a record
  pub parent_known : (i : ℕ) → i < n → T.parent i < n
  -- Shape: each record has the shape of its sort
  pub shape : (i : ℕ) → 0 < i → i < n → Shape 𝓢 T i (T.sort i)
  -- Chain: two records above 0 with the same caller and the same time are comparable
  pub chain : (i j : ℕ) → 0 < i → i < n → 0 < j → j < n → T.caller i ≡ T.caller j → T.time i ≡ T.time j →
      T ⊢ i ⊑ j ⊎ T ⊢ j ⊑ i
  -- Clocks: a node's clock is at least the time of every record it called
  pub clock_called : (i : ℕ) → 0 < i → i < n → T.time i ≤ clock (T.caller i)
  -- Clocks: and of every election it voted in
  pub clock_voted : (i v : ℕ) → i < n → T.sort i ≡ election → 𝓢.Has (T.voters i) v → T.time i ≤ clock v
  -- Clocks: and of every record it holds
  pub clock_held : (i v : ℕ) → i < n → holds v i → T.time i ≤ clock v
  -- Clocks: who voted in a commit holds it
  pub voters_hold : (i v : ℕ) → i < n → T.sort i ≡ commit → 𝓢.Has (T.voters i) v → holds v i
  -- Vote after commit: if v voted in election e and in commit c of a lower time, e's parent is not below c
  pub vote_after_commit : (e c v : ℕ) → e < n → c < n → T.sort e ≡ election → T.sort c ≡ commit →
      𝓢.Has (T.voters e) v → 𝓢.Has (T.voters c) v → T.time c < T.time e → ¬ Below T (T.parent e) c
  -- One vote a time: two different elections with a common voter have different times
  pub one_vote : (e e' v : ℕ) → e < n → e' < n → T.sort e ≡ election → T.sort e' ≡ election →
      𝓢.Has (T.voters e) v → 𝓢.Has (T.voters e') v → T.time e ≡ T.time e' → e ≡ e'
