-- What a proposal that adds a record has passed: only the tests on which agreement rests, each once.
use Rattle.std.specs.Prelude.{◌≡◌, ℕ, ◌≤◌, ◌<◌}
use Rattle.agreement.specs.Scheme.{Scheme}
use Rattle.agreement.specs.Tree.{Tree, change, commit, Below, ◌⊢◌⊑◌}

-- a pull by the caller, with these voters, for this time, under the base
pub record Elected (𝓢 : Scheme) (T : Tree 𝓢.Conf) (n : ℕ) (clock : ℕ → ℕ) (holds : ℕ → ℕ → Type 0)
    (base caller voters time : ℕ) : Type 0 where
  pub base_known : base < n
  -- refusal 3: the caller is among the voters
  pub caller_votes : 𝓢.Has voters caller
  -- refusal 5: every voter's clock is below the time
  pub clocks_below : (v : ℕ) → 𝓢.Has voters v → clock v < time
  -- the base is the latest record held by any voter
  pub base_held : (v : ℕ) × 𝓢.Has voters v × holds v base
  pub base_latest : (v i : ℕ) → i < n → 𝓢.Has voters v → holds v i → ¬ Below T base i
  pub quorum : 𝓢.Quorum voters (T.conf base)

-- an invoke by the head's caller: the head is the latest record that it called
pub record Grown {Conf : Type 0} (T : Tree Conf) (n head : ℕ) : Type 0 where
  pub head_known : head < n
  pub head_called : 0 < head
  pub head_latest : (i : ℕ) → 0 < i → i < n → T.caller i ≡ T.caller head → ¬ Below T head i

-- a reconfigure by the head's caller, to this configuration
pub record Changed (𝓢 : Scheme) (T : Tree 𝓢.Conf) (n head : ℕ) (C : 𝓢.Conf) : Type 0 where
  pub grown : Grown T n head
  -- refusal 9: the new configuration may follow the head's
  pub next : 𝓢.Next (T.conf head) C
  -- refusal 10 (R2): no open change on the head's path
  pub closed : (r : ℕ) → T.sort r ≡ change → T ⊢ r ⊑ head →
      (c : ℕ) × (T.sort c ≡ commit) × (T ⊢ r ⊑ c) × (T ⊢ c ⊑ head)
  -- refusal 11 (R3): a commit of the head's time on the head's path
  pub led : (c : ℕ) × (T.sort c ≡ commit) × (T ⊢ c ⊑ head) × (T.time c ≡ T.time head)

-- a push of the target with these voters
pub record Pushed (𝓢 : Scheme) (T : Tree 𝓢.Conf) (n : ℕ) (clock : ℕ → ℕ) (target voters : ℕ) : Type 0 where
  pub target_known : target < n
  -- refusal 7: the target is no commit
  pub target_open : ¬ (T.sort target ≡ commit)
  -- refusal 8: every commit of this caller and time has a lower version
  pub target_first : (c : ℕ) → c < n → T.sort c ≡ commit → T.caller c ≡ T.caller target → T.time c ≡ T.time target →
      T.version c < T.version target
  -- refusal 5: no voter's clock is past the target's time
  pub clocks_within : (v : ℕ) → 𝓢.Has voters v → clock v ≤ T.time target
  pub quorum : 𝓢.Quorum voters (T.conf target)
