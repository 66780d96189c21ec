-- How the tree, the clocks and the holders of the next state come from this one: equations, new ≡ old, and new record n.
use Rattle.std.specs.Prelude.{◌≡◌, ℕ, suc, ◌≤◌, ◌<◌}
use Rattle.agreement.specs.Scheme.{Scheme}
use Rattle.agreement.specs.Tree.{Tree, election, command, change, commit}

module _ {Conf : Type 0} (T T' : Tree Conf) (n : ℕ) where
  -- the first n records keep all but their parents
  pub record Keeps : Type 0 where
    pub caller : (i : ℕ) → i < n → T'.caller i ≡ T.caller i
    pub time : (i : ℕ) → i < n → T'.time i ≡ T.time i
    pub version : (i : ℕ) → i < n → T'.version i ≡ T.version i
    pub sort : (i : ℕ) → i < n → T'.sort i ≡ T.sort i
    pub voters : (i : ℕ) → i < n → T'.voters i ≡ T.voters i
    pub conf : (i : ℕ) → i < n → T'.conf i ≡ T.conf i

  -- record n is a leaf under the base
  pub record NewLeaf (base : ℕ) : Type 0 where
    pub keeps : Keeps
    pub parents : (i : ℕ) → i < n → T'.parent i ≡ T.parent i
    pub parent_new : T'.parent n ≡ base

  -- pull: record n is an election under the base
  pub record NewElection (base caller voters time : ℕ) : Type 0 where
    pub leaf : NewLeaf base
    pub sort_new : T'.sort n ≡ election
    pub caller_new : T'.caller n ≡ caller
    pub voters_new : T'.voters n ≡ voters
    pub time_new : T'.time n ≡ time
    pub conf_new : T'.conf n ≡ T.conf base

  -- invoke and reconfigure: record n is under the head, with its caller and time and one version more
  pub record NewGrowth (head : ℕ) : Type 0 where
    pub leaf : NewLeaf head
    pub caller_new : T'.caller n ≡ T.caller head
    pub time_new : T'.time n ≡ T.time head
    pub version_new : T'.version n ≡ suc (T.version head)

  pub record NewCommand (head : ℕ) : Type 0 where
    pub growth : NewGrowth head
    pub sort_new : T'.sort n ≡ command
    pub conf_new : T'.conf n ≡ T.conf head

  pub record NewChange (head : ℕ) (C : Conf) : Type 0 where
    pub growth : NewGrowth head
    pub sort_new : T'.sort n ≡ change
    pub conf_new : T'.conf n ≡ C

  -- push: record n is a commit between the target and the target's former children
  pub record NewCommit (target voters : ℕ) : Type 0 where
    pub keeps : Keeps
    pub moved : (i : ℕ) → i < n → T.parent i ≡ target → T'.parent i ≡ n
    pub stayed : (i : ℕ) → i < n → ¬ (T.parent i ≡ target) → T'.parent i ≡ T.parent i
    pub parent_new : T'.parent n ≡ target
    pub sort_new : T'.sort n ≡ commit
    pub caller_new : T'.caller n ≡ T.caller target
    pub time_new : T'.time n ≡ T.time target
    pub version_new : T'.version n ≡ T.version target
    pub voters_new : T'.voters n ≡ voters
    pub conf_new : T'.conf n ≡ T.conf target

-- why node v holds record i in the next state: it held it before, it called it, or its clock has come to its time
pub data Holder {Conf : Type 0} (T' : Tree Conf) (n : ℕ) (clock' : ℕ → ℕ) (holds : ℕ → ℕ → Type 0) (v i : ℕ) : Type 0 where
  held : i < n → holds v i → Holder T' n clock' holds v i
  called : v ≡ T'.caller i → Holder T' n clock' holds v i
  reached : T'.time i ≤ clock' v → Holder T' n clock' holds v i

-- from n records and holds to n' records and holds': clocks only rise, and every holder is accounted for
pub record Handed (𝓢 : Scheme) (T' : Tree 𝓢.Conf) (n n' : ℕ) (clock clock' : ℕ → ℕ) (holds holds' : ℕ → ℕ → Type 0) : Type 0 where
  pub rise : (v : ℕ) → clock v ≤ clock' v
  pub voters_hold : (i v : ℕ) → i < n' → T'.sort i ≡ commit → 𝓢.Has (T'.voters i) v → holds' v i
  pub holder : (i v : ℕ) → i < n' → holds' v i → Holder T' n clock' holds v i
