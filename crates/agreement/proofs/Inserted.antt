-- The tree with a commit put in place, as functions: so what is shown of such a tree can be used before a push is made.
use mathlib.Core.Path.{◌≡◌, refl, ◌∙◌}
use mathlib.Core.Logic.{ite, if_pos, if_neg}
use Prim.Native.Nat.{ℕ, ◌<◌}
use native.Mathlib.Decide.{ℕ_discrete}
use native.Mathlib.Omega.{arith}
use Rattle.agreement.specs.Tree.{Tree, commit}
use Rattle.agreement.specs.Steps.{NewCommit}

-- f, with x in place n
put : {A : Type 0} → ℕ → A → (ℕ → A) → ℕ → A
put n x f i = ite (ℕ_discrete i n) x (f i)

module _ {A : Type 0} (n : ℕ) (x : A) (f : ℕ → A) where
  put_new : put n x f n ≡ x
  unfolding put
  put_new = if_pos (ℕ_discrete n n) refl x (f n)

  put_old : (i : ℕ) → i < n → put n x f i ≡ f i
  unfolding put
  put_old i h = if_neg (ℕ_discrete i n) (λ e. omega arith) x (f i)

module _ {Conf : Type 0} (T : Tree Conf) (n target voters : ℕ) where
  -- the parent of an old record
  below : ℕ → ℕ
  below i = ite (ℕ_discrete (T.parent i) target) n (T.parent i)

  -- the tree with commit n in place
  pub inserted : Tree Conf
  inserted = record {
    parent = put n target below;
    caller = put n (T.caller target) T.caller;
    time = put n (T.time target) T.time;
    version = put n (T.version target) T.version;
    sort = put n commit T.sort;
    voters = put n voters T.voters;
    conf = put n (T.conf target) T.conf;
  }

  -- it is as a push makes it
  pub inserted_new : NewCommit T inserted n target voters
  unfolding inserted below
  inserted_new = record {
    keeps = record {
      caller = put_old n (T.caller target) T.caller;
      time = put_old n (T.time target) T.time;
      version = put_old n (T.version target) T.version;
      sort = put_old n commit T.sort;
      voters = put_old n voters T.voters;
      conf = put_old n (T.conf target) T.conf;
    };
    moved = λ i h e. put_old n target below i h ∙ if_pos (ℕ_discrete (T.parent i) target) e n (T.parent i);
    stayed = λ i h d. put_old n target below i h ∙ if_neg (ℕ_discrete (T.parent i) target) d n (T.parent i);
    parent_new = put_new n target below;
    sort_new = put_new n commit T.sort;
    caller_new = put_new n (T.caller target) T.caller;
    time_new = put_new n (T.time target) T.time;
    version_new = put_new n (T.version target) T.version;
    voters_new = put_new n voters T.voters;
    conf_new = put_new n (T.conf target) T.conf;
  }
