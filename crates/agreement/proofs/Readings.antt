-- The order, the paths and who holds a record are in the tree those of the rules.
use Prim.Native.Nat.{ℕ, ◌<◌}
use mathlib.Core.Path.{◌≡◌, refl, ap, ◌∙◌}
use mathlib.Core.Logic.{◌⊎◌, inl, inr, ⊎_elim}
use mathlib.Core.Bool.{true, false, false≢true}
use mathlib.Core.List.{List}
use borrow.Author.Tests.{lt-ltb, eq-eqb}
use lib.Dec.{ltb}
use Rattle.rules.specs.declared.Kind.{Kind}
use Rattle.rules.specs.declared.Kind.TheVariants.{Election, Command, Change, Commit}
use Rattle.rules.specs.declared.Record.{Record}
use Rattle.rules.specs.Nodes.{has}
use Rattle.rules.specs.Records.{at, commit_kind, entry_kind, above}
use Rattle.rules.proofs.Bools.{tested, torn, or_right}
use Rattle.rules.proofs.Records.{holds_root, holds_voters}
use Rattle.agreement.specs.Tree.{commit, Below, by_time, by_version, by_commit}
use Rattle.agreement.proofs.Cases.{zero_or_more, election_or_commit, command_or_commit, change_or_commit}
use Rattle.agreement.proofs.Reading.{sort_of, voters_of, tree_of, held}

-- a commit is one in both readings
pub commit_sort : (k : Kind) → commit_kind k ≡ true → sort_of k ≡ commit
commit_sort (Election voters) e = absurd (false≢true e)
commit_sort (Command number) e = absurd (false≢true e)
commit_sort Change e = absurd (false≢true e)
commit_sort (Commit voters) e = refl

pub commit_kind_lem : (k : Kind) → sort_of k ≡ commit → k ≡ Commit (voters_of k)
commit_kind_lem (Election voters) e = absurd (election_or_commit refl e)
commit_kind_lem (Command number) e = absurd (command_or_commit refl e)
commit_kind_lem Change e = absurd (change_or_commit refl e)
commit_kind_lem (Commit voters) e = refl

pub sort_commit : (k : Kind) → sort_of k ≡ commit → commit_kind k ≡ true
sort_commit k e = ap commit_kind (commit_kind_lem k e)

sort_other : (k : Kind) → ¬ (sort_of k ≡ commit) → commit_kind k ≡ false
sort_other k d = ⊎_elim (λ e. absurd (d (commit_sort k e))) (λ e. e) (tested (commit_kind k))

-- a command or change is none
pub entry_sort : (k : Kind) → entry_kind k ≡ true → ¬ (sort_of k ≡ commit)
entry_sort (Election voters) e = absurd (false≢true e)
entry_sort (Command number) e = command_or_commit refl
entry_sort Change e = change_or_commit refl
entry_sort (Commit voters) e = absurd (false≢true e)

-- who voted in a commit holds it
pub voters_hold : (records : List Record) (i v : ℕ) → (tree_of records).sort i ≡ commit → has ((tree_of records).voters i) v ≡ true
    → held records v i
voters_hold records i v s h = go (zero_or_more i)
  where
    go : (i ≡ 0) ⊎ (0 < i) → held records v i
    go (inl z) = rw z (holds_root (at records 0) v)
    go (inr z) = holds_voters i (at records i) (voters_of (at records i).kind) v z (commit_kind_lem (at records i).kind s) ∙ h

-- below in the tree is above the other way round in the rules
module _ (records : List Record) (a b : ℕ) where
  pub below_above : Below (tree_of records) a b → above (at records b) (at records a) ≡ true
  unfolding above
  below_above (by_time l) = rw (lt-ltb (at records a).time (at records b).time l)
  below_above (by_version e l) =
      or_right (ltb (at records a).time (at records b).time)
      (rw (eq-eqb (at records a).time (at records b).time e) (rw (lt-ltb (at records a).version (at records b).version l)))
  below_above (by_commit e f s t) =
      or_right (ltb (at records a).time (at records b).time)
      (rw (eq-eqb (at records a).time (at records b).time e) (
      or_right (ltb (at records a).version (at records b).version)
      (rw (eq-eqb (at records a).version (at records b).version f) (
      rw (sort_commit (at records b).kind t, sort_other (at records a).kind s)))))

  pub not_below : above (at records b) (at records a) ≡ false → ¬ Below (tree_of records) a b
  not_below e l = torn (below_above l) e
