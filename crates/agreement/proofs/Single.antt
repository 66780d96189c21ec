-- Document 01's scheme of members: a set of nodes, decided by majority, changed by one node at a time.
use Prim.Native.Nat.{ℕ}
use mathlib.Core.Path.{◌≡◌}
use mathlib.Core.Bool.{true}
use Rattle.rules.specs.Nodes.{has}
use Rattle.rules.specs.Scheme.{quorum, next}
use Rattle.rules.proofs.Scheme.{quorums_meet, neighbours_meet}
use Rattle.agreement.specs.Scheme.{Scheme}

abbrev pub single : Scheme
single = record {
  Conf = ℕ;
  Quorum = λ S C. quorum S C ≡ true;
  Next = λ C D. next C D ≡ true;
  Has = λ S v. has S v ≡ true;
  share_same = λ {S} {S'} {C} p q. quorums_meet S S' C p q;
  share_next = λ {S} {S'} {C} {D} n p q. neighbours_meet S S' C D n p q;
}
