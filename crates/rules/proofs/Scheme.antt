-- What agreement asks of a scheme of members: quorums of equal or neighbouring members share a node.
use Prim.Native.Nat.{ℕ}
use native.Mathlib.Omega.{arith}
use mathlib.Core.Path.{◌≡◌}
use mathlib.Core.Bool.{true}
use Rattle.rules.specs.Nodes.{has}
use Rattle.rules.specs.Scheme.{quorum, next}
use Rattle.rules.proofs.Nodes.{majorities_meet, differing_same, differing_step}

pub quorums_meet : (s s' c : ℕ) → quorum s c ≡ true → quorum s' c ≡ true → (v : ℕ) × (has s v ≡ true) × (has s' v ≡ true)
unfolding quorum
quorums_meet s s' c p q = majorities_meet s c s' c p q (omega (arith, differing_same c))

pub neighbours_meet : (s s' c d : ℕ) → next c d ≡ true → quorum s c ≡ true → quorum s' d ≡ true
    → (v : ℕ) × (has s v ≡ true) × (has s' v ≡ true)
unfolding quorum next
neighbours_meet s s' c d n p q = majorities_meet s c s' d p q (omega (arith, differing_step c d n))
