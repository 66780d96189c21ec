-- A scheme of members: what configurations are, which sets of nodes are quorums of one, and which one may follow another.
-- All that it owes: two quorums of equal or of neighbouring configurations share a node.
use Rattle.std.specs.Prelude.{ℕ}

pub record Scheme : Type 1 where
  pub Conf : Type 0
  -- a set of nodes, coded as a number, is a quorum of a configuration
  pub Quorum : ℕ → Conf → Type 0
  -- the second configuration may follow the first
  pub Next : Conf → Conf → Type 0
  -- the set has the node
  pub Has : ℕ → ℕ → Type 0
  pub share_same : {S S' : ℕ} {C : Conf} → Quorum S C → Quorum S' C → (v : ℕ) × Has S v × Has S' v
  pub share_next : {S S' : ℕ} {C D : Conf} → Next C D → Quorum S C → Quorum S' D → (v : ℕ) × Has S v × Has S' v
