-- Opening: record 0 alone, a commit of time 0 under itself, has the facts, whatever the clocks.
use mathlib.Core.Path.{◌≡◌}
use Prim.Native.Nat.{ℕ, ◌<◌}
use native.Mathlib.Omega.{arith}
use Rattle.agreement.specs.Scheme.{Scheme}
use Rattle.agreement.specs.Tree.{Tree, commit, here}
use Rattle.agreement.specs.Facts.{Facts}

-- a record below 1 is record 0
only : {i : ℕ} → i < 1 → i ≡ 0
only h = omega arith

pub opening : {𝓢 : Scheme} {T : Tree 𝓢.Conf} {clock : ℕ → ℕ} {holds : ℕ → ℕ → Type 0} →
    T.sort 0 ≡ commit → T.time 0 ≡ 0 → T.parent 0 ≡ 0 → ((v : ℕ) → holds v 0) → Facts 𝓢 T 1 clock holds
opening s t p all = record {
  opened = omega arith;
  root_sort = s;
  root_time = t;
  root_parent = p;
  after_root = λ i z h. absurd (omega arith);
  parent_known = λ i h. rw (only h, p) (omega arith);
  rooted = λ i h. rw (only h) here;
  shape = λ i z h. absurd (omega arith);
  chain = λ i j z h y k. absurd (omega arith);
  clock_called = λ i z h. absurd (omega arith);
  clock_voted = λ i v h e. rw (only h, t) (omega arith);
  clock_held = λ i v h e. rw (only h, t) (omega arith);
  voters_hold = λ i v h e x. rw (only h) (all v);
  vote_after_commit = λ e c v h k r q x y l. let m = rw (only h, only k) at l in absurd (omega arith);
  one_vote = λ e e' v h k r q x y l. omega arith;
}
