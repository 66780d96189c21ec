-- Sets of nodes: majorities of equal sets, and of sets one step apart, share a node.
-- Counted node by node: twice the nodes of S in C and of S' in D are at most twice those in both S and S', those of C, those of D and those
-- in which C and D differ.
use Prim.Native.Nat.{ℕ, zero, suc, ◌+◌, ◌*◌, ◌≤◌, ◌<◌, min}
use native.Mathlib.Omega.{arith}
use mathlib.Core.Path.{◌≡◌, refl}
use mathlib.Core.Bool.{Bool, true, false, ◌&&◌, xor}
use borrow.Author.Tests.{ltb-true, eqb-true}
use lib.Dec.{ltb}
use Rattle.rules.specs.First.{count}
use Rattle.rules.specs.Nodes.{nodes, has, size, shared, differing, majority, one_step}
use Rattle.rules.proofs.Bools.{and_left, and_right}
use Rattle.rules.proofs.First.{one, one_small, counted_one}

-- only the sixteen nodes are in a set
pub has_node : (set v : ℕ) → has set v ≡ true → v < nodes
unfolding has
has_node set v e = ltb-true v nodes (and_left (ltb v nodes) _ e)

one_and : (a b : Bool) → one (a && b) ≡ min (one a) (one b)
one_and true true = refl
one_and true false = refl
one_and false true = refl
one_and false false = refl

one_xor : (a b : Bool) → one (xor a b) + 2 * min (one a) (one b) ≡ one a + one b
unfolding xor
one_xor true true = refl
one_xor true false = refl
one_xor false true = refl
one_xor false false = refl

at_one : (s c s' d : Bool) → 2 * (one (s && c) + one (s' && d)) ≤ 2 * one (s && s') + one c + one d + one (xor c d)
at_one s c s' d =
    rw (one_and s c, one_and s' d, one_and s s')
    (omega (arith, one_xor c d, one_small s, one_small c, one_small s', one_small d))

among_all : (S C S' D : ℕ → Bool) (n : ℕ) →
    2 * (count (λ i. S i && C i) n + count (λ i. S' i && D i) n)
    ≤ 2 * count (λ i. S i && S' i) n + count C n + count D n + count (λ i. xor (C i) (D i)) n
among_all S C S' D zero = omega arith
among_all S C S' D (suc n) = omega (arith, among_all S C S' D n, at_one (S n) (C n) (S' n) (D n))

-- majorities of sets that differ in at most one node share a node
pub majorities_meet : (s c s' d : ℕ) → majority s c ≡ true → majority s' d ≡ true → differing c d ≤ 1
    → (v : ℕ) × (has s v ≡ true) × (has s' v ≡ true)
unfolding majority size shared differing
majorities_meet s c s' d p q l =
    let p' = ltb-true (size c) (2 * shared s c) p in
    let q' = ltb-true (size d) (2 * shared s' d) q in
    let f = counted_one (λ i. has s i && has s' i) nodes (omega (arith, among_all (has s) (has c) (has s') (has d) nodes)) in
    (f.0, and_left (has s f.0) (has s' f.0) f.2, and_right (has s f.0) (has s' f.0) f.2)

none_differ : (p : ℕ → Bool) (n : ℕ) → count (λ i. xor (p i) (p i)) n ≡ 0
none_differ p zero = refl
none_differ p (suc n) = omega (arith, none_differ p n, one_xor (p n) (p n), one_small (p n))

pub differing_same : (c : ℕ) → differing c c ≡ 0
unfolding differing
differing_same c = none_differ (has c) nodes

pub differing_step : (c d : ℕ) → one_step c d ≡ true → differing c d ≡ 1
unfolding one_step
differing_step c d e = eqb-true _ _ e
