-- The order of records is that of a single number, the rank: so it is strict, and total up to records that are equal in it.
use Prim.Native.Nat.{ℕ, suc, ◌+◌, ◌*◌, ◌≤◌, ◌<◌}
use native.Mathlib.Nat.{eq-or-lt_of_le, mul-le-mul_right}
use native.Mathlib.Omega.{arith}
use mathlib.Core.Path.{◌≡◌, refl, sym, ap, ◌∙◌}
use mathlib.Core.Logic.{◌⊎◌, inl, inr, ⊎_elim}
use mathlib.Core.Bool.{Bool, true, false, cond, not, ◌&&◌, ◌||◌, true≢false}
use borrow.Author.Tests.{ltb-true, ltb-false, lt-ltb, le-ltb, eq-eqb, ne_eqb}
use lib.Dec.{ltb, eqb}
use Rattle.rules.specs.declared.Record.{Record}
use Rattle.rules.specs.declared.Kind.{Kind}
use Rattle.rules.specs.declared.Kind.TheVariants.{Election, Command, Change, Commit}
use Rattle.rules.specs.Nodes.{has}
use Rattle.rules.specs.Records.{commit_kind, is_commit, above, held_by, holds, called}
use Rattle.rules.proofs.Bools.{tested, or_nothing}

-- a < b tested, from either side of the answer
agree : (a b c d : ℕ) → (a < b → c < d) → (b ≤ a → d ≤ c) → ltb a b ≡ ltb c d
agree a b c d yes' no' =
    ⊎_elim
    (λ e. e ∙ sym (lt-ltb c d (yes' (ltb-true a b e))))
    (λ e. e ∙ sym (le-ltb c d (no' (ltb-false a b e))))
    (tested (ltb a b))

-- first by b and a, then by y and x below m: that is by one number
by_two : (m a b x y : ℕ) → x < m → y < m → ltb b a || (eqb b a && ltb y x) ≡ ltb (b * m + y) (a * m + x)
by_two m a b x y lx ly = ⊎_elim less (λ g. ⊎_elim equal more (eq-or-lt_of_le g)) (tested_order b a)
  where
    tested_order : (b a : ℕ) → (b < a) ⊎ (a ≤ b)
    tested_order b a = ⊎_elim (λ e. inl (ltb-true b a e)) (λ e. inr (ltb-false b a e)) (tested (ltb b a))

    less : b < a → ltb b a || (eqb b a && ltb y x) ≡ ltb (b * m + y) (a * m + x)
    less l = rw (lt-ltb b a l) (sym (lt-ltb (b * m + y) (a * m + x) (omega (arith, mul-le-mul_right m l))))

    equal : a ≡ b → ltb b a || (eqb b a && ltb y x) ≡ ltb (b * m + y) (a * m + x)
    equal e =
        rw (le-ltb b a (omega arith), eq-eqb b a (sym e))
        (agree y x (b * m + y) (a * m + x) (λ l. omega (arith, ap (λ (k : ℕ). k * m) e)) (λ l. omega (arith, ap (λ (k : ℕ). k * m) e)))

    more : a < b → ltb b a || (eqb b a && ltb y x) ≡ ltb (b * m + y) (a * m + x)
    more l =
        rw (le-ltb b a (omega arith), ne_eqb b a (omega arith))
        (sym (le-ltb (b * m + y) (a * m + x) (omega (arith, mul-le-mul_right m l))))

abbrev bit : Bool → ℕ
bit c = cond c 1 0

bit_small : (c : Bool) → bit c < 2
bit_small true = omega arith
bit_small false = omega arith

by_bit : (ca cb : Bool) → ca && not cb ≡ ltb (bit cb) (bit ca)
by_bit true true = refl
by_bit true false = refl
by_bit false true = refl
by_bit false false = refl

-- where a record stands among those of its time
abbrev pub low : Record → ℕ
low r = r.version * 2 + bit (is_commit r)

-- where a record stands in the order, for a bound m on the lows
abbrev pub rank : ℕ → Record → ℕ
rank m r = r.time * m + low r

pub above_rank : (m : ℕ) (a b : Record) → low a < m → low b < m → above a b ≡ ltb (rank m b) (rank m a)
unfolding above
above_rank m a b la lb =
    rw (by_bit (is_commit a) (is_commit b))
    (rw (by_two 2 a.version b.version (bit (is_commit a)) (bit (is_commit b)) (bit_small (is_commit a)) (bit_small (is_commit b)))
    (by_two m a.time b.time (low a) (low b) la lb))

pub above_lt : (m : ℕ) (a b : Record) → low a < m → low b < m → above a b ≡ true → rank m b < rank m a
above_lt m a b la lb e = ltb-true (rank m b) (rank m a) (sym (above_rank m a b la lb) ∙ e)

pub lt_above : (m : ℕ) (a b : Record) → low a < m → low b < m → rank m b < rank m a → above a b ≡ true
lt_above m a b la lb l = above_rank m a b la lb ∙ lt-ltb (rank m b) (rank m a) l

pub not_above_le : (m : ℕ) (a b : Record) → low a < m → low b < m → above a b ≡ false → rank m a ≤ rank m b
not_above_le m a b la lb e = ltb-false (rank m b) (rank m a) (sym (above_rank m a b la lb) ∙ e)

pub le_not_above : (m : ℕ) (a b : Record) → low a < m → low b < m → rank m a ≤ rank m b → above a b ≡ false
le_not_above m a b la lb l = above_rank m a b la lb ∙ le-ltb (rank m b) (rank m a) l

-- no record is above itself
pub above_irreflexive : (a : Record) → above a a ≡ false
above_irreflexive a = le_not_above (suc (low a)) a a (omega arith) (omega arith) (omega arith)

-- of two records not both are above each other
pub above_asymmetric : (a b : Record) → above a b ≡ true → above b a ≡ false
above_asymmetric a b e =
    let m : ℕ = suc (low a + low b) in
    let l = above_lt m a b (omega arith) (omega arith) e in
    le_not_above m b a (omega arith) (omega arith) (omega arith)

-- what is above a record that is not below c is above c
pub above_trans : (a b c : Record) → above a b ≡ true → above c b ≡ false → above a c ≡ true
above_trans a b c e f =
    let m : ℕ = suc (low a + low b + low c) in
    let l = above_lt m a b (omega arith) (omega arith) e in
    let g = not_above_le m c b (omega arith) (omega arith) f in
    lt_above m a c (omega arith) (omega arith) (omega arith)

-- "not above" is total: of three in a row the outer two are so too
pub not_above_trans : (a b c : Record) → above a b ≡ false → above b c ≡ false → above a c ≡ false
not_above_trans a b c e f =
    let m : ℕ = suc (low a + low b + low c) in
    let l = not_above_le m a b (omega arith) (omega arith) e in
    let g = not_above_le m b c (omega arith) (omega arith) f in
    le_not_above m a c (omega arith) (omega arith) (omega arith)

-- every node holds record 0
pub holds_root : (r : Record) (node : ℕ) → holds 0 r node ≡ true
unfolding holds
holds_root r node = refl

-- any other record that is no commit is held by its caller alone
pub holds_caller : (i : ℕ) (r : Record) (node : ℕ) → 0 < i → is_commit r ≡ false → holds i r node ≡ called r node
unfolding holds called
holds_caller i r node z e = rw (ne_eqb i 0 (omega arith)) (alone r.kind e)
  where
    alone : (k : Kind) → commit_kind k ≡ false → held_by k r.caller node ≡ eqb r.caller node
    alone (Election voters) e = refl
    alone (Command number) e = refl
    alone Change e = refl
    alone (Commit voters) e = absurd (true≢false e)

-- a commit is held by its voters
pub holds_voters : (i : ℕ) (r : Record) (voters node : ℕ) → 0 < i → r.kind ≡ Commit voters → holds i r node ≡ has voters node
unfolding holds
holds_voters i r voters node z e = rw (ne_eqb i 0 (omega arith), e)

-- the order, test by test
pub above_by_time : (a b : Record) → (a.time ≡ b.time → ⊥) → above a b ≡ ltb b.time a.time
unfolding above
above_by_time a b d = rw (ne_eqb b.time a.time (λ e. d (sym e))) (or_nothing (ltb b.time a.time))

pub above_by_version : (a b : Record) → a.time ≡ b.time → (a.version ≡ b.version → ⊥) → above a b ≡ ltb b.version a.version
unfolding above
above_by_version a b e d =
    rw (le-ltb b.time a.time (omega arith), eq-eqb b.time a.time (sym e), ne_eqb b.version a.version (λ x. d (sym x)))
    (or_nothing (ltb b.version a.version))

pub above_by_kind : (a b : Record) → a.time ≡ b.time → a.version ≡ b.version → above a b ≡ is_commit a && not (is_commit b)
unfolding above
above_by_kind a b e f =
    rw (
      le-ltb b.time a.time (omega arith),
      eq-eqb b.time a.time (sym e),
      le-ltb b.version a.version (omega arith),
      eq-eqb b.version a.version (sym f),
    )
