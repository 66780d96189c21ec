-- Tests: what a conjunction, a disjunction or a choice says once its value is known.
use mathlib.Core.Path.{◌≡◌, refl}
use mathlib.Core.Logic.{◌⊎◌, inl, inr}
use mathlib.Core.Bool.{Bool, true, false, not, ◌&&◌, ◌||◌, true≢false, false≢true}

-- a test passes or fails
pub tested : (b : Bool) → (b ≡ true) ⊎ (b ≡ false)
tested true = inl refl
tested false = inr refl

-- not both
pub torn : {b : Bool} → b ≡ true → b ≡ false → ⊥
torn p q = true≢false (cc)

pub and_left : (a b : Bool) → a && b ≡ true → a ≡ true
and_left true b e = refl
and_left false b e = absurd (false≢true e)

pub and_right : (a b : Bool) → a && b ≡ true → b ≡ true
and_right true b e = e
and_right false b e = absurd (false≢true e)

pub and_true : {a b : Bool} → a ≡ true → b ≡ true → a && b ≡ true
and_true p q = rw (p, q)

pub and_false_right : (a : Bool) {b : Bool} → b ≡ false → a && b ≡ false
and_false_right true q = q
and_false_right false q = refl

pub and_fails : (a b : Bool) → a && b ≡ false → a ≡ true → b ≡ false
and_fails true b e p = e
and_fails false b e p = absurd (false≢true p)

pub or_cases : (a b : Bool) → a || b ≡ true → (a ≡ true) ⊎ (b ≡ true)
or_cases true b e = inl refl
or_cases false b e = inr e

pub or_false : {a b : Bool} → a ≡ false → b ≡ false → a || b ≡ false
or_false p q = rw (p, q)

pub or_nothing : (a : Bool) → a || false ≡ a
or_nothing true = refl
or_nothing false = refl

pub or_left : {a : Bool} (b : Bool) → a ≡ true → a || b ≡ true
or_left b p = rw p

pub or_right : (a : Bool) {b : Bool} → b ≡ true → a || b ≡ true
or_right true q = refl
or_right false q = q

pub or_none_left : (a b : Bool) → a || b ≡ false → a ≡ false
or_none_left true b e = absurd (true≢false e)
or_none_left false b e = refl

pub or_none_right : (a b : Bool) → a || b ≡ false → b ≡ false
or_none_right true b e = absurd (true≢false e)
or_none_right false b e = e

-- an implication written as a test
pub if_then : (a b : Bool) → not a || b ≡ true → a ≡ true → b ≡ true
if_then true b e p = e
if_then false b e p = absurd (false≢true p)

pub not_then : (a b : Bool) → not a || b ≡ false → (a ≡ true) × (b ≡ false)
not_then true b e = (refl, e)
not_then false b e = absurd (true≢false e)

pub then_if : (a b : Bool) → (a ≡ true → b ≡ true) → not a || b ≡ true
then_if true b h = h refl
then_if false b h = refl
