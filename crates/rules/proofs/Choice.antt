-- A choice by a test: what holds of either outcome, where the test says so, holds of what is chosen.
use mathlib.Core.Path.{◌≡◌, refl}
use mathlib.Core.Bool.{Bool, true, false, cond}

pub chosen : {A : Type 0} (P : A → Type 0) (c : Bool) {a b : A} → (c ≡ true → P a) → (c ≡ false → P b) → P (cond c a b)
chosen P true one other = one refl
chosen P false one other = other refl

-- two choices by one test agree where their outcomes do
pub chosen_alike : {A : Type 0} (c : Bool) {a b a' b' : A} → (c ≡ true → a ≡ a') → (c ≡ false → b ≡ b') → cond c a b ≡ cond c a' b'
chosen_alike true one other = one refl
chosen_alike false one other = other refl
