-- A step of a walk is determined by the walk before it: the record met, and what the walk has before it then.
use Rattle.std.proofs.Common.{◌≡◌, ℕ, Option, None, Some, List, [], ◌∷◌, length, get_or, drop, refl, sym, ap, ◌∙◌, arith}
use Rattle.std.specs.Iterator.{YieldsFirst}
use Rattle.paths.specs.declared.Walk.{Walk}
use Rattle.paths.specs.Onward.{onward}

unlike : (i : ℕ) (up : List ℕ) → [] ≡ i ∷ up → ⊥
unlike i up e = let n : 0 ≡ length (i ∷ up) = ap length e in omega arith

pub step_same : (w after after' : Walk) (met met' : Option ℕ) → YieldsFirst onward w met after → YieldsFirst onward w met' after'
    → (met ≡ met') × (onward after ≡ onward after')
step_same w after after' None None h g = (refl, h.1 ∙ sym g.1)
step_same w after after' None (Some j) h g = absurd (unlike j (onward after') (sym h.0 ∙ g))
step_same w after after' (Some i) None h g = absurd (unlike i (onward after) (sym g.0 ∙ h))
step_same w after after' (Some i) (Some j) h g =
    let e : i ∷ onward after ≡ j ∷ onward after' = sym h ∙ g in
    (ap (λ (up : List ℕ). Some (get_or up 0 0)) e, ap (drop 1) e)
