-- How an order of refusals is read: some line of it refuses, or no line's condition holds and it is done.
use Prim.Native.Nat.{ℕ}
use mathlib.Core.Path.{◌≡◌, refl, ap}
use mathlib.Core.Bool.{Bool, true, false, not, ◌||◌}
use mathlib.Core.List.{List, [], ◌∷◌, ◌++◌}
use borrow.Author.Tests.{eq-eqb}
use lib.Dec.{eqb}
use Rattle.rules.specs.declared.Refusal.{Refusal}
use Rattle.rules.specs.declared.Refusal.TheVariants.{NoTable}
use Rattle.rules.specs.State.{State, is_table}
use Rattle.rules.specs.Refusals.{Line, ◌⇒◌, numbered, decide}
use Rattle.rules.specs.Proposals.{Result, refused_in, judge}
use Rattle.rules.proofs.Bools.{or_left, or_right}
use Rattle.rules.proofs.Choice.{chosen, chosen_alike}

-- X, given that no line's condition holds
abbrev pub Given : List Line → Type 0 → Type 0
Given [] X = X
Given ((c ⇒ refusal) ∷ lines) X = c ≡ false → Given lines X

-- some line gives the refusal of this number
abbrev pub names : ℕ → List Line → Bool
names k [] = false
names k ((c ⇒ refusal) ∷ lines) = eqb (numbered refusal) k || names k lines

-- what holds of every refusal that a line gives, and of what is done where no line's condition holds, holds of the decision
pub decided : {A : Type 0} (P : A → Type 0) (refused : Refusal → A) (lines : List Line) (done : A)
    → ((refusal : Refusal) → names (numbered refusal) lines ≡ true → P (refused refusal)) → Given lines (P done)
    → P (decide refused lines done)
decided P refused [] done r d = d
decided P refused ((c ⇒ refusal) ∷ lines) done r d =
    chosen P c
    (λ e. r refusal (or_left (names (numbered refusal) lines) (eq-eqb (numbered refusal) (numbered refusal) refl)))
    (λ e. decided P refused lines done (λ x n. r x (or_right (eqb (numbered refusal) (numbered x)) n)) (d e))

-- a line whose condition fails where those before it fail may be left out
pub passed_over : {A : Type 0} (refused : Refusal → A) (lines : List Line) (c : Bool) (refusal : Refusal) (more : List Line) (done : A)
    → Given lines (c ≡ false) → decide refused (lines ++ (c ⇒ refusal) ∷ more) done ≡ decide refused (lines ++ more) done
passed_over refused [] c refusal more done e = rw e
passed_over refused ((b ⇒ other) ∷ lines) c refusal more done e =
    chosen_alike b (λ f. refl) (λ f. passed_over refused lines c refusal more done (e f))

-- so 16 is left out where the state is a table
pub judged : (s : State) (lines : List Line) (done : Result) → is_table s ≡ true
    → judge s lines done ≡ decide (refused_in s) lines done
judged s lines done e = passed_over (refused_in s) [] (not (is_table s)) NoTable lines done (ap not e)
