-- The head: what was found says whether its node leads, and what is left of a reconfigure under it.
use Prim.Native.Nat.{ℕ}
use mathlib.Core.Path.{◌≡◌, ap}
use mathlib.Core.Bool.{true, false}
use mathlib.Core.List.{List}
use lib.Dec.{ltb, eqb}
use Rattle.std.specs.Prelude.{Some, None}
use Rattle.rules.specs.declared.Record.{Record}
use Rattle.rules.specs.Nodes.{empty}
use Rattle.rules.specs.Clocks.{clock}
use Rattle.rules.specs.Tree.{number_of, record_of, last_called, leading, leads}
use Rattle.rules.specs.State.{State, is_table}
use Rattle.rules.specs.Proposals.{reconfigure_on, reconfigure}
use Rattle.referee.specs.Rest.{grown_on, changed_on}

module _ (clocks : List ℕ) (records : List Record) (node : ℕ) where
  pub leads_none : last_called records node ≡ None → leads clocks records node ≡ false
  unfolding leads
  leads_none e = ap (leading (clock clocks node)) e

  pub leads_by : (i : ℕ) (h : Record) → last_called records node ≡ Some (i, h) → leads clocks records node ≡ eqb h.time (clock clocks node)
  unfolding leads
  leads_by i h e = ap (leading (clock clocks node)) e

pub reconfigure_rest : (s : State) (caller new : ℕ) → is_table s ≡ true → ltb 15 caller ≡ false → eqb new 0 ≡ false
    → leads s.clocks s.records caller ≡ true
    → reconfigure s caller new
    ≡ changed_on s (number_of (last_called s.records caller)) (record_of s.records (last_called s.records caller)) caller new
unfolding reconfigure reconfigure_on changed_on grown_on empty
reconfigure_rest s caller new e₁ e₂ e₃ e₄ = rw (e₁, e₂, e₃, e₄)
