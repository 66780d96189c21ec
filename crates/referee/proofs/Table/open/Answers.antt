-- The empty set is refused beside the fresh table of set 1; any other opens its own.
use mathlib.Core.Path.{◌≡◌, sym, ap, ◌∙◌}
use borrow.Author.Tests.{eq-eqb, ne_eqb}
use Rattle.rules.specs.declared.Answer.TheVariants.{Accepted, Refused}
use Rattle.rules.specs.declared.Refusal.TheVariants.{EmptySet}
use Rattle.rules.specs.Nodes.{empty}
use Rattle.rules.specs.State.{fresh}
use Rattle.rules.specs.Proposals.{opened}
use Rattle.referee.proofs.Views.{result}
use Rattle.referee.proofs.Table.open.Goals as goal

pub returns-then-set-eq0 : goal.returns-then-set-eq0
unfolding opened empty
returns-then-set-eq0 c =
    let set = c.args.set in
    let refused : opened set ≡ result (fresh 1) (Refused EmptySet) = rw (eq-eqb set 0 c.if-set-eq0.true) in
    ap (λ s. result s (Refused EmptySet)) c.fresh.ensures ∙ sym refused

pub returns : goal.returns
unfolding opened empty
returns c =
    let set = c.args.set in
    let accepted : opened set ≡ result (fresh set) (Accepted 0) = rw (ne_eqb set 0 c.if-set-eq0.false) in
    ap (λ s. result s (Accepted 0)) c.fresh-2.ensures ∙ sym accepted
