-- One proposal after another.
use Rattle.std.specs.Prelude.{List, [], ◌∷◌}
use Rattle.rules.specs.declared.Proposal.{Proposal}
use Rattle.rules.specs.declared.Proposal.TheVariants.{Pull, Invoke, Reconfigure, Push}
use Rattle.rules.specs.State.{State}
use Rattle.rules.specs.Proposals.{Result, pull, invoke, reconfigure, push}

-- what becomes of a proposal
abbrev pub step : State → Proposal → Result
step s (Pull caller voters time) = pull s caller voters time
step s (Invoke caller number) = invoke s caller number
step s (Reconfigure caller new) = reconfigure s caller new
step s (Push caller voters target) = push s caller voters target

-- the state after a list of proposals
abbrev pub run : State → List Proposal → State
run s [] = s
run s (proposal ∷ proposals) = run (step s proposal).state proposals
