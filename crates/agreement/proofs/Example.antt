-- Document 01's worked example, by computation: the proposals are accepted, short and refused as it says, so what demand 3 speaks of
-- does occur.
use mathlib.Core.Path.{◌≡◌, refl}
use mathlib.Core.Bool.{false, xor}
use mathlib.Core.List.{List, [], ◌∷◌}
use Rattle.rules.specs.declared.Refusal.TheVariants.{ClockPast, NotLeading}
use Rattle.rules.specs.declared.Answer.{Answer}
use Rattle.rules.specs.declared.Answer.TheVariants.{Accepted, Short, Refused}
use Rattle.rules.specs.declared.Proposal.{Proposal}
use Rattle.rules.specs.declared.Proposal.TheVariants.{Pull, Invoke, Reconfigure, Push}
use Rattle.rules.specs.Nodes.{nodes, has, empty, size, shared, differing, majority, one_step, subset}
use Rattle.rules.specs.Scheme.{quorum, within, next}
use Rattle.rules.specs.Clocks.{moved, some_at_or_past, some_past}
use Rattle.rules.specs.Records.{at, above, holds, called}
use Rattle.rules.specs.Tree.{latest, held_by_any, base, last_called, last_commit, latest_commit, path, on_path, leads, open_change, commit_of_time}
use Rattle.rules.specs.State.{State, places, fresh, log_of, counted, is_opening, shaped, rooted, all_shaped, timely, all_timely, one_branch, logged, is_table, full}
use Rattle.rules.specs.Proposals.{pull_on, pull, invoke_on, invoke, reconfigure_on, reconfigure, bad_target, supersedes, superseded, gained, push_on, push}
use Rattle.rules.specs.Run.{step, run}

-- the answers to one proposal after another
abbrev answers : State → List Proposal → List Answer
answers s [] = []
answers s (p ∷ proposals) = (step s p).answer ∷ answers (step s p).state proposals

pub proposals : List Proposal
proposals =
    Pull 0 3 1
    ∷ Invoke 0 500
    ∷ Invoke 0 501
    ∷ Push 0 3 2
    ∷ Reconfigure 0 15
    ∷ Push 0 9 5
    ∷ Push 0 11 5
    ∷ Pull 2 6 2
    ∷ Invoke 0 502
    ∷ Push 0 11 7
    ∷ Pull 2 7 2
    ∷ Pull 2 7 3
    ∷ Invoke 0 1
    ∷ []

-- what document 01 says of them
pub record Worked : Type 0 where
  pub opens : empty 7 ≡ false
  pub answered : answers (fresh 7) proposals
      ≡ Accepted 1 ∷ Accepted 2 ∷ Accepted 3 ∷ Accepted 4 ∷ Accepted 5 ∷ Short ∷ Accepted 6 ∷ Short ∷ Accepted 7
      ∷ Refused ClockPast ∷ Refused ClockPast ∷ Accepted 8 ∷ Refused NotLeading ∷ []
  pub log : (run (fresh 7) proposals).log ≡ 2 ∷ 3 ∷ 5 ∷ []
  -- record 4 stands between 2 and 3, record 8 is under 7
  pub fourth : (at (run (fresh 7) proposals).records 4).parent ≡ 2
  pub third : (at (run (fresh 7) proposals).records 3).parent ≡ 4
  pub eighth : (at (run (fresh 7) proposals).records 8).parent ≡ 7

pub worked : Worked
unfolding
    proposals nodes has empty size shared differing majority one_step subset quorum within next moved some_at_or_past some_past above holds called
    latest held_by_any base last_called last_commit latest_commit path on_path leads open_change commit_of_time places fresh log_of counted is_opening
    shaped rooted all_shaped timely all_timely one_branch logged is_table full pull_on pull invoke_on invoke reconfigure_on reconfigure bad_target
    supersedes superseded gained push_on push xor
worked = record { opens = refl; answered = refl; log = refl; fourth = refl; third = refl; eighth = refl }
