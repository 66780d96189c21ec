-- Demand 3: "From a fresh table, after any proposals at all, all commits lie on one branch, the kept log equals the one read afresh
-- from the records, only a push with a majority makes it longer and never changes its beginning, and refusals 16 and 17 never come."
-- Every statement is over `now`, the state after any proposals from a fresh table, in the definitions of document 01 and no others.
--
-- What the proof uses of the rules:
--   pull: the caller is among the voters (3), every voter's clock is below the time (5), the base is the latest record held by any voter;
--   invoke and reconfigure: the head is the latest record that the caller called, and there is one (6); record 0's caller is no node (2);
--   reconfigure: one step from the head's members (9), no open change (10), a commit of the head's time (11);
--   push: the target is an entry of the caller (7), past every commit of that caller and time (8), no voter's clock is past it (5).
-- One branch rests on all of these. That 17 never comes rests on one branch, 5 and 8, and that the log stays the one read afresh rests on
-- that: 17 itself is used nowhere. 1 and 12 serve the test for a table alone. 4 and 13, and in a push 3 and 6, are not used.
use Prim.Native.Nat.{ℕ, ◌<◌}
use mathlib.Core.Path.{◌≡◌, refl, ap}
use mathlib.Core.Logic.{◌⊎◌, ⊎_elim, ⊎_map, ⊎_swap}
use mathlib.Core.Bool.{true, false}
use mathlib.Core.List.{List, ◌++◌}
use lib.ListN.{length}
use Rattle.rules.specs.declared.Kind.TheVariants.{Election}
use Rattle.rules.specs.declared.Refusal.TheVariants.{NoTable, OffBranch}
use Rattle.rules.specs.declared.Answer.TheVariants.{Accepted, Refused}
use Rattle.rules.specs.declared.Proposal.{Proposal}
use Rattle.rules.specs.declared.Proposal.TheVariants.{Push}
use Rattle.rules.specs.Nodes.{empty}
use Rattle.rules.specs.Scheme.{quorum}
use Rattle.rules.specs.Records.{at, is_commit, above}
use Rattle.rules.specs.Tree.{on_path}
use Rattle.rules.specs.State.{State, fresh, log_of, one_branch, is_table}
use Rattle.rules.specs.Proposals.{Result, opened}
use Rattle.rules.specs.Run.{step, run}
use Rattle.rules.proofs.Choice.{chosen}
use Rattle.rules.proofs.State.{table_says}
use Rattle.agreement.proofs.Theorem.{election_under, election_once, commits_comparable, one_below}
use Rattle.agreement.proofs.Reading.{sort_of}
use Rattle.agreement.proofs.Readings.{commit_sort, below_above}
use Rattle.agreement.proofs.Upward.{on_path_lem}
use Rattle.agreement.proofs.Sound.{sound_table}
use Rattle.agreement.proofs.Run.{step_kept, sound_from, step_log, run_log}

-- whatever opening hands back, refused or not, is a fresh table of a set that is not empty
pub opens_fresh : (set : ℕ) → (g : ℕ) × (empty g ≡ false) × ((opened set).state ≡ fresh g)
unfolding opened empty
opens_fresh set =
    chosen (λ (r : Result). (g : ℕ) × (empty g ≡ false) × (r.state ≡ fresh g)) (empty set) (λ e. (1, refl, refl)) (λ e. (set, e, refl))

module _ (g : ℕ) (opens : empty g ≡ false) (proposals : List Proposal) where
  -- "From a fresh table, after any proposals at all"
  abbrev now : State
  now = run (fresh g) proposals

  -- the state is a table
  pub always_a_table : is_table now ≡ true
  always_a_table = sound_table (sound_from g opens proposals)

  -- "all commits lie on one branch": that of the latest
  pub one_branch_lem : one_branch now.records ≡ true
  one_branch_lem = (table_says now (sound_table (sound_from g opens proposals))).branch

  -- the same without the latest: of any two commits one is on the other's path
  pub one_of_two : (c d : ℕ) → c < length now.records → d < length now.records
      → is_commit (at now.records c) ≡ true → is_commit (at now.records d) ≡ true
      → (on_path now.records c d ≡ true) ⊎ (on_path now.records d c ≡ true)
  unfolding on_path
  one_of_two c d l m e f =
      ⊎_map (λ p. on_path_lem now.records (sound_from g opens proposals).facts p m) (λ p. on_path_lem now.records (sound_from g opens proposals).facts p l)
      (commits_comparable (sound_from g opens proposals).facts c d l m (commit_sort (at now.records c).kind e) (commit_sort (at now.records d).kind f))

  -- "the kept log equals the one read afresh from the records"
  pub log_afresh : now.log ≡ log_of now.records
  log_afresh = (sound_from g opens proposals).logged

  -- "never changes its beginning": after one more proposal the log is the old one and maybe more
  pub log_kept : (p : Proposal) → (more : List ℕ) × ((step now p).state.log ≡ now.log ++ more)
  log_kept = step_log (sound_from g opens proposals)

  -- and so after any number more
  pub log_kept_on : (later : List Proposal) → (more : List ℕ) × ((run now later).log ≡ now.log ++ more)
  log_kept_on = run_log (sound_from g opens proposals)

  -- "only a push with a majority makes it longer": a proposal after which the log is another is a push, accepted, with a majority of the
  -- target's members
  pub only_a_push_grows : (p : Proposal) → ¬ ((step now p).state.log ≡ now.log)
      → (caller : ℕ) × (voters : ℕ) × (target : ℕ) × (p ≡ Push caller voters target)
      × ((step now p).answer ≡ Accepted (length now.records)) × (quorum voters (at now.records target).members ≡ true)
  only_a_push_grows p other =
      ⊎_elim (λ e. absurd (other e)) (λ q. (q.caller, q.voters, q.target, q.is_push, q.accepted, q.majority)) (step_kept (sound_from g opens proposals) p).log

  -- "refusals 16 and 17 never come"
  pub never_16 : (p : Proposal) → ¬ ((step now p).answer ≡ Refused NoTable)
  never_16 p = (step_kept (sound_from g opens proposals) p).not_16

  pub never_17 : (p : Proposal) → ¬ ((step now p).answer ≡ Refused OffBranch)
  never_17 p = (step_kept (sound_from g opens proposals) p).not_17

  -- Beyond demand 3, what it comes from.

  -- no two elections have the same time
  pub one_election_a_time : (e e' voters voters' : ℕ) → e < length now.records → e' < length now.records
      → (at now.records e).kind ≡ Election voters → (at now.records e').kind ≡ Election voters'
      → (at now.records e).time ≡ (at now.records e').time → e ≡ e'
  one_election_a_time e e' voters voters' l l' k k' t = election_once (sound_from g opens proposals).facts e e' l l' (ap sort_of k) (ap sort_of k') t

  -- every election stands under every commit of a lower time
  pub election_under_commits : (e c voters : ℕ) → e < length now.records → c < length now.records
      → (at now.records e).kind ≡ Election voters → is_commit (at now.records c) ≡ true
      → (at now.records c).time < (at now.records e).time → on_path now.records c e ≡ true
  unfolding on_path
  election_under_commits e c voters l m k f t =
      on_path_lem now.records (sound_from g opens proposals).facts (election_under (sound_from g opens proposals).facts e c l m (ap sort_of k) (commit_sort (at now.records c).kind f) t) l

  -- of two different records one is above the other
  pub no_two_equal : (i j : ℕ) → i < length now.records → j < length now.records → ¬ (i ≡ j)
      → (above (at now.records i) (at now.records j) ≡ true) ⊎ (above (at now.records j) (at now.records i) ≡ true)
  no_two_equal i j l m d =
      ⊎_swap (⊎_map (below_above now.records i j) (below_above now.records j i) (one_below (sound_from g opens proposals).facts i j l m d))
