-- A pull keeps a sound state sound: what its order of refusals has passed is what agreement asks of an election.
use Prim.Native.Nat.{ℕ, suc, ◌<◌}
use native.Mathlib.Omega.{arith}
use mathlib.Core.Path.{◌≡◌, refl, ap, ◌∙◌}
use mathlib.Core.Bool.{true, false, not, ◌&&◌, false≢true}
use mathlib.Core.List.{List, [], ◌∷◌}
use borrow.Author.Tests.{ltb-false, not-false}
use lib.Dec.{ltb}
use lib.ListN.{length}
use Rattle.rules.specs.declared.Record.{Record}
use Rattle.rules.specs.declared.Refusal.TheVariants.{NoSuchCaller, CallerAbsent, Stranger, ClockPast, TableFull}
use Rattle.rules.specs.declared.Proposal.TheVariants.{Pull}
use Rattle.rules.specs.Nodes.{nodes, has}
use Rattle.rules.specs.Scheme.{quorum, within}
use Rattle.rules.specs.Clocks.{clock, moved, some_at_or_past}
use Rattle.rules.specs.Records.{at}
use Rattle.rules.specs.Tree.{number_of, held_by_any, base as base_of}
use Rattle.rules.specs.State.{State, full}
use Rattle.rules.specs.Refusals.{Line, ◌⇒◌}
use Rattle.rules.specs.Proposals.{election, pull_on, pull}
use Rattle.rules.proofs.Bools.{and_fails}
use Rattle.rules.proofs.Choice.{chosen}
use Rattle.rules.proofs.Searches.{LatestAt, any_holds, held_by_any_lem, base_is, base_found}
use Rattle.rules.proofs.Votes.{moved_length, voter_clock, clocks_rise, none_at_or_past}
use Rattle.agreement.specs.Passed.{Elected}
use Rattle.agreement.specs.Steps.{NewElection}
use Rattle.agreement.proofs.Pull.{pulled}
use Rattle.agreement.proofs.Single.{single}
use Rattle.agreement.proofs.Reading.{sort_of, voters_of, tree_of, held}
use Rattle.agreement.proofs.Readings.{not_below}
use Rattle.agreement.proofs.Sound.{FactsOf, Sound}
use Rattle.agreement.proofs.OneMore.{handed}
use Rattle.agreement.proofs.Added.{with_one, added_more, added_leaf, added_sound}
use Rattle.agreement.proofs.Kept.{Kept, added_kept, short_kept, judged_kept}

module _ {s : State} (S : Sound s) (caller voters time base : ℕ) where
  abbrev records : List Record
  records = s.records

  abbrev new : Record
  new = election base (at records base) caller voters time

  made : NewElection (tree_of records) (tree_of (with_one records new)) (length records) base caller voters time
  made =
      let e = (added_more records new).new in
      record {
        leaf = added_leaf records new;
        sort_new = ap (λ (r : Record). sort_of r.kind) e;
        caller_new = ap (λ (r : Record). r.caller) e;
        voters_new = ap (λ (r : Record). voters_of r.kind) e;
        time_new = ap (λ (r : Record). r.time) e;
        conf_new = ap (λ (r : Record). r.members) e;
      }

  module _ (L : has voters caller ≡ true → LatestAt (held_by_any voters) records base) where
    -- the order of a pull's refusals; that it is the rules' own is checked where it is used
    abbrev order : List Line
    order =
        (ltb 15 caller ⇒ NoSuchCaller)
        ∷ (not (has voters caller) ⇒ CallerAbsent)
        ∷ (some_at_or_past voters time s.clocks ⇒ ClockPast)
        ∷ (not (within voters (at records base).members) ⇒ Stranger)
        ∷ (quorum voters (at records base).members && full records ⇒ TableFull)
        ∷ []

    module _ (votes : has voters caller ≡ true) (early : some_at_or_past voters time s.clocks ≡ false) where
      below : (v : ℕ) → has voters v ≡ true → clock s.clocks v < time
      below = none_at_or_past voters time s.clocks early

      passed : quorum voters (at records base).members ≡ true
          → Elected single (tree_of records) (length records) (clock s.clocks) (held records) base caller voters time
      passed q = record {
        base_known = (L votes).among;
        caller_votes = votes;
        clocks_below = below;
        base_held = any_holds voters base (at records base) (L votes).wants;
        base_latest = λ v i l h e. not_below records base i ((L votes).tops i l (held_by_any_lem voters i (at records i) v h e));
        quorum = q;
      }

      -- the clocks that a vote moves
      abbrev clocks' : List ℕ
      clocks' = moved voters time s.clocks

      facts : quorum voters (at records base).members ≡ true → FactsOf clocks' (with_one records new) (suc (length records))
      facts q =
          pulled S.facts (passed q) made
          (handed (added_more records new) s.clocks clocks' S.facts.opened
          (clocks_rise voters time s.clocks S.sixteen (λ v h. omega (arith, below v h)))
          (λ e. absurd (false≢true e)))
          (λ v h. omega (arith, voter_clock voters time s.clocks S.sixteen v h))

    pull_on_kept : Kept s (Pull caller voters time) (pull_on s base (at records base) caller voters time)
    unfolding pull_on nodes
    pull_on_kept = judged_kept S order _ refl refl
        (λ known votes early strangers room.
        let v = not-false (has voters caller) votes in
        chosen (Kept s (Pull caller voters time)) (quorum voters (at records base).members)
        (λ q. added_kept
        (added_sound S new (facts v early q) (moved_length voters time s.clocks ∙ S.sixteen)
        (and_fails (quorum voters (at records base).members) (full records) room q)
        (omega (arith, ltb-false 15 caller known))
        (S.members base (L v).among)
        refl)
        refl refl)
        (λ q. short_kept S voters time (λ w h. omega (arith, below v early w h))))

pub pull_kept : {s : State} (S : Sound s) (caller voters time : ℕ) → Kept s (Pull caller voters time) (pull s caller voters time)
unfolding pull
pull_kept {s} S caller voters time =
    rw (base_is s.records voters)
    (pull_on_kept S caller voters time (number_of (base_of s.records voters)) (base_found s.records voters caller S.facts.opened))
