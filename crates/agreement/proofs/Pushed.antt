-- A push keeps a sound state sound, and refusal 17 is never reached: what its order of refusals has passed before it is what
-- agreement asks of a commit, and then every commit is on the target's path.
use Prim.Native.Nat.{ℕ, suc, ◌≤◌, ◌<◌}
use native.Mathlib.Omega.{arith}
use mathlib.Core.Path.{◌≡◌, refl, sym, ap, ◌∙◌}
use mathlib.Core.Logic.{⊎_elim}
use mathlib.Core.Bool.{true, false, cond, not, ◌&&◌, ◌||◌}
use mathlib.Core.List.{List, [], ◌∷◌, ◌++◌}
use borrow.Author.Tests.{ltb-false, leb-false, not-false, eqb-true, eq-eqb}
use lib.Dec.{ltb, leb, eqb}
use lib.ListN.{length}
use Rattle.rules.specs.declared.Record.{Record}
use Rattle.rules.specs.declared.Refusal.TheVariants.{NoSuchCaller, CallerAbsent, Stranger, ClockPast, NotLeading, BadTarget, Superseded, TableFull, NoTable, OffBranch}
use Rattle.rules.specs.declared.Proposal.TheVariants.{Push}
use Rattle.rules.specs.Nodes.{nodes, has}
use Rattle.rules.specs.Scheme.{quorum, within}
use Rattle.rules.specs.Clocks.{clock, moved, some_past}
use Rattle.rules.specs.Records.{at, is_commit, is_entry, called}
use Rattle.rules.specs.Tree.{latest_commit, on_path, leads}
use Rattle.rules.specs.State.{State, is_table, full}
use Rattle.rules.specs.Refusals.{Line, ◌⇒◌}
use Rattle.rules.specs.Proposals.{Result, refused_in, judge, voted, short, committed, bad_target, supersedes, superseded, gained, push_on, push}
use Rattle.rules.proofs.Bools.{tested, and_fails, and_false_right, or_none_left, or_none_right}
use Rattle.rules.proofs.First.{some_none}
use Rattle.rules.proofs.Choice.{chosen}
use Rattle.rules.proofs.Refusals.{passed_over}
use Rattle.rules.proofs.Votes.{moved_length, voter_clock, clocks_rise, none_past}
use Rattle.agreement.specs.Tree.{commit}
use Rattle.agreement.specs.Passed.{Pushed}
use Rattle.agreement.proofs.Push.{pushed}
use Rattle.agreement.proofs.Never17.{never17}
use Rattle.agreement.proofs.Single.{single}
use Rattle.agreement.proofs.Reading.{tree_of}
use Rattle.agreement.proofs.Readings.{commit_sort, sort_commit, entry_sort}
use Rattle.agreement.proofs.Upward.{on_path_lem}
use Rattle.agreement.proofs.Sound.{FactsOf, Sound, latest_commit_lem}
use Rattle.agreement.proofs.OneMore.{handed, sound_more}
use Rattle.agreement.proofs.Adopted.{with_commit}
use Rattle.agreement.proofs.Inserts.{inserted_more, inserted_commit, log_inserted}
use Rattle.agreement.proofs.Kept.{Kept, grew_kept, short_kept, judged_kept}

-- what refusal 7 says where it is not given
record Target (s : State) (caller target : ℕ) : Type 0 where
  known : target < length s.records
  entry : ¬ ((tree_of s.records).sort target ≡ commit)
  own : (at s.records target).caller ≡ caller

target_of : (s : State) (caller target : ℕ) → bad_target s caller target ≡ false → Target s caller target
unfolding bad_target called
target_of s caller target e =
    let t = at s.records target in
    let a = leb (length s.records) target in
    let b = not (is_entry t) in
    let c = not (eqb t.caller caller) in
    let d = not (eqb t.time (clock s.clocks caller)) in
    let e₁ = or_none_right a (b || (c || d)) e in
    let e₂ = or_none_right b (c || d) e₁ in
    record {
      known = leb-false (length s.records) target (or_none_left a (b || (c || d)) e);
      entry = entry_sort t.kind (not-false (is_entry t) (or_none_left b (c || d) e₁));
      own = eqb-true t.caller caller (not-false (eqb t.caller caller) (or_none_left c d e₂));
    }

-- and refusal 8
none_superseding : (records : List Record) (caller : ℕ) (t : Record) → superseded records caller t ≡ false
    → (c : ℕ) → c < length records → is_commit (at records c) ≡ true → (at records c).caller ≡ caller → (at records c).time ≡ t.time
    → (at records c).version < t.version
unfolding superseded supersedes called
none_superseding records caller t e c l k own now =
    let r = at records c in
    let x = leb t.version r.version in
    leb-false t.version r.version
    (and_fails (eqb r.time t.time) x
    (and_fails (eqb r.caller caller) (eqb r.time t.time && x)
    (and_fails (is_commit r) (eqb r.caller caller && (eqb r.time t.time && x)) (some_none (λ i. supersedes (at records i) caller t) (length records) e c l) k)
    (eq-eqb r.caller caller own))
    (eq-eqb r.time t.time now))

module _ {s : State} (S : Sound s) (caller voters target : ℕ) where
  abbrev records : List Record
  records = s.records

  abbrev t : Record
  t = at records target

  module _ (known : ltb 15 caller ≡ false) (bad : bad_target s caller target ≡ false) (first : superseded records caller t ≡ false)
      (late : some_past voters t.time s.clocks ≡ false) where
    is_target : Target s caller target
    is_target = target_of s caller target bad

    clocks_within : (v : ℕ) → has voters v ≡ true → clock s.clocks v ≤ t.time
    clocks_within = none_past voters t.time s.clocks late

    module _ (majority : quorum voters t.members ≡ true) where
      passed : Pushed single (tree_of records) (length records) (clock s.clocks) target voters
      passed = record {
        target_known = is_target.known;
        target_open = is_target.entry;
        target_first = λ c l k own now.
            none_superseding records caller t first c l (sort_commit (at records c).kind k) (own ∙ is_target.own) now;
        clocks_within = clocks_within;
        quorum = majority;
      }

      -- the latest commit is on the target's path
      on_branch : on_path records (latest_commit records) target ≡ true
      unfolding on_path
      on_branch =
          let L = latest_commit_lem S in
          on_path_lem records S.facts
          (never17 S.facts passed (latest_commit records) L.among (commit_sort (at records (latest_commit records)).kind L.wants))
          is_target.known

      abbrev clocks' : List ℕ
      clocks' = moved voters t.time s.clocks

      abbrev records' : List Record
      records' = with_commit records target caller voters

      facts : FactsOf clocks' records' (suc (length records))
      facts =
          pushed S.facts passed (inserted_commit records target caller voters (sym is_target.own))
          (handed (inserted_more records target caller voters) s.clocks clocks' S.facts.opened
          (clocks_rise voters t.time s.clocks S.sixteen clocks_within)
          (λ e v h. omega (arith, voter_clock voters t.time s.clocks S.sixteen v h)))

      committed_sound : full records ≡ false → Sound (record { clocks = clocks'; records = records'; log = s.log ++ gained records target })
      unfolding nodes
      committed_sound room =
          let M = inserted_more records target caller voters in
          sound_more S M facts (moved_length voters t.time s.clocks ∙ S.sixteen) room
          (omega (arith, ltb-false 15 caller known))
          (S.members target is_target.known)
          (ap (λ (l : List ℕ). l ++ gained records target) S.logged
          ∙ sym (log_inserted records target caller voters S.facts (rw (sym M.counted) at facts) passed (sym is_target.own) on_branch))

  -- the order of a push's refusals before 17, and after; that it is the rules' own is checked where it is used
  abbrev order : List Line
  order =
      (ltb 15 caller ⇒ NoSuchCaller)
      ∷ (not (leads s.clocks records caller) ⇒ NotLeading)
      ∷ (bad_target s caller target ⇒ BadTarget)
      ∷ (superseded records caller t ⇒ Superseded)
      ∷ (not (has voters caller) ⇒ CallerAbsent)
      ∷ (not (within voters t.members) ⇒ Stranger)
      ∷ (some_past voters t.time s.clocks ⇒ ClockPast)
      ∷ []

  abbrev last : List Line
  last = (quorum voters t.members && full records ⇒ TableFull) ∷ []

  -- what is done where none refuses
  abbrev done : Result
  done =
      cond (quorum voters t.members)
      (committed (voted s voters t.time) target t caller voters)
      (short (voted s voters t.time))

  -- 17 may be left out
  without_17 : push_on s t caller voters target ≡ judge s (order ++ last) done
  unfolding push_on
  without_17 =
      passed_over (refused_in s) ((not (is_table s) ⇒ NoTable) ∷ order)
      (quorum voters t.members && not (on_path records (latest_commit records) target)) OffBranch last done
      (λ table known leading bad first votes strangers late.
      ⊎_elim
      (λ q. and_false_right (quorum voters t.members) (ap not (on_branch known bad first late q)))
      (λ q. rw q)
      (tested (quorum voters t.members)))

  push_on_kept : Kept s (Push caller voters target) (push_on s t caller voters target)
  push_on_kept =
      rw without_17
      (judged_kept S (order ++ last) done refl refl
      (λ known leading bad first votes strangers late room.
      chosen (Kept s (Push caller voters target)) (quorum voters t.members)
      (λ q. grew_kept
      (committed_sound known bad first late q (and_fails (quorum voters t.members) (full records) room q))
      (record {
        caller = caller;
        voters = voters;
        target = target;
        is_push = refl;
        accepted = refl;
        majority = q;
        more = gained records target;
        longer = refl;
      }))
      (λ q. short_kept S voters t.time (clocks_within known bad first late))))

pub push_kept : {s : State} (S : Sound s) (caller voters target : ℕ) → Kept s (Push caller voters target) (push s caller voters target)
unfolding push
push_kept S caller voters target = push_on_kept S caller voters target
