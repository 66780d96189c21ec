-- An invoke and a reconfigure keep a sound state sound: the new entry is under the caller's head, the latest record that it called.
use Prim.Native.Nat.{ℕ, suc}
use native.Mathlib.Omega.{arith}
use mathlib.Core.Path.{◌≡◌, refl, sym, ap, ◌∙◌}
use mathlib.Core.Bool.{true, false, not}
use mathlib.Core.List.{List, [], ◌∷◌}
use borrow.Author.Tests.{ltb-false, not-false, eqb-true, eq-eqb}
use lib.Dec.{ltb, eqb}
use lib.ListN.{length}
use Rattle.rules.specs.declared.Kind.{Kind}
use Rattle.rules.specs.declared.Kind.TheVariants.{Command, Change}
use Rattle.rules.specs.declared.Record.{Record}
use Rattle.rules.specs.declared.Refusal.TheVariants.{EmptySet, NoSuchCaller, CallerAbsent, NotLeading, NotNext, OpenChange, NoCommitYet, TableFull, VersionsOut}
use Rattle.rules.specs.declared.Proposal.TheVariants.{Invoke, Reconfigure}
use Rattle.rules.specs.Nodes.{nodes, has, empty}
use Rattle.rules.specs.Scheme.{next}
use Rattle.rules.specs.Clocks.{clock}
use Rattle.rules.specs.Records.{at, commit_kind, called}
use Rattle.rules.specs.Tree.{number_of, last_called, leads, open_change, commit_of_time}
use Rattle.rules.specs.State.{State, full}
use Rattle.rules.specs.Refusals.{Line, ◌⇒◌}
use Rattle.rules.specs.Proposals.{entry, invoke_on, invoke, reconfigure_on, reconfigure}
use Rattle.rules.proofs.Bools.{torn}
use Rattle.rules.proofs.Searches.{LatestAt, head_is, head_found}
use Rattle.agreement.specs.Passed.{Grown}
use Rattle.agreement.specs.Steps.{NewGrowth, Handed}
use Rattle.agreement.proofs.Cases.{above_zero}
use Rattle.agreement.proofs.Grow.{invoked, reconfigured}
use Rattle.agreement.proofs.Single.{single}
use Rattle.agreement.proofs.Reading.{sort_of, tree_of, held}
use Rattle.agreement.proofs.Readings.{not_below}
use Rattle.agreement.proofs.Upward.{all_closed, one_leads}
use Rattle.agreement.proofs.Sound.{FactsOf, Sound, root_caller}
use Rattle.agreement.proofs.OneMore.{handed}
use Rattle.agreement.proofs.Added.{with_one, added_more, added_leaf, added_sound}
use Rattle.agreement.proofs.Kept.{Kept, added_kept, judged_kept}

module _ {s : State} (S : Sound s) (caller head : ℕ) where
  abbrev records : List Record
  records = s.records

  module _ (known : ltb 15 caller ≡ false) (L : LatestAt (λ i r. called r caller) records head) where
    own : (at records head).caller ≡ caller
    unfolding called
    own = eqb-true (at records head).caller caller L.wants

    grown : Grown (tree_of records) (length records) head
    unfolding called
    grown = record {
      head_known = L.among;
      head_called = above_zero (λ i. (at records i).caller ≡ caller) (λ e. omega (arith, root_caller S, ltb-false 15 caller known)) head own;
      head_latest = λ i z l e. not_below records head i (L.tops i l (eq-eqb (at records i).caller caller (e ∙ own)));
    }

    module _ (members : ℕ) (kind : Kind) where
      abbrev new : Record
      new = entry head (at records head) caller members kind

      growth : NewGrowth (tree_of records) (tree_of (with_one records new)) (length records) head
      growth =
          let e = (added_more records new).new in
          record {
            leaf = added_leaf records new;
            caller_new = ap (λ (r : Record). r.caller) e ∙ sym own;
            time_new = ap (λ (r : Record). r.time) e;
            version_new = ap (λ (r : Record). r.version) e;
          }

      sort_new : sort_of (at (with_one records new) (length records)).kind ≡ sort_of kind
      sort_new = ap (λ (r : Record). sort_of r.kind) (added_more records new).new

      conf_new : (at (with_one records new) (length records)).members ≡ members
      conf_new = ap (λ (r : Record). r.members) (added_more records new).new

      hand : commit_kind kind ≡ false
          → Handed single (tree_of (with_one records new)) (length records) (suc (length records)) (clock s.clocks) (clock s.clocks) (held records) (held (with_one records new))
      hand e = handed (added_more records new) s.clocks s.clocks S.facts.opened (λ v. omega arith) (λ f. absurd (torn f e))

      entered : FactsOf s.clocks (with_one records new) (suc (length records)) → full records ≡ false → empty members ≡ false → commit_kind kind ≡ false
          → Sound (record { clocks = s.clocks; records = with_one records new; log = s.log })
      unfolding nodes
      entered F room some e = added_sound S new F S.sixteen room (omega (arith, ltb-false 15 caller known)) some e

    command_sound : (number : ℕ) → full records ≡ false
        → Sound (record { clocks = s.clocks; records = with_one records (new (at records head).members (Command number)); log = s.log })
    command_sound number room =
        let m : ℕ = (at records head).members in
        let k : Kind = Command number in
        entered m k
        (invoked S.facts (hand m k refl) grown (record { growth = growth m k; sort_new = sort_new m k; conf_new = conf_new m k }))
        room (S.members head L.among) refl

    change_sound : (C : ℕ) → next (at records head).members C ≡ true → open_change records head ≡ false
        → commit_of_time records (at records head).time head ≡ true → full records ≡ false → empty C ≡ false
        → Sound (record { clocks = s.clocks; records = with_one records (new C Change); log = s.log })
    unfolding open_change commit_of_time
    change_sound C step shut led room some =
        entered C Change
        (reconfigured S.facts (hand C Change refl)
        (record {
          grown = grown;
          next = step;
          closed = λ r e p. all_closed records S.facts shut L.among e p;
          led = one_leads records S.facts (at records head).time head L.among led;
        })
        (record { growth = growth C Change; sort_new = sort_new C Change; conf_new = conf_new C Change }))
        room some refl

  module _ (L : leads s.clocks records caller ≡ true → LatestAt (λ i r. called r caller) records head) where
    -- the order of an invoke's refusals; that it is the rules' own is checked where it is used
    abbrev invoke_order : List Line
    invoke_order =
        (ltb 15 caller ⇒ NoSuchCaller)
        ∷ (not (leads s.clocks records caller) ⇒ NotLeading)
        ∷ (eqb (at records head).version 255 ⇒ VersionsOut)
        ∷ (full records ⇒ TableFull)
        ∷ []

    invoke_on_kept : (number : ℕ) → Kept s (Invoke caller number) (invoke_on s head (at records head) caller number)
    unfolding invoke_on
    invoke_on_kept number = judged_kept S invoke_order _ refl refl
        (λ known leading versions room.
        added_kept (command_sound known (L (not-false _ leading)) number room) refl refl)

    -- and of a reconfigure's
    abbrev reconfigure_order : ℕ → List Line
    reconfigure_order new =
        (ltb 15 caller ⇒ NoSuchCaller)
        ∷ (empty new ⇒ EmptySet)
        ∷ (not (leads s.clocks records caller) ⇒ NotLeading)
        ∷ (not (has new caller) ⇒ CallerAbsent)
        ∷ (not (next (at records head).members new) ⇒ NotNext)
        ∷ (open_change records head ⇒ OpenChange)
        ∷ (not (commit_of_time records (at records head).time head) ⇒ NoCommitYet)
        ∷ (eqb (at records head).version 255 ⇒ VersionsOut)
        ∷ (full records ⇒ TableFull)
        ∷ []

    reconfigure_on_kept : (new : ℕ) → Kept s (Reconfigure caller new) (reconfigure_on s head (at records head) caller new)
    unfolding reconfigure_on
    reconfigure_on_kept new = judged_kept S (reconfigure_order new) _ refl refl
        (λ known some leading among step shut led versions room.
        added_kept (change_sound known (L (not-false _ leading)) new (not-false _ step) shut (not-false _ led) room some) refl refl)

pub invoke_kept : {s : State} (S : Sound s) (caller number : ℕ) → Kept s (Invoke caller number) (invoke s caller number)
unfolding invoke
invoke_kept {s} S caller number =
    rw (head_is s.records caller)
    (invoke_on_kept S caller (number_of (last_called s.records caller)) (head_found s.clocks s.records caller) number)

pub reconfigure_kept : {s : State} (S : Sound s) (caller new : ℕ) → Kept s (Reconfigure caller new) (reconfigure s caller new)
unfolding reconfigure
reconfigure_kept {s} S caller new =
    rw (head_is s.records caller)
    (reconfigure_on_kept S caller (number_of (last_called s.records caller)) (head_found s.clocks s.records caller) new)
