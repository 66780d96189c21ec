-- What a proposal owes to a sound state: it stays sound, the log stays or a push with a majority made it longer, and the answer is
-- neither 16 nor 17. Refusals and short votes give it.
use Prim.Native.Nat.{ℕ, ◌≤◌}
use native.Mathlib.Omega.{arith}
use mathlib.Core.Path.{◌≡◌, refl, ◌∙◌}
use mathlib.Core.Logic.{◌⊎◌, inl, inr}
use mathlib.Core.Bool.{true, false}
use mathlib.Core.List.{List, ◌++◌}
use lib.ListN.{length}
use Rattle.rules.specs.declared.Refusal.{Refusal}
use Rattle.rules.specs.declared.Refusal.TheVariants.{NoTable, OffBranch}
use Rattle.rules.specs.declared.Answer.{Answer}
use Rattle.rules.specs.declared.Answer.TheVariants.{Accepted, Short, Refused}
use Rattle.rules.specs.declared.Proposal.{Proposal}
use Rattle.rules.specs.declared.Proposal.TheVariants.{Push}
use Rattle.rules.specs.Nodes.{has}
use Rattle.rules.specs.Clocks.{clock}
use Rattle.rules.specs.Scheme.{quorum}
use Rattle.rules.specs.Records.{at}
use Rattle.rules.specs.State.{State}
use Rattle.rules.specs.Refusals.{Line, numbered}
use Rattle.rules.specs.Proposals.{Result, refused_in, judge, voted, short}
use Rattle.rules.proofs.Bools.{torn}
use Rattle.rules.proofs.Refusals.{Given, names, decided, judged}
use Rattle.rules.proofs.Votes.{moved_length, clocks_rise}
use Rattle.agreement.specs.Steps.{held}
use Rattle.agreement.proofs.Clocks as Clocks
use Rattle.agreement.proofs.Readings.{voters_hold}
use Rattle.agreement.proofs.Sound.{Sound, sound_table}

-- the log grew, by a push that was accepted, with a majority of its target's members
pub record Grew (s : State) (p : Proposal) (r : Result) : Type 0 where
  pub caller : ℕ
  pub voters : ℕ
  pub target : ℕ
  pub is_push : p ≡ Push caller voters target
  pub accepted : r.answer ≡ Accepted (length s.records)
  pub majority : quorum voters (at s.records target).members ≡ true
  pub more : List ℕ
  pub longer : r.state.log ≡ s.log ++ more

pub record Kept (s : State) (p : Proposal) (r : Result) : Type 0 where
  pub sound : Sound r.state
  pub log : (r.state.log ≡ s.log) ⊎ Grew s p r
  pub not_16 : ¬ (r.answer ≡ Refused NoTable)
  pub not_17 : ¬ (r.answer ≡ Refused OffBranch)

-- an answer is of one sort
accepted_no_refusal : {a : Answer} {i : ℕ} {x : Refusal} → a ≡ Accepted i → ¬ (a ≡ Refused x)
accepted_no_refusal e f = let z : ◌≡◌ {A = ℕ} 0 1 = cc in omega arith

short_no_refusal : {a : Answer} {x : Refusal} → a ≡ Short → ¬ (a ≡ Refused x)
short_no_refusal e f = let z : ◌≡◌ {A = ℕ} 0 1 = cc in omega arith

module _ {s : State} {p : Proposal} where
  -- a record was added, and the log stayed
  pub added_kept : {r : Result} → Sound r.state → r.state.log ≡ s.log → r.answer ≡ Accepted (length s.records) → Kept s p r
  added_kept S l a = record { sound = S; log = inl l; not_16 = accepted_no_refusal a; not_17 = accepted_no_refusal a }

  -- the log grew
  pub grew_kept : {r : Result} → Sound r.state → Grew s p r → Kept s p r
  grew_kept S g = record { sound = S; log = inr g; not_16 = accepted_no_refusal g.accepted; not_17 = accepted_no_refusal g.accepted }

  module _ (S : Sound s) where
    -- a short vote
    pub short_kept : (voters time : ℕ) → ((v : ℕ) → has voters v ≡ true → clock s.clocks v ≤ time) → Kept s p (short (voted s voters time))
    short_kept voters time within = record {
      sound = record {
        facts = Clocks.short S.facts (record {
          rise = clocks_rise voters time s.clocks S.sixteen within;
          voters_hold = λ i v l e h. voters_hold s.records i v e h;
          holder = λ i v l h. held l h;
        });
        sixteen = moved_length voters time s.clocks ∙ S.sixteen;
        few = S.few;
        root = S.root;
        callers = S.callers;
        members = S.members;
        logged = S.logged;
      };
      log = inl refl;
      not_16 = short_no_refusal refl;
      not_17 = short_no_refusal refl;
    }

    -- a refusal that is neither 16 nor 17
    refused_kept : (lines : List Line) → names 16 lines ≡ false → names 17 lines ≡ false
        → (x : Refusal) → names (numbered x) lines ≡ true → Kept s p (refused_in s x)
    refused_kept lines none-16 none-17 x n = record {
      sound = S;
      log = inl refl;
      not_16 = λ e. let q : x ≡ NoTable = cc in torn n (rw q none-16);
      not_17 = λ e. let q : x ≡ OffBranch = cc in torn n (rw q none-17);
    }

    -- so an order of refusals without 16 and 17 gives it, if what is done where no line's condition holds does
    pub judged_kept : (lines : List Line) (done : Result) → names 16 lines ≡ false → names 17 lines ≡ false
        → Given lines (Kept s p done) → Kept s p (judge s lines done)
    judged_kept lines done none-16 none-17 d =
        rw (judged s lines done (sound_table S))
        (decided (Kept s p) (refused_in s) lines done (refused_kept lines none-16 none-17) d)
