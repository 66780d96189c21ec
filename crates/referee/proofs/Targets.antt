-- The target: what is left of a push of it, and that it is a record.
use Prim.Native.Nat.{ℕ, ◌≤◌, ◌<◌}
use mathlib.Core.Path.{◌≡◌, refl, sym, ap, ◌∙◌}
use mathlib.Core.Bool.{Bool, true, false, false≢true, cond, not, ◌&&◌, ◌||◌}
use mathlib.Core.List.{[], ◌∷◌}
use native.Mathlib.Omega.{arith}
use borrow.Author.Tests.{le-ltb, leb-false}
use lib.Dec.{eqb, leb}
use lib.ListN.{length}
use Rattle.rules.specs.declared.Record.{Record}
use Rattle.rules.specs.declared.Refusal.{Refusal}
use Rattle.std.specs.Prelude.{Result as Fallible, Ok, Err, is_ok}
use mathlib.Core.Logic.{⊎_elim}
use Rattle.rules.proofs.Bools.{tested, or_left}
use Rattle.rules.specs.declared.Refusal.TheVariants.{CallerAbsent, Stranger, ClockPast, BadTarget, Superseded, TableFull, OffBranch}
use Rattle.rules.specs.Nodes.{has}
use Rattle.rules.specs.Scheme.{quorum, within}
use Rattle.rules.specs.Clocks.{clock, some_past}
use Rattle.rules.specs.Records.{at, is_entry, called}
use Rattle.rules.specs.Tree.{leads, on_path, latest_commit}
use Rattle.rules.specs.State.{State, is_table, full}
use Rattle.rules.specs.Refusals.{◌⇒◌, decide}
use Rattle.rules.specs.Proposals.{Result, refused_in, voted, short, superseded, committed, bad_target, push_on, push}
use Rattle.referee.specs.Rest.{target_of, pushed_on, committed_on}

-- a push after 16, 2, 6 and 7
pub pushed_on_lem : (s : State) (caller voters target : ℕ) → is_table s ≡ true → caller ≤ 15 → leads s.clocks s.records caller ≡ true
    → bad_target s caller target ≡ false → push s caller voters target ≡ pushed_on s (at s.records target) caller voters target
unfolding push push_on pushed_on committed_on
pushed_on_lem s caller voters target table node leader e =
    rw (table, le-ltb 15 caller node, leader, e)
    (ap (λ (r : Result).
    decide (refused_in s)
    ((superseded s.records caller t ⇒ Superseded)
    ∷ (not (has voters caller) ⇒ CallerAbsent)
    ∷ (not (within voters t.members) ⇒ Stranger)
    ∷ (some_past voters t.time s.clocks ⇒ ClockPast)
    ∷ [])
    r)
    (parted (quorum voters t.members) (not (on_path s.records (latest_commit s.records) target)) (full s.records)
    (refused_in s OffBranch)
    (refused_in s TableFull)
    (committed (voted s voters t.time) target t caller voters)
    (short (voted s voters t.time))))
  where
    t : Record
    t = at s.records target

    parted : (q a b : Bool) (x y done less : Result)
        → cond (q && a) x (cond (q && b) y (cond q done less)) ≡ cond q (cond a x (cond b y done)) less
    parted true a b x y done less = refl
    parted false a b x y done less = refl

-- a target's number, and 0 where there is none
number : Fallible (ℕ × Record) Refusal → ℕ
number (Ok aim) = aim.0
number (Err refusal) = 0

-- a target is a record
pub target_small : (s : State) (caller target i : ℕ) (t : Record) → target_of s caller target ≡ Ok (i, t) → i < length s.records
unfolding bad_target number
target_small s caller target i t e =
    ⊎_elim
    (λ past. absurd (false≢true (ap is_ok (sym (ap answer (or_left other past)) ∙ e))))
    (λ there. ⊎_elim (λ bad. absurd (false≢true (ap is_ok (sym (ap answer (ap (λ b. b || other) there ∙ bad)) ∙ e)))) (λ good. let same = ap number (sym (ap answer (ap (λ b. b || other) there ∙ good)) ∙ e) in let l = leb-false (length s.records) target there in omega arith) (tested other))
    (tested (leb (length s.records) target))
  where
    answer : Bool → Fallible (ℕ × Record) Refusal
    answer b = cond b (Err BadTarget) (Ok (target, at s.records target))

    -- what else makes a target bad
    other : Bool
    other =
        not (is_entry (at s.records target))
        || (not (called (at s.records target) caller) || not (eqb (at s.records target).time (clock s.clocks caller)))
