-- Any proposals at all keep a sound state sound, and its log at the beginning of the new one.
use Prim.Native.Nat.{ℕ}
use mathlib.Core.Path.{◌≡◌, sym, ap, ◌∙◌}
use mathlib.Core.Logic.{⊎_elim}
use mathlib.Core.Bool.{false}
use mathlib.Core.List.{List, [], ◌∷◌, ◌++◌, append-nil, append_assoc}
use Rattle.rules.specs.declared.Proposal.{Proposal}
use Rattle.rules.specs.declared.Proposal.TheVariants.{Pull, Invoke, Reconfigure, Push}
use Rattle.rules.specs.Nodes.{empty}
use Rattle.rules.specs.State.{State, fresh}
use Rattle.rules.specs.Run.{step, run}
use Rattle.agreement.proofs.Sound.{Sound, fresh_sound}
use Rattle.agreement.proofs.Kept.{Kept}
use Rattle.agreement.proofs.Pulled.{pull_kept}
use Rattle.agreement.proofs.Entered.{invoke_kept, reconfigure_kept}
use Rattle.agreement.proofs.Pushed.{push_kept}

pub step_kept : {s : State} → Sound s → (p : Proposal) → Kept s p (step s p)
step_kept S (Pull caller voters time) = pull_kept S caller voters time
step_kept S (Invoke caller number) = invoke_kept S caller number
step_kept S (Reconfigure caller new) = reconfigure_kept S caller new
step_kept S (Push caller voters target) = push_kept S caller voters target

pub run_sound : {s : State} → Sound s → (proposals : List Proposal) → Sound (run s proposals)
run_sound S [] = S
run_sound {s = s} S (p ∷ proposals) = run_sound {s = (step s p).state} (step_kept S p).sound proposals

-- from a fresh table of a set that is not empty
pub sound_from : (g : ℕ) → empty g ≡ false → (proposals : List Proposal) → Sound (run (fresh g) proposals)
sound_from g opens proposals = run_sound (fresh_sound g opens) proposals

-- the log after a proposal begins with the log before it
pub step_log : {s : State} → Sound s → (p : Proposal) → (more : List ℕ) × ((step s p).state.log ≡ s.log ++ more)
step_log {s} S p = ⊎_elim (λ e. ([], e ∙ sym (append-nil s.log))) (λ grew. (grew.more, grew.longer)) (step_kept S p).log

pub run_log : {s : State} → Sound s → (proposals : List Proposal) → (more : List ℕ) × ((run s proposals).log ≡ s.log ++ more)
run_log {s = s} S [] = ([], sym (append-nil s.log))
run_log {s = s} S (p ∷ proposals) =
    let (more, e) = step_log S p in
    let (rest, f) = run_log {s = (step s p).state} (step_kept S p).sound proposals in
    (more ++ rest, f ∙ ap (λ (l : List ℕ). l ++ rest) e ∙ append_assoc s.log more rest)
