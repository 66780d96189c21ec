-- The refusals: their numbers, and how an order of them is read.
use Rattle.std.specs.Prelude.{ℕ, Bool, cond, List, [], ◌∷◌}
use Rattle.rules.specs.declared.Refusal.{Refusal}
use Rattle.rules.specs.declared.Refusal.TheVariants.{EmptySet, NoSuchCaller, CallerAbsent, Stranger, ClockPast, NotLeading, BadTarget, Superseded, NotNext, OpenChange, NoCommitYet, TableFull, VersionsOut, NoSuchNumber, BufferShort, NoTable, OffBranch}

-- document 01's number of a refusal
abbrev pub numbered : Refusal → ℕ
numbered EmptySet = 1
numbered NoSuchCaller = 2
numbered CallerAbsent = 3
numbered Stranger = 4
numbered ClockPast = 5
numbered NotLeading = 6
numbered BadTarget = 7
numbered Superseded = 8
numbered NotNext = 9
numbered OpenChange = 10
numbered NoCommitYet = 11
numbered TableFull = 12
numbered VersionsOut = 13
numbered NoSuchNumber = 14
numbered BufferShort = 15
numbered NoTable = 16
numbered OffBranch = 17

-- a line of an order of refusals: where the condition holds, the refusal
pub data Line : Type 0 where
  ◌⇒◌ : Bool → Refusal → Line

infix 20 ◌⇒◌
-- the refusal of the first line whose condition holds, and what is done where none does
abbrev pub decide {ℓ} : {A : Type ℓ} → (Refusal → A) → List Line → A → A
decide refused [] done = done
decide refused ((c ⇒ refusal) ∷ lines) done = cond c (refused refusal) (decide refused lines done)
