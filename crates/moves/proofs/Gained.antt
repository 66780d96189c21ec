-- What a log gains: the entries on a path before its stop, in the library's words, and that there is a place for each.
use Rattle.std.proofs.Common.{ℕ, ◌+◌, ◌≤◌, ◌<◌, ◌≡◌, Bool, true, false, cond, not, List, [], ◌∷◌, length, refl, sym, ap, ◌∙◌, arith}
use Rattle.std.proofs.Math.Dec.{eqb}
use Rattle.std.proofs.lemmas.List.Sums.{take_while-cons, length-filter, count_by-le-length}
use Rattle.std.specs.List.{filter, take_while}
use lib.ListN.{length-append, length-reverse}
use Rattle.rules.specs.declared.Record.{Record}
use Rattle.rules.specs.Records.{at, is_entry}
use Rattle.rules.specs.Tree.{path, on_path, latest_commit}
use Rattle.rules.specs.State.{entries, log_of}
use Rattle.rules.specs.Proposals.{before, gained}
use Rattle.rules.proofs.Lists.{entries_filter, path_few}
use Rattle.rules.proofs.Paths.{Rising}
use Rattle.rules.proofs.Logs.{log_gains}

-- the part of a path before its stop
before_while : (stop : ℕ) (p : List ℕ) → before stop p ≡ take_while (λ j. not (eqb stop j)) p
before_while stop [] = refl
before_while stop (j ∷ p) = go (eqb stop j) (before_while stop p) ∙ sym (take_while-cons (λ j. not (eqb stop j)) j p)
  where
    go : (b : Bool) → before stop p ≡ take_while (λ j. not (eqb stop j)) p
        → cond b [] (j ∷ before stop p) ≡ cond (not b) (j ∷ take_while (λ j. not (eqb stop j)) p) []
    go true e = refl
    go false e = ap (λ l. j ∷ l) e

module _ (records : List Record) where
  -- the entries before the stop
  pub gained_filter : (stop : ℕ) (p : List ℕ)
      → entries records (before stop p) ≡ filter (λ j. is_entry (at records j)) (take_while (λ j. not (eqb stop j)) p)
  gained_filter stop p = entries_filter records (before stop p) ∙ ap (filter (λ j. is_entry (at records j))) (before_while stop p)

  -- a list has no more entries than numbers
  entries_few : (p : List ℕ) → length (entries records p) ≤ length p
  entries_few p = rw (entries_filter records p, length-filter) (count_by-le-length _ p)

  -- a log and what it gains are together no longer than the list of records
  pub gain_few : Rising records → (i : ℕ) → i < length records → on_path records (latest_commit records) i ≡ true
      → length (log_of records) + length (gained records i) ≤ length records
  gain_few up i l on =
      omega (
        arith,
        sym (length-append (log_of records) (gained records i)) ∙ ap length (sym (log_gains records up i l on)) ∙ length-reverse (entries records (path records i)),
        entries_few (path records i),
        path_few records i,
      )
