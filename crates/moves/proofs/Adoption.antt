-- The children of the target, record by record.
use Rattle.std.proofs.Common.{◌≡◌, ℕ, ◌+◌, ◌<◌, ◌≢◌, List, ◌++◌, map, length, take, drop, set, get_or, arith}
use Rattle.std.proofs.lemmas.List.{get_or_default}
use Rattle.std.proofs.lemmas.List.Edits.{map_over_more}
use borrow.Author.Tests.{eq-eqb, ne_eqb}
use Rattle.rules.specs.declared.Record.{Record}
use Rattle.rules.specs.Proposals.{with_parent, adopted}

module _ (target new : ℕ) (before now : List Record) (i : ℕ) (d : Record)
    (within : i < length before) (same : length now ≡ length before)
    (passed : now ≡ map (adopted target new) (take i before) ++ drop i before) where
  -- the record at i, adopted
  one_more : set now i (adopted target new (get_or now i d)) ≡ map (adopted target new) (take (i + 1) before) ++ drop (i + 1) before
  one_more =
      map_over_more (adopted target new) before now i (get_or now i d) within passed
      (get_or_default now i d (get_or now i d) (omega arith))

  -- it is a child of the target
  pub child_more : (get_or now i d).parent ≡ target
      → set now i (with_parent (get_or now i d) new) ≡ map (adopted target new) (take (i + 1) before) ++ drop (i + 1) before
  child_more e = rw (eq-eqb _ _ e) at one_more

  -- it is no child of the target
  pub other_more : (get_or now i d).parent ≢ target
      → set now i (get_or now i d) ≡ map (adopted target new) (take (i + 1) before) ++ drop (i + 1) before
  other_more e = rw (ne_eqb _ _ e) at one_more
