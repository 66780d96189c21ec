-- The clauses of shape and of clocks, as the code tests them.
use Prim.Native.Nat.{ℕ, ◌<◌}
use native.Mathlib.Omega.{arith}
use mathlib.Core.Path.{◌≡◌, sym, ap, ◌∙◌}
use mathlib.Core.Logic.{⊎_elim}
use mathlib.Core.Bool.{Bool, true, false, not, ◌&&◌, ◌||◌, or_comm}
use mathlib.Core.List.{List}
use borrow.Author.Tests.{ltb-true, lt-leb, leb-false}
use lib.Dec.{ltb, leb}
use lib.ListN.{length, take, length-take}
use lib.Seq.{get_or-take}
use Rattle.std.proofs.lemmas.Bool.{not-false}
use Rattle.std.specs.List.{list_all, enumerate_from}
use Rattle.rules.specs.declared.Record.{Record}
use Rattle.rules.specs.Nodes.{nodes, empty}
use Rattle.rules.specs.Records.{blank, at, above, holds, called}
use Rattle.rules.specs.First.{every}
use Rattle.rules.specs.Clocks.{clock}
use Rattle.rules.specs.State.{shaped, timely}
use Rattle.rules.proofs.Bools.{tested, or_none_left, or_none_right}
use Rattle.rules.proofs.First.{every_at, every_of, every_fails, every_not}
use Rattle.rules.proofs.Lists.{every_numbered}
use Rattle.tables.specs.Table.{shaped_by, concerns}

-- a record is well shaped among the first n as its parent's place says
pub shaped_by_lem : (records : List Record) (n : ℕ) (r : Record)
    → shaped (take n records) r ≡ shaped_by r (at records r.parent) (length (take n records))
unfolding shaped shaped_by
shaped_by_lem records n r =
    ap (λ b. ltb r.caller nodes && (not (empty r.members) && b))
    (⊎_elim
    (λ e. ap (λ p. ltb r.parent (length (take n records)) && above r p)
    (get_or-take n records r.parent blank (omega (arith, ltb-true r.parent (length (take n records)) e, length-take n records))))
    (λ e. rw e)
    (tested (ltb r.parent (length (take n records)))))

-- the node neither holds nor called the record, or its clock is at least the record's time
abbrev pub early : List ℕ → ℕ → Record → ℕ → Bool
early clocks i r node = not (holds i r node || called r node) || leb r.time (clock clocks node)

pub early_one : (clocks : List ℕ) (i : ℕ) (r : Record) (node : ℕ) → node < 16 → clock clocks node < r.time → concerns i r node ≡ true
    → timely clocks i r ≡ false
unfolding timely nodes concerns
early_one clocks i r node l late e = every_not (early clocks i r) 16 node l (rw (e, lt-leb r.time (clock clocks node) late))

pub early_none : (clocks : List ℕ) (i : ℕ) (r : Record) (n : ℕ) → n ≡ 16 → every (early clocks i r) n ≡ true → timely clocks i r ≡ true
unfolding timely nodes
early_none clocks i r n e all = ap (every (early clocks i r)) (sym e) ∙ all

-- a record is timely where each clock is at least its time or is that of a node which it doesn't concern
module _ (clocks : List ℕ) (i : ℕ) (r : Record) (full : length clocks ≡ 16) where
  abbrev passed : ℕ → ℕ → Bool
  passed node time = leb r.time time || not (concerns i r node)

  abbrev here : ℕ → Bool
  here node = passed node (clock clocks node)

  -- no clock is early, or one is
  none : every here (length clocks) ≡ true → timely clocks i r ≡ every here (length clocks)
  unfolding concerns
  none e =
      early_none clocks i r (length clocks) full
      (every_of (early clocks i r) (length clocks) (λ node l. or_comm _ (leb r.time (clock clocks node)) ∙ every_at here (length clocks) e node l))
      ∙ sym e

  one : every here (length clocks) ≡ false → timely clocks i r ≡ every here (length clocks)
  one e =
      let f = every_fails here (length clocks) e in
      early_one clocks i r f.0 (omega (arith, f.1, full))
      (leb-false r.time (clock clocks f.0) (or_none_left (leb r.time (clock clocks f.0)) _ f.2))
      (not-false (concerns i r f.0) (or_none_right (leb r.time (clock clocks f.0)) _ f.2))
      ∙ sym e

  pub timely_by : timely clocks i r ≡ list_all (λ q. passed q.0 q.1) (enumerate_from 0 clocks)
  timely_by = ⊎_elim none one (tested (every here (length clocks))) ∙ every_numbered 0 passed clocks
