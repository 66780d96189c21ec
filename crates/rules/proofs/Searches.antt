-- The base, the head and the latest commit are the latest of the records they are sought among.
use Prim.Native.Nat.{ℕ, ◌<◌}
use mathlib.Core.Path.{◌≡◌, refl, ap}
use mathlib.Core.Bool.{Bool, true, ◌&&◌, false≢true}
use mathlib.Core.List.{List}
use lib.ListN.{length}
use Rattle.rules.specs.declared.Record.{Record}
use Rattle.std.specs.Prelude.{Option, Some, None}
use Rattle.rules.specs.Nodes.{nodes, has}
use Rattle.rules.specs.Clocks.{clock}
use Rattle.rules.specs.Records.{at, is_commit, holds, called}
use Rattle.rules.specs.Tree.{latest, number_of, record_of, held_by_any, base, last_called, last_commit, latest_commit, leading, leads}
use Rattle.rules.proofs.Bools.{torn, and_true, and_left, and_right}
use Rattle.rules.proofs.First.{some_at, some_of}
use Rattle.rules.proofs.Nodes.{has_node}
use Rattle.rules.proofs.Records.{holds_root}
use Rattle.rules.proofs.Latest.{Latest, Right, latest_right, latest_found}

-- record i is the latest of the wanted
abbrev pub LatestAt : (ℕ → Record → Bool) → List Record → ℕ → Type 0
LatestAt wanted records i = Latest wanted records (length records) i (at records i)

-- what is found is the record of its number
pub found_is : (wanted : ℕ → Record → Bool) (records : List Record)
    → record_of records (latest wanted records) ≡ at records (number_of (latest wanted records))
found_is wanted records = go (latest wanted records) (latest_right wanted records)
  where
    go : (f : Option (ℕ × Record)) → Right wanted records (length records) f → record_of records f ≡ at records (number_of f)
    go (Some (i, r)) right = right.there
    go None right = refl

-- where a record is wanted, what is found is the latest of the wanted
pub found : (wanted : ℕ → Record → Bool) (records : List Record) (i : ℕ) → i < length records → wanted i (at records i) ≡ true
    → LatestAt wanted records (number_of (latest wanted records))
found wanted records i l w = go (latest wanted records) (latest_right wanted records)
  where
    go : (f : Option (ℕ × Record)) → Right wanted records (length records) f → LatestAt wanted records (number_of f)
    go (Some (j, r)) right = rw right.there at right
    go None right = absurd (torn w (right i l))

-- held by any voter: some voter holds it, and one that holds it is enough
pub any_holds : (voters i : ℕ) (r : Record) → held_by_any voters i r ≡ true → (v : ℕ) × (has voters v ≡ true) × (holds i r v ≡ true)
unfolding held_by_any
any_holds voters i r e =
    let f = some_at (λ v. has voters v && holds i r v) nodes e in
    (f.0, and_left (has voters f.0) (holds i r f.0) f.2, and_right (has voters f.0) (holds i r f.0) f.2)

pub held_by_any_lem : (voters i : ℕ) (r : Record) (v : ℕ) → has voters v ≡ true → holds i r v ≡ true → held_by_any voters i r ≡ true
unfolding held_by_any
held_by_any_lem voters i r v h e = some_of (λ v. has voters v && holds i r v) nodes v (has_node voters v h) (and_true h e)

-- the base is the latest record held by any voter: every voter holds record 0
pub base_is : (records : List Record) (voters : ℕ) → record_of records (base records voters) ≡ at records (number_of (base records voters))
unfolding base
base_is records voters = found_is (held_by_any voters) records

pub base_found : (records : List Record) (voters v : ℕ) → 0 < length records → has voters v ≡ true
    → LatestAt (held_by_any voters) records (number_of (base records voters))
unfolding base
base_found records voters v l h =
    found (held_by_any voters) records 0 l (held_by_any_lem voters 0 (at records 0) v h (holds_root (at records 0) v))

-- the head of a node is the latest record that it called; a node that leads called one
pub head_is : (records : List Record) (node : ℕ) → record_of records (last_called records node) ≡ at records (number_of (last_called records node))
unfolding last_called
head_is records node = found_is (λ i r. called r node) records

pub head_found : (clocks : List ℕ) (records : List Record) (node : ℕ) → leads clocks records node ≡ true
    → LatestAt (λ i r. called r node) records (number_of (last_called records node))
unfolding leads last_called
head_found clocks records node e =
    go (latest (λ i r. called r node) records) e (latest_right (λ i r. called r node) records)
  where
    go : (f : Option (ℕ × Record)) → leading (clock clocks node) f ≡ true → Right (λ i r. called r node) records (length records) f
        → LatestAt (λ i r. called r node) records (number_of f)
    go (Some (i, r)) e right = rw right.there at right
    go None e right = absurd (false≢true e)

-- the latest commit, where record 0 is one
pub commit_found : (records : List Record) → 0 < length records → is_commit (at records 0) ≡ true
    → LatestAt (λ i r. is_commit r) records (latest_commit records)
unfolding latest_commit last_commit
commit_found records l c = found (λ i r. is_commit r) records 0 l c

pub commit_is : (records : List Record) (i : ℕ) → LatestAt (λ i r. is_commit r) records i → latest_commit records ≡ i
unfolding latest_commit last_commit
commit_is records i c = ap number_of (latest_found {r = at records i} c)

-- what is found has a record's number
found_small : (wanted : ℕ → Record → Bool) (records : List Record) (i : ℕ) (r : Record) → latest wanted records ≡ Some (i, r) → i < length records
found_small wanted records i r e = (rw e at (latest_right wanted records)).among

pub base_small : (records : List Record) (voters i : ℕ) (r : Record) → base records voters ≡ Some (i, r) → i < length records
unfolding base
base_small records voters i r e = found_small (held_by_any voters) records i r e

pub called_small : (records : List Record) (node i : ℕ) (r : Record) → last_called records node ≡ Some (i, r) → i < length records
unfolding last_called
called_small records node i r e = found_small (λ j q. called q node) records i r e
