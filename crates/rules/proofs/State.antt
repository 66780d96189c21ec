-- What a table is, clause by clause, as facts in place of tests.
use Prim.Native.Nat.{ℕ, ◌≤◌, ◌<◌}
use native.Mathlib.Decide.{dec_lt}
use native.Mathlib.Omega.{arith}
use mathlib.Core.Path.{◌≡◌, refl, ap, ap₂}
use mathlib.Core.Logic.{⊎_elim}
use mathlib.Core.Bool.{true, false, not, ◌&&◌, ◌||◌, false≢true}
use mathlib.Core.List.{List, [], ◌∷◌}
use borrow.Author.Tests.{ltb-true, leb-true, eqb-true, lt-ltb, le-leb, eq-eqb, not-true}
use lib.Dec.{ltb, leb, eqb}
use lib.ListN.{length}
use Rattle.rules.specs.declared.Record.{Record}
use Rattle.rules.specs.Nodes.{nodes, empty}
use Rattle.rules.specs.Clocks.{clock}
use Rattle.rules.specs.Records.{at, is_commit, above, holds, called}
use Rattle.rules.specs.Tree.{on_path, latest_commit}
use Rattle.rules.specs.State.{State, places, log_of, counted, rooted, shaped, all_shaped, timely, all_timely, one_branch, same, logged, is_table}
use Rattle.rules.specs.State as State'
use Rattle.rules.proofs.Bools.{and_left, and_right, and_true, or_cases, or_left, or_right, if_then, then_if}
use Rattle.rules.proofs.First.{every_at, every_of}

-- what a record other than record 0 is like
pub record Shaped (records : List Record) (r : Record) : Type 0 where
  pub node : r.caller < nodes
  pub members : empty r.members ≡ false
  pub exists : r.parent < length records
  pub lower : above r (at records r.parent) ≡ true

pub shaped_says : (records : List Record) (r : Record) → shaped records r ≡ true → Shaped records r
unfolding shaped
shaped_says records r e =
    let c = ltb r.caller nodes in
    let m = not (empty r.members) in
    let p = ltb r.parent (length records) in
    let a = above r (at records r.parent) in
    let e₁ = and_right c (m && (p && a)) e in
    let e₂ = and_right m (p && a) e₁ in
    record {
      node = ltb-true r.caller nodes (and_left c (m && (p && a)) e);
      members = not-true (empty r.members) (and_left m (p && a) e₁);
      exists = ltb-true r.parent (length records) (and_left p a e₂);
      lower = and_right p a e₂;
    }

pub shaped_of : (records : List Record) (r : Record) → Shaped records r → shaped records r ≡ true
unfolding shaped
shaped_of records r h =
    and_true (lt-ltb _ _ h.node) (and_true (ap not h.members) (and_true (lt-ltb _ _ h.exists) h.lower))

-- every record but record 0
pub all_shaped_lem : (records : List Record) → all_shaped records ≡ true → (i : ℕ) → 0 < i → i < length records
    → Shaped records (at records i)
unfolding all_shaped
all_shaped_lem records e i z l =
    ⊎_elim
    (λ q. absurd (let k = eqb-true i 0 q in omega arith))
    (λ q. shaped_says records (at records i) q)
    (or_cases (eqb i 0) (shaped records (at records i)) (every_at (λ i. eqb i 0 || shaped records (at records i)) (length records) e i l))

pub shaped_all : (records : List Record) → ((i : ℕ) → 0 < i → i < length records → Shaped records (at records i))
    → all_shaped records ≡ true
unfolding all_shaped
shaped_all records h =
    every_of (λ i. eqb i 0 || shaped records (at records i)) (length records) (λ i l. go i l (dec_lt 0 i))
  where
    go : (i : ℕ) → i < length records → Dec (0 < i) → eqb i 0 || shaped records (at records i) ≡ true
    go i l (yes z) = or_right (eqb i 0) (shaped_of records (at records i) (h i z l))
    go i l (no d) = or_left (shaped records (at records i)) (eq-eqb i 0 (omega arith))

-- the clause of the clocks
pub all_timely_lem : (clocks : List ℕ) (records : List Record) → all_timely clocks records ≡ true
    → (i : ℕ) → i < length records → (node : ℕ) → node < nodes → holds i (at records i) node || called (at records i) node ≡ true
    → (at records i).time ≤ clock clocks node
unfolding all_timely timely
all_timely_lem clocks records e i l node m h =
    leb-true (at records i).time (clock clocks node)
    (if_then (holds i (at records i) node || called (at records i) node) _ (every_at _ nodes (every_at (λ i. timely clocks i (at records i)) (length records) e i l) node m) h)

pub timely_all : (clocks : List ℕ) (records : List Record)
    → ((i : ℕ) → i < length records → (node : ℕ) → node < nodes → holds i (at records i) node || called (at records i) node ≡ true → (at records i).time ≤ clock clocks node)
    → all_timely clocks records ≡ true
unfolding all_timely timely
timely_all clocks records h =
    every_of (λ i. timely clocks i (at records i)) (length records)
    (λ i l. every_of _ nodes (λ node m. then_if (holds i (at records i) node || called (at records i) node) _ (λ e. le-leb _ _ (h i l node m e))))

-- the clause of the branch
pub all_branch : (records : List Record) → one_branch records ≡ true → (i : ℕ) → i < length records → is_commit (at records i) ≡ true
    → on_path records i (latest_commit records) ≡ true
unfolding one_branch
all_branch records e i l c = if_then (is_commit (at records i)) _ (every_at _ (length records) e i l) c

pub branch_all : (records : List Record)
    → ((i : ℕ) → i < length records → is_commit (at records i) ≡ true → on_path records i (latest_commit records) ≡ true)
    → one_branch records ≡ true
unfolding one_branch
branch_all records h = every_of _ (length records) (λ i l. then_if (is_commit (at records i)) _ (h i l))

-- the clause of the log
pub same_says : (a b : List ℕ) → same a b ≡ true → a ≡ b
same_says [] [] e = refl
same_says [] (b ∷ bs) e = absurd (false≢true e)
same_says (a ∷ rest) [] e = absurd (false≢true e)
same_says (a ∷ rest) (b ∷ bs) e =
    ap₂ (λ (x : ℕ) (xs : List ℕ). x ∷ xs) (eqb-true a b (and_left (eqb a b) (same rest bs) e)) (same_says rest bs (and_right (eqb a b) (same rest bs) e))

pub same_refl : (a : List ℕ) → same a a ≡ true
same_refl [] = refl
same_refl (a ∷ rest) = and_true (eq-eqb a a refl) (same_refl rest)

-- a table, clause by clause
pub record Table (s : State) : Type 0 where
  pub some_records : 0 < length s.records
  pub few_records : length s.records ≤ places
  pub rooted : State'.rooted s.records ≡ true
  pub shaped : all_shaped s.records ≡ true
  pub timely : all_timely s.clocks s.records ≡ true
  pub branch : one_branch s.records ≡ true
  pub logged : s.log ≡ log_of s.records

pub table_says : (s : State) → is_table s ≡ true → Table s
unfolding is_table counted logged
table_says s e =
    let n = length s.records in
    let c = ltb 0 n && leb n places in
    let r = State'.rooted s.records in
    let h = all_shaped s.records in
    let t = all_timely s.clocks s.records in
    let b = one_branch s.records in
    let l = same s.log (log_of s.records) in
    let e₀ = and_left c (r && (h && (t && (b && l)))) e in
    let e₁ = and_right c (r && (h && (t && (b && l)))) e in
    let e₂ = and_right r (h && (t && (b && l))) e₁ in
    let e₃ = and_right h (t && (b && l)) e₂ in
    let e₄ = and_right t (b && l) e₃ in
    record {
      some_records = ltb-true 0 n (and_left (ltb 0 n) (leb n places) e₀);
      few_records = leb-true n places (and_right (ltb 0 n) (leb n places) e₀);
      rooted = and_left r (h && (t && (b && l))) e₁;
      shaped = and_left h (t && (b && l)) e₂;
      timely = and_left t (b && l) e₃;
      branch = and_left b l e₄;
      logged = same_says s.log (log_of s.records) (and_right b l e₄);
    }

pub table_of : (s : State) → Table s → is_table s ≡ true
unfolding is_table counted logged
table_of s h =
    and_true (and_true (lt-ltb _ _ h.some_records) (le-leb _ _ h.few_records))
    (and_true h.rooted (and_true h.shaped (and_true h.timely (and_true h.branch (rw h.logged (same_refl (log_of s.records)))))))
