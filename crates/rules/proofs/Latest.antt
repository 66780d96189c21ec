-- A search finds the latest of the wanted records, of equal ones the lowest number, and nothing else does.
use Prim.Native.Nat.{ℕ, zero, suc, ◌<◌}
use native.Mathlib.Nat.{not-suc-le-zero}
use native.Mathlib.Omega.{arith}
use mathlib.Core.Path.{◌≡◌, refl, sym, ap, subst, ◌∙◌}
use mathlib.Core.Logic.{⊎_elim}
use mathlib.Core.Bool.{Bool, true, false, cond}
use mathlib.Core.List.{List}
use borrow.Author.Tests.{ltb-true, ltb-false}
use lib.Dec.{ltb}
use lib.ListN.{length}
use Rattle.rules.specs.declared.Record.{Record}
use Rattle.std.specs.Prelude.{Option, Some, None}
use Rattle.rules.specs.Records.{at, is_commit, above}
use Rattle.rules.specs.Tree.{later, latest_of, latest, number_of, last_commit, latest_commit}
use Rattle.rules.proofs.Bools.{tested, torn}
use Rattle.rules.proofs.First.{below_suc}
use Rattle.rules.proofs.Records.{above_irreflexive, above_asymmetric, above_trans}

-- r is record i, wanted, and the latest of the wanted among the first n; those of a lower number are strictly below it
pub record Latest (wanted : ℕ → Record → Bool) (records : List Record) (n i : ℕ) (r : Record) : Type 0 where
  pub among : i < n
  pub there : r ≡ at records i
  pub wants : wanted i r ≡ true
  pub tops : (j : ℕ) → j < n → wanted j (at records j) ≡ true → above (at records j) r ≡ false
  pub lowest : (j : ℕ) → j < i → wanted j (at records j) ≡ true → above r (at records j) ≡ true

-- what a search among the first n says by its answer
abbrev pub Right : (ℕ → Record → Bool) → List Record → ℕ → Option (ℕ × Record) → Type 0
Right wanted records n (Some (i, r)) = Latest wanted records n i r
Right wanted records n None = (j : ℕ) → j < n → wanted j (at records j) ≡ false

module _ (wanted : ℕ → Record → Bool) (records : List Record) (n : ℕ) where
  abbrev new : Record
  new = at records n

  -- nothing before: record n is the first
  first : ((j : ℕ) → j < n → wanted j (at records j) ≡ false) → wanted n new ≡ true → Latest wanted records (suc n) n new
  first none w =
      record {
        among = omega arith;
        there = refl;
        wants = w;
        tops =
            below_suc (λ (j : ℕ). wanted j (at records j) ≡ true → above (at records j) new ≡ false) n
            (λ j l v. absurd (torn v (none j l)))
            (λ v. above_irreflexive new);
        lowest = λ j l v. absurd (torn v (none j l));
      }

  -- record n is above what was found
  replaced : (i : ℕ) (r : Record) → Latest wanted records n i r → wanted n new ≡ true → above new r ≡ true
      → Latest wanted records (suc n) n new
  replaced i r old w up =
      record {
        among = omega arith;
        there = refl;
        wants = w;
        tops =
            below_suc (λ (j : ℕ). wanted j (at records j) ≡ true → above (at records j) new ≡ false) n
            (λ j l v. above_asymmetric new (at records j) (above_trans new r (at records j) up (old.tops j l v)))
            (λ v. above_irreflexive new);
        lowest = λ j l v. above_trans new r (at records j) up (old.tops j l v);
      }

  -- what was found stays
  kept : (i : ℕ) (r : Record) → Latest wanted records n i r → (wanted n new ≡ true → above new r ≡ false)
      → Latest wanted records (suc n) i r
  kept i r old no_more =
      record {
        among = let l = old.among in omega arith;
        there = old.there;
        wants = old.wants;
        tops = below_suc (λ (j : ℕ). wanted j (at records j) ≡ true → above (at records j) r ≡ false) n old.tops no_more;
        lowest = old.lowest;
      }

  compared : (i : ℕ) (r : Record) → Latest wanted records n i r → wanted n new ≡ true → (c : Bool) → above new r ≡ c
      → Right wanted records (suc n) (cond c (Some (n, new)) (Some (i, r)))
  compared i r old w true e = replaced i r old w e
  compared i r old w false e = kept i r old (λ v. e)

  grown : (f : Option (ℕ × Record)) → Right wanted records n f → (b : Bool) → wanted n new ≡ b
      → Right wanted records (suc n) (cond b (later f n new) f)
  grown None right true e = first right e
  grown None right false e = below_suc (λ (j : ℕ). wanted j (at records j) ≡ false) n right e
  grown (Some (i, r)) right true e = compared i r right e (above new r) refl
  grown (Some (i, r)) right false e = kept i r right (λ v. absurd (torn v e))

-- a search among the first n answers right
pub searched : (wanted : ℕ → Record → Bool) (records : List Record) (n : ℕ) → Right wanted records n (latest_of wanted records n)
searched wanted records zero = λ j l. absurd (not-suc-le-zero l)
searched wanted records (suc n) =
    grown wanted records n (latest_of wanted records n) (searched wanted records n) (wanted n (at records n)) refl

pub latest_right : (wanted : ℕ → Record → Bool) (records : List Record) → Right wanted records (length records) (latest wanted records)
unfolding latest
latest_right wanted records = searched wanted records (length records)

-- two latest records are one
pub latest_one : {wanted : ℕ → Record → Bool} {records : List Record} {n i j : ℕ} {r q : Record}
    → Latest wanted records n i r → Latest wanted records n j q → i ≡ j
latest_one {wanted} {records} {n} {i} {j} {r} {q} a b =
    ⊎_elim
    (λ e. absurd (lower i j r q a b (ltb-true i j e)))
    (λ e. ⊎_elim (λ f. absurd (lower j i q r b a (ltb-true j i f))) (λ f. let x = ltb-false i j e in let y = ltb-false j i f in omega arith) (tested (ltb j i)))
    (tested (ltb i j))
  where
    wanted_there : (i : ℕ) (r : Record) → Latest wanted records n i r → wanted i (at records i) ≡ true
    wanted_there i r a = subst (λ (x : Record). wanted i x ≡ true) a.there a.wants

    lower : (i j : ℕ) (r q : Record) → Latest wanted records n i r → Latest wanted records n j q → i < j → ⊥
    lower i j r q a b l =
        torn (b.lowest i l (wanted_there i r a))
        (rw (b.there, ← a.there) (a.tops j b.among (wanted_there j q b)))

-- what is the latest is found, and nothing else
pub latest_found : {wanted : ℕ → Record → Bool} {records : List Record} {i : ℕ} {r : Record}
    → Latest wanted records (length records) i r → latest wanted records ≡ Some (i, r)
latest_found {wanted} {records} {i} {r} a = go (latest wanted records) refl (latest_right wanted records)
  where
    go : (f : Option (ℕ × Record)) → latest wanted records ≡ f → Right wanted records (length records) f → latest wanted records ≡ Some (i, r)
    go None e none =
        absurd (torn (subst (λ (x : Record). wanted i x ≡ true) a.there a.wants) (none i a.among))
    go (Some (j, q)) e b = let k : j ≡ i = latest_one b a in e ∙ same k (b.there ∙ ap (λ (x : ℕ). at records x) k ∙ sym a.there)
      where
        same : j ≡ i → q ≡ r → ◌≡◌ {A = Option (ℕ × Record)} (Some (j, q)) (Some (i, r))
        same p s = cc

-- the number of what was found is a record's, and so is 0 where nothing was
pub latest_known : (wanted : ℕ → Record → Bool) (records : List Record) → 0 < length records
    → number_of (latest wanted records) < length records
latest_known wanted records l = known (latest wanted records) (latest_right wanted records)
  where
    known : (f : Option (ℕ × Record)) → Right wanted records (length records) f → number_of f < length records
    known (Some (i, r)) right = right.among
    known None right = l

pub latest_commit_known : (records : List Record) → 0 < length records → latest_commit records < length records
unfolding latest_commit last_commit
latest_commit_known records l = latest_known (λ i r. is_commit r) records l
