-- What the facts say of one path: the order rises along it, and going up from a record one comes to the election of its term.
use mathlib.Core.Path.{◌≡◌, refl, sym, ◌∙◌}
use mathlib.Core.Logic.{◌⊎◌, inl, inr, ⊎_elim}
use Prim.Native.Nat.{ℕ, ◌≤◌, ◌<◌}
use native.Mathlib.Omega.{arith}
use Rattle.agreement.specs.Scheme.{Scheme}
use Rattle.agreement.specs.Tree.{Tree, Sort, election, command, change, commit, here, up, Below, by_time, by_version, by_commit, ◌⊢◌⊑◌}
use Rattle.agreement.specs.Facts.{Facts, Shape, Continues}
use Rattle.agreement.proofs.Cases.{zero_or_more, above_zero}
use Rattle.agreement.proofs.Paths.{On-known, Below-time, Below-version, Below-irrefl, Below-trans}

-- the election of a record's term: on its path, with its caller and its time
pub record Term {Conf : Type 0} (T : Tree Conf) (n i : ℕ) : Type 0 where
  pub first : ℕ
  pub known : first < n
  pub sort_is : T.sort first ≡ election
  pub on : T ⊢ first ⊑ i
  pub caller_is : T.caller first ≡ T.caller i
  pub time_is : T.time first ≡ T.time i

module _ {𝓢 : Scheme} {T : Tree 𝓢.Conf} {n : ℕ} {clock : ℕ → ℕ} {holds : ℕ → ℕ → Type 0} (F : Facts 𝓢 T n clock holds) where
  -- a record of a time above 0 is not record 0
  pub positive : (i : ℕ) → 0 < T.time i → 0 < i
  positive = above_zero (λ i. 0 < T.time i) (λ h. omega (arith, F.root_time))

  -- neither is a record that is no commit
  pub uncommitted : (i : ℕ) → ¬ (T.sort i ≡ commit) → 0 < i
  uncommitted = above_zero (λ i. ¬ (T.sort i ≡ commit)) (λ h. h F.root_sort)

  -- only records are on a record's path
  pub known : {a b : ℕ} → T ⊢ a ⊑ b → b < n → a < n
  known p h = On-known F.parent_known p h

  -- a parent is below its child
  pub parent_below : (i : ℕ) → 0 < i → i < n → Below T (T.parent i) i
  parent_below i z h = go (T.sort i) refl (F.shape i z h)
    where
      go : (s : Sort) → T.sort i ≡ s → Shape 𝓢 T i s → Below T (T.parent i) i
      go election e s = by_time s.later
      go command e s = by_version (sym s.continues.time_is) (omega arith)
      go change e s = by_version (sym s.continues.time_is) (omega arith)
      go commit e s = by_commit (sym s.continues.time_is) (sym s.version_is) s.target e

  -- what is on a record's path is the record or below it
  pub rises : {a b : ℕ} → T ⊢ a ⊑ b → b < n → (a ≡ b) ⊎ Below T a b
  rises here h = inl refl
  rises {a} (up {b = b} p) h = go (rises p (F.parent_known b h)) (zero_or_more b)
    where
      go : (a ≡ T.parent b) ⊎ Below T a (T.parent b) → (b ≡ 0) ⊎ (0 < b) → (a ≡ b) ⊎ Below T a b
      go q (inl e) =
          let own : T.parent b ≡ b = rw e F.root_parent in
          rw own at q
      go (inl q) (inr z) = inr (rw q (parent_below b z h))
      go (inr q) (inr z) = inr (Below-trans q (parent_below b z h))

  pub strictly : {a b : ℕ} → T ⊢ a ⊑ b → b < n → ¬ (a ≡ b) → Below T a b
  strictly p h d = ⊎_elim (λ e. absurd (d e)) (λ q. q) (rises p h)

  -- times never fall along a path, nor versions at one time
  pub time_rises : {a b : ℕ} → T ⊢ a ⊑ b → b < n → T.time a ≤ T.time b
  time_rises p h = ⊎_elim (λ e. rw e (omega arith)) Below-time (rises p h)

  pub version_rises : {a b : ℕ} → T ⊢ a ⊑ b → b < n → T.time a ≡ T.time b → T.version a ≤ T.version b
  version_rises p h t = ⊎_elim (λ e. rw e (omega arith)) (λ q. Below-version q t) (rises p h)

  -- no record is both on another's path and above it
  pub no_loop : {a b : ℕ} → T ⊢ a ⊑ b → b < n → ¬ Below T b a
  no_loop p h q = ⊎_elim (λ e. Below-irrefl (rw e at q)) (λ r. Below-irrefl (Below-trans q r)) (rises p h)

  -- two records on one another's paths are one
  pub both_ways : {a b : ℕ} → T ⊢ a ⊑ b → T ⊢ b ⊑ a → b < n → a ≡ b
  both_ways p q h = ⊎_elim (λ e. e) (λ r. absurd (no_loop q (known p h) r)) (rises p h)

  -- a record with its parent's time is no election, so it has its parent's caller too
  pub continues : (i : ℕ) → 0 < i → i < n → T.time (T.parent i) ≡ T.time i → Continues 𝓢 T i
  continues i z h e = go (T.sort i) (F.shape i z h)
    where
      go : (s : Sort) → Shape 𝓢 T i s → Continues 𝓢 T i
      go election s = absurd (omega arith)
      go command s = s.continues
      go change s = s.continues
      go commit s = s.continues

  -- two records of one time on one path have the same caller
  pub one_caller : {a b : ℕ} → T ⊢ a ⊑ b → b < n → 0 < T.time b → T.time a ≡ T.time b → T.caller a ≡ T.caller b
  one_caller here h z t = refl
  one_caller {a} (up {b = b} p) h z t =
      let k : T.parent b < n = F.parent_known b h in
      let l : T.time a ≤ T.time (T.parent b) = time_rises p k in
      let m : T.time (T.parent b) ≤ T.time b = Below-time (parent_below b (positive b z) h) in
      let c = continues b (positive b z) h (omega arith) in
      one_caller p k (omega arith) (omega arith) ∙ sym c.caller_is

  -- every record above 0 has a term
  term_on : {i : ℕ} → T ⊢ 0 ⊑ i → 0 < i → i < n → Term T n i
  term_on here z h = absurd (omega arith)
  term_on (up {b = i} p) z h = go (T.sort i) refl (F.shape i z h) (λ k. term_on p k (F.parent_known i h))
    where
      onward : Continues 𝓢 T i → (0 < T.parent i → Term T n (T.parent i)) → Term T n i
      onward c above =
          let l : 0 < T.time i = F.after_root i z h in
          let t = c.time_is in
          let e = above (positive (T.parent i) (omega arith)) in
          record {
            first = e.first;
            known = e.known;
            sort_is = e.sort_is;
            on = up e.on;
            caller_is = e.caller_is ∙ sym c.caller_is;
            time_is = e.time_is ∙ sym t;
          }

      go : (s : Sort) → T.sort i ≡ s → Shape 𝓢 T i s → (0 < T.parent i → Term T n (T.parent i)) → Term T n i
      go election e s above = record { first = i; known = h; sort_is = e; on = here; caller_is = refl; time_is = refl }
      go command e s above = onward s.continues above
      go change e s above = onward s.continues above
      go commit e s above = onward s.continues above

  pub term : (i : ℕ) → 0 < i → i < n → Term T n i
  term i z h = term_on (F.rooted i h) z h
