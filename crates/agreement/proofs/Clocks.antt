-- Clocks: who holds a record in the next state has a clock of at least its time; and a short vote, which moves clocks up
-- (and may add holders) and no more, keeps the facts.
use mathlib.Core.Path.{◌≡◌, refl}
use mathlib.Core.Logic.{◌⊎◌, inl, inr}
use Prim.Native.Nat.{ℕ, ◌≤◌, ◌<◌}
use native.Mathlib.Omega.{arith}
use Rattle.agreement.specs.Scheme.{Scheme}
use Rattle.agreement.specs.Tree.{Tree}
use Rattle.agreement.specs.Facts.{Facts}
use Rattle.agreement.specs.Steps.{Handed, Holder, held, called, reached}
use Rattle.agreement.proofs.Cases.{zero_or_more}

module _ {𝓢 : Scheme} {T T' : Tree 𝓢.Conf} {n n' : ℕ} {clock clock' : ℕ → ℕ} {holds holds' : ℕ → ℕ → Type 0}
    (F : Facts 𝓢 T n clock holds) (H : Handed 𝓢 T' n n' clock clock' holds holds')
    (time_is : (i : ℕ) → i < n → T'.time i ≡ T.time i) where
  -- callers' clocks being up to date, holders' are
  pub holder_clock : ((i : ℕ) → 0 < i → i < n' → T'.time i ≤ clock' (T'.caller i)) →
      (i v : ℕ) → i < n' → holds' v i → T'.time i ≤ clock' v
  holder_clock own i v h k = go (H.holder i v h k) (zero_or_more i)
    where
      go : Holder T' n clock' holds v i → (i ≡ 0) ⊎ (0 < i) → T'.time i ≤ clock' v
      go (held l m) z = rw (time_is i l) (omega (arith, F.clock_held i v l m, H.rise v))
      go (called e) (inl z) = rw (z, time_is 0 F.opened, F.root_time) (omega arith)
      go (called e) (inr z) = rw e (own i z h)
      go (reached l) z = l

-- a short vote
pub short : {𝓢 : Scheme} {T : Tree 𝓢.Conf} {n : ℕ} {clock clock' : ℕ → ℕ} {holds holds' : ℕ → ℕ → Type 0} →
    Facts 𝓢 T n clock holds → Handed 𝓢 T n n clock clock' holds holds' → Facts 𝓢 T n clock' holds'
short {T} {n} {clock' = clock'} F H = record {
  opened = F.opened;
  root_sort = F.root_sort;
  root_time = F.root_time;
  root_parent = F.root_parent;
  after_root = F.after_root;
  parent_known = F.parent_known;
  rooted = F.rooted;
  shape = F.shape;
  chain = F.chain;
  clock_called = own;
  clock_voted = λ i v h s k. omega (arith, F.clock_voted i v h s k, H.rise v);
  clock_held = holder_clock F H (λ i h. refl) own;
  voters_hold = H.voters_hold;
  vote_after_commit = F.vote_after_commit;
  one_vote = F.one_vote;
}
  where
    own : (i : ℕ) → 0 < i → i < n → T.time i ≤ clock' (T.caller i)
    own i z h = omega (arith, F.clock_called i z h, H.rise (T.caller i))
