-- The clocks of a vote: a voter's becomes the time, any other stays, and the refusals 5 say that none falls.
use Prim.Native.Nat.{ℕ, zero, suc, ◌≤◌, ◌<◌}
use native.Mathlib.Nat.{not-suc-le-zero}
use native.Mathlib.Decide.{ℕ_discrete}
use native.Mathlib.Omega.{arith}
use mathlib.Core.Path.{◌≡◌, refl, sym, ◌∙◌}
use mathlib.Core.Logic.{⊎_elim}
use mathlib.Core.Bool.{true, false, ◌&&◌}
use mathlib.Core.List.{List}
use borrow.Author.Tests.{leb-false, ltb-false}
use lib.Dec.{leb, ltb}
use lib.ListN.{length, length-set}
use lib.Seq.{get_or-set_same, get_or-set_other}
use Rattle.rules.specs.Nodes.{nodes, has}
use Rattle.rules.specs.Clocks.{clock, moved_of, moved, some_at_or_past, some_past}
use Rattle.rules.proofs.Bools.{tested, torn, and_fails}
use Rattle.rules.proofs.Choice.{chosen}
use Rattle.rules.proofs.First.{some_none}
use Rattle.rules.proofs.Nodes.{has_node}

module _ (voters time : ℕ) (clocks : List ℕ) where
  length_of : (n : ℕ) → length (moved_of voters time clocks n) ≡ length clocks
  length_of zero = refl
  length_of (suc n) =
      chosen (λ (l : List ℕ). length l ≡ length clocks) (has voters n) (λ e. length-set (moved_of voters time clocks n) n time ∙ length_of n) (λ e. length_of n)

  -- a vote leaves as many clocks as there were
  pub moved_length : length (moved voters time clocks) ≡ length clocks
  unfolding moved
  moved_length = length_of nodes

  other_of : (n v : ℕ) → has voters v ≡ false → clock (moved_of voters time clocks n) v ≡ clock clocks v
  other_of zero v e = refl
  other_of (suc n) v e =
      chosen (λ (l : List ℕ). clock l v ≡ clock clocks v) (has voters n)
      (λ f. get_or-set_other (moved_of voters time clocks n) n v time 0 (λ q. torn f (rw q at e)) ∙ other_of n v e)
      (λ f. other_of n v e)

  voter_of : (n v : ℕ) → v < n → v < length clocks → has voters v ≡ true → clock (moved_of voters time clocks n) v ≡ time
  voter_of zero v l h e = absurd (not-suc-le-zero l)
  voter_of (suc n) v l h e = go (λ m. voter_of n v m h e) (ℕ_discrete v n)
    where
      go : (v < n → clock (moved_of voters time clocks n) v ≡ time) → Dec (v ≡ n) → clock (moved_of voters time clocks (suc n)) v ≡ time
      go old (yes q) =
          rw (sym q, e) (get_or-set_same (moved_of voters time clocks v) v time 0 (rw (length_of v) h))
      go old (no d) =
          chosen (λ (l : List ℕ). clock l v ≡ time) (has voters n)
          (λ f. get_or-set_other (moved_of voters time clocks n) n v time 0 d ∙ old (omega arith))
          (λ f. old (omega arith))

  -- a voter's clock becomes the time
  pub voter_clock : length clocks ≡ nodes → (v : ℕ) → has voters v ≡ true → clock (moved voters time clocks) v ≡ time
  unfolding moved
  voter_clock all v e = voter_of nodes v (has_node voters v e) (rw all (has_node voters v e)) e

  -- any other stays
  pub other_clock : (v : ℕ) → has voters v ≡ false → clock (moved voters time clocks) v ≡ clock clocks v
  unfolding moved
  other_clock v e = other_of nodes v e

  -- so no clock falls where no voter's is past the time
  pub clocks_rise : length clocks ≡ nodes → ((v : ℕ) → has voters v ≡ true → clock clocks v ≤ time)
      → (v : ℕ) → clock clocks v ≤ clock (moved voters time clocks) v
  clocks_rise all within v =
      ⊎_elim
      (λ e. rw (voter_clock all v e) (within v e))
      (λ e. rw (other_clock v e) (omega arith))
      (tested (has voters v))

  -- what refusal 5 of a pull says where it is not given
  pub none_at_or_past : some_at_or_past voters time clocks ≡ false → (v : ℕ) → has voters v ≡ true → clock clocks v < time
  unfolding some_at_or_past
  none_at_or_past e v h =
      leb-false time (clock clocks v)
      (and_fails (has voters v) (leb time (clock clocks v)) (some_none (λ v. has voters v && leb time (clock clocks v)) nodes e v (has_node voters v h)) h)

  -- and of a push
  pub none_past : some_past voters time clocks ≡ false → (v : ℕ) → has voters v ≡ true → clock clocks v ≤ time
  unfolding some_past
  none_past e v h =
      ltb-false time (clock clocks v)
      (and_fails (has voters v) (ltb time (clock clocks v)) (some_none (λ v. has voters v && ltb time (clock clocks v)) nodes e v (has_node voters v h)) h)
