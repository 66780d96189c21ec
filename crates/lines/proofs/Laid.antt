-- Bytes laid over a buffer, one run after another.
use Prim.Native.Nat.{ℕ, suc, ◌+◌, ◌/◌, ◌%◌, ◌≤◌, ◌<◌}
use native.Mathlib.Nat.{add-zero}
use native.Mathlib.Omega.{arith}
use mathlib.Core.Path.{◌≡◌, refl, sym, ap, ◌∙◌}
use mathlib.Core.Bool.{Bool, true, false, cond}
use mathlib.Core.List.{List, [], ◌∷◌, ◌++◌}
use borrow.Author.Tests.{le-leb, lt-leb, leb-true}
use lib.Dec.{leb}
use lib.ListN.{length, set, length-set}
use lib.Seq.{set_comm}
use Rattle.lines.specs.Numbers.{digits}
use Rattle.lines.specs.Print.{laid, Put, outcome, put}
use Rattle.lines.proofs.Digits.{digits_one, digits_more, digits_longer}

pub laid_length : (at : ℕ) (bytes buffer : List ℕ) → length (laid at bytes buffer) ≡ length buffer
laid_length at [] buffer = refl
laid_length at (b ∷ bytes) buffer = length-set (laid (suc at) bytes buffer) at b ∙ laid_length (suc at) bytes buffer

-- a byte before the place is laid first or last
laid_set : (at i b : ℕ) (bytes buffer : List ℕ) → i < at → laid at bytes (set buffer i b) ≡ set (laid at bytes buffer) i b
laid_set at i b [] buffer l = refl
laid_set at i b (x ∷ bytes) buffer l =
    rw (laid_set (suc at) i b bytes buffer (omega arith)) (set_comm (laid (suc at) bytes buffer) i at b x (λ e. omega arith))

-- bytes after bytes
pub laid_append : (at : ℕ) (xs ys buffer : List ℕ) → laid at (xs ++ ys) buffer ≡ laid (at + length xs) ys (laid at xs buffer)
laid_append at [] ys buffer = rw add-zero
laid_append at (x ∷ xs) ys buffer =
    ap (λ (l : List ℕ). set l at x) (laid_append (suc at) xs ys buffer)
    ∙ sym (laid_set (suc at + length xs) at x ys (laid (suc at) xs buffer) (omega arith))
    ∙ ap (λ (k : ℕ). laid k ys (set (laid (suc at) xs buffer) at x)) (omega arith)

-- the last byte
laid_last : (at b : ℕ) (xs buffer : List ℕ) → laid at (xs ++ (b ∷ [])) buffer ≡ laid at xs (set buffer (at + length xs) b)
laid_last at b [] buffer = rw add-zero
laid_last at b (x ∷ xs) buffer =
    ap (λ (l : List ℕ). set l at x) (laid_last (suc at) b xs buffer)
    ∙ ap (λ (k : ℕ). set (laid (suc at) xs (set buffer k b)) at x) (omega arith)

module _ (bytes : List ℕ) (at : ℕ) (buffer : List ℕ) where
  pub put_whole : at + length bytes ≤ length buffer → put bytes at buffer ≡ outcome (laid at bytes buffer) (at + length bytes)
  unfolding put
  put_whole l = rw (le-leb (at + length bytes) (length buffer) l)

  pub put_none : length buffer < at + length bytes → put bytes at buffer ≡ outcome buffer at
  unfolding put
  put_none l = rw (lt-leb (at + length bytes) (length buffer) l)

-- a number's last digit is written, and those before it are left
module _ (n at place : ℕ) (buffer : List ℕ) (e : place ≡ at + length (digits n)) where
  pub digit_laid : 10 ≤ n → laid (suc at) (digits n) buffer ≡ laid (suc at) (digits (n / 10)) (set buffer place (48 + n % 10))
  digit_laid l =
      let f : suc at + length (digits (n / 10)) ≡ place = omega (arith, digits_longer n l) in
      rw (digits_more n l, laid_last (suc at) (48 + n % 10) (digits (n / 10)) buffer, f)

  pub first_laid : n < 10 → laid (suc at) (digits n) buffer ≡ set buffer place (48 + n)
  first_laid l =
      let f : place ≡ suc at = omega (arith, ap length (digits_one n l)) in
      rw (digits_one n l, f)

-- what is known once bytes were put where they fit
module _ (bytes : List ℕ) (at : ℕ) (buffer out : List ℕ) (next : ℕ) (l : at + length bytes ≤ length buffer) (q : outcome out next ≡ put bytes at buffer) where
  pub put_buffer : out ≡ laid at bytes buffer
  put_buffer = ap (λ (p : Put). p.buffer) (q ∙ put_whole bytes at buffer l)

  pub put_next : next ≡ at + length bytes
  put_next = ap (λ (p : Put). p.next) (q ∙ put_whole bytes at buffer l)

  pub put_length : length out ≡ length buffer
  put_length = ap length put_buffer ∙ laid_length at bytes buffer

-- from the front of a buffer on, the place after the bytes is in it or at its end
pub put_within : (bytes buffer : List ℕ) → (put bytes 0 buffer).next ≤ length buffer
unfolding put
put_within bytes buffer = go (leb (0 + length bytes) (length buffer)) refl
  where
    go : (t : Bool) → leb (0 + length bytes) (length buffer) ≡ t
        → (cond t (outcome (laid 0 bytes buffer) (0 + length bytes)) (outcome buffer 0)).next ≤ length buffer
    go true e = leb-true (0 + length bytes) (length buffer) e
    go false e = omega arith
