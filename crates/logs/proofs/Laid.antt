-- Numbers laid over a buffer: as many of them as it has places for, and after them what it had there.
use Prim.Native.Nat.{ℕ, zero, suc, ◌≤◌, ◌<◌, min}
use native.Mathlib.Omega.{arith}
use mathlib.Core.Path.{◌≡◌, refl, ap}
use mathlib.Core.List.{List, [], ◌∷◌, ◌++◌}
use lib.ListN.{length, take, drop, set, get_or}
use Rattle.std.proofs.Math.Seq.{take-length}
use Rattle.logs.specs.Copy.{laid}

-- one number more
pub laid_suc : (xs buffer : List ℕ) (i : ℕ) → i < length xs → set (laid (take i xs) buffer) i (get_or xs i 0) ≡ laid (take (suc i) xs) buffer
laid_suc [] buffer i l = absurd (omega arith)
laid_suc (x ∷ xs) [] zero l = refl
laid_suc (x ∷ xs) (b ∷ buffer) zero l = refl
laid_suc (x ∷ xs) [] (suc i) l = refl
laid_suc (x ∷ xs) (b ∷ buffer) (suc i) l = ap (λ (r : List ℕ). x ∷ r) (laid_suc xs buffer i (omega arith))

-- past either end nothing is laid
pub laid_past_buffer : (xs buffer : List ℕ) (i n : ℕ) → length buffer ≤ i → i ≤ n → laid (take i xs) buffer ≡ laid (take n xs) buffer
laid_past_buffer [] buffer zero zero e l = refl
laid_past_buffer [] buffer zero (suc n) e l = refl
laid_past_buffer [] buffer (suc i) zero e l = refl
laid_past_buffer [] buffer (suc i) (suc n) e l = refl
laid_past_buffer (x ∷ xs) [] zero zero e l = refl
laid_past_buffer (x ∷ xs) [] zero (suc n) e l = refl
laid_past_buffer (x ∷ xs) [] (suc i) zero e l = refl
laid_past_buffer (x ∷ xs) [] (suc i) (suc n) e l = refl
laid_past_buffer (x ∷ xs) (b ∷ buffer) zero n e l = absurd (omega arith)
laid_past_buffer (x ∷ xs) (b ∷ buffer) (suc i) zero e l = absurd (omega arith)
laid_past_buffer (x ∷ xs) (b ∷ buffer) (suc i) (suc n) e l = ap (λ (r : List ℕ). x ∷ r) (laid_past_buffer xs buffer i n (omega arith) (omega arith))

-- a buffer of any length
pub laid_first : (xs buffer : List ℕ) (n : ℕ) → n ≡ min (length xs) (length buffer) → take n xs ++ drop n buffer ≡ laid xs buffer
laid_first [] buffer zero e = refl
laid_first [] buffer (suc n) e = absurd (omega arith)
laid_first (x ∷ xs) [] zero e = refl
laid_first (x ∷ xs) [] (suc n) e = absurd (omega arith)
laid_first (x ∷ xs) (b ∷ buffer) zero e = absurd (omega arith)
laid_first (x ∷ xs) (b ∷ buffer) (suc n) e = ap (λ (r : List ℕ). x ∷ r) (laid_first xs buffer n (omega arith))

-- a buffer with room for all of them: the rest of it follows
pub laid_is : (xs buffer : List ℕ) → length xs ≤ length buffer → laid xs buffer ≡ xs ++ drop (length xs) buffer
laid_is xs buffer l = rw (← laid_first xs buffer (length xs) (omega arith), take-length)
