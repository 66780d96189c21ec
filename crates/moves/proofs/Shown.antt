-- What a push moves in the arrays is what it moves in the table.
-- `adopted_shown` and `written_shown` tie the struct's whole arrays to the part in use.
use Prim.Native.Nat.{ℕ, zero, suc, ◌+◌, ◌≤◌}
use native.Mathlib.Nat.{add-zero, zero-add, add-suc}
use native.Mathlib.Omega.{arith}
use mathlib.Core.Path.{◌≡◌, refl, sym, ap, ap₂, ◌∙◌}
use mathlib.Core.List.{List, [], ◌∷◌, ◌++◌, map, reverse, append-nil, append_assoc, reverse-cons}
use lib.ListN.{length, take, drop, get_or, set, length-set, length-reverse}
use lib.Seq.{take_all, get_or-set_same, get_or-set_other, take-suc, take-suc-set, take-set-le, drop-drop}
use Rattle.std.proofs.lemmas.List.{take-append-drop, drop-set-lt}
use Rattle.rules.specs.declared.Record.{Record}
use Rattle.rules.specs.Records.{blank, at}
use Rattle.rules.specs.Proposals.{adopted}
use Rattle.moves.specs.Moves.{adopted_of, written}

module _ (target new : ℕ) (rs : List Record) where
  -- adoption keeps the array's length
  pub adopted_length : (n : ℕ) → length (adopted_of target new rs n) ≡ length rs
  adopted_length zero = refl
  adopted_length (suc n) = simp length-set (adopted_length n)

  -- it leaves the records from n on
  adopted_rest : (n j : ℕ) → n ≤ j → at (adopted_of target new rs n) j ≡ at rs j
  adopted_rest zero j l = refl
  adopted_rest (suc n) j l =
      get_or-set_other (adopted_of target new rs n) n j (adopted target new (at (adopted_of target new rs n) n)) blank (λ e. omega arith)
      ∙ adopted_rest n j (omega arith)

  -- and adopts each before
  pub adopted_shown : (n : ℕ) → n ≤ length rs → take n (adopted_of target new rs n) ≡ map (adopted target new) (take n rs)
  adopted_shown zero l = refl
  adopted_shown (suc n) l =
      take-suc-set (adopted_of target new rs n) n (adopted target new (at (adopted_of target new rs n) n)) (rw (adopted_length n) l)
      ∙ ap₂ (λ (p : List Record) (r : Record). p ++ (adopted target new r ∷ [])) (adopted_shown n (omega arith)) (adopted_rest n n (omega arith))
      ∙ sym (map_snoc (adopted target new) (take n rs) (at rs n))
      ∙ ap (map (adopted target new)) (sym (take-suc rs n blank l))
    where
      map_snoc : (f : Record → Record) (p : List Record) (r : Record) → map f (p ++ (r ∷ [])) ≡ map f p ++ (f r ∷ [])
      map_snoc f [] r = refl
      map_snoc f (q ∷ p) r = ap (λ (l : List Record). f q ∷ l) (map_snoc f p r)

-- what is written keeps the log's length
pub written_length : (xs log : List ℕ) (end : ℕ) → length (written log end xs) ≡ length log
written_length [] log end = refl
written_length (i ∷ xs) log zero = refl
written_length (i ∷ xs) log (suc end) = written_length xs (set log end i) end ∙ length-set log end i

-- it leaves the places from the end on
written_rest : (xs log : List ℕ) (end k : ℕ) → end ≤ k → get_or (written log end xs) k 0 ≡ get_or log k 0
written_rest [] log end k l = refl
written_rest (i ∷ xs) log zero k l = refl
written_rest (i ∷ xs) log (suc end) k l =
    written_rest xs (set log end i) end k (omega arith) ∙ get_or-set_other log end k i 0 (λ e. omega arith)

-- and adds the numbers to the log, the first of them last
pub written_shown : (xs log : List ℕ) (l : ℕ) → l + length xs ≤ length log
    → take (l + length xs) (written log (l + length xs) xs) ≡ take l log ++ reverse xs
written_shown [] log l h = rw add-zero (sym (append-nil (take l log)))
written_shown (i ∷ xs) log l h =
    let end = l + length xs in
    let after = set log end i in
    let size : length (written after end xs) ≡ length log = written_length xs after end ∙ length-set log end i in
    rw add-suc
    (take-suc (written after end xs) end 0 (omega arith)
    ∙ ap₂ (λ (p : List ℕ) (k : ℕ). p ++ (k ∷ []))
    (written_shown xs after l (omega (arith, length-set log end i)) ∙ ap (λ (p : List ℕ). p ++ reverse xs) (take-set-le l log end i (omega arith)))
    (written_rest xs after end end (omega arith) ∙ get_or-set_same log end i 0 (omega arith))
    ∙ append_assoc (take l log) (reverse xs) (i ∷ [])
    ∙ ap (λ (p : List ℕ). take l log ++ p) (sym (reverse-cons i xs)))

written_onward : (xs log : List ℕ) (end k : ℕ) → end ≤ k → drop k (written log end xs) ≡ drop k log
written_onward [] log end k l = refl
written_onward (i ∷ xs) log zero k l = refl
written_onward (i ∷ xs) log (suc end) k l = written_onward xs (set log end i) end k (omega arith) ∙ drop-set-lt k log end i (omega arith)

-- the whole log then: what it had, the numbers, and the places after them as they were
pub written_between : (xs log : List ℕ) (l : ℕ) → l + length xs ≤ length log
    → written log (l + length xs) xs ≡ take l log ++ (reverse xs ++ drop (length (reverse xs)) (drop l log))
written_between xs log l h =
    let end = l + length xs in
    sym (take-append-drop end (written log end xs))
    ∙ ap₂ (λ (p : List ℕ) (q : List ℕ). p ++ q) (written_shown xs log l h) (written_onward xs log end end (omega arith))
    ∙ append_assoc (take l log) (reverse xs) (drop end log)
    ∙ ap (λ (q : List ℕ). take l log ++ (reverse xs ++ q)) (sym (drop-drop (length xs) l log) ∙ ap (λ (k : ℕ). drop k (drop l log)) (sym (length-reverse xs)))

-- and a log with as many places as there are numbers is these numbers
pub written_all : (xs log : List ℕ) → length log ≡ length xs → written log (length log) xs ≡ reverse xs
written_all xs log e =
    let n = length xs in
    rw e
    (sym (take_all n (written log n xs) (omega (arith, written_length xs log n)))
    ∙ (simp zero-add at (written_shown xs log 0 (omega arith))))
