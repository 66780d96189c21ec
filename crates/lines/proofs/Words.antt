-- The words of a line, from one space to the next.
use Prim.Native.Nat.{ℕ, suc, ◌+◌, ◌-◌, ◌≤◌}
use native.Mathlib.Nat.{le_refl}
use native.Mathlib.Omega.{arith}
use mathlib.Core.Path.{◌≡◌, refl, sym, ap, ◌∙◌}
use mathlib.Core.Bool.{Bool, true, false, cond, not}
use mathlib.Core.List.{List, [], ◌∷◌}
use borrow.Author.Tests.{ltb-true, ltb-false}
use lib.Dec.{ltb}
use lib.ListN.{length, take, drop, length-drop}
use lib.Seq.{take_all}
use Rattle.std.proofs.Common.{Some, None}
use Rattle.std.specs.List.{position, position_or_len, onto_first, slice_split}
use Rattle.std.proofs.lemmas.List.Splits.{slice_split_first}
use Rattle.std.proofs.lemmas.Option.{cond_some}
use Rattle.lines.specs.Words.{space, onto, words}

-- there is always a word
pub words_some : (bytes : List ℕ) → (v : List ℕ) × (more : List (List ℕ)) × (words bytes ≡ v ∷ more)
words_some [] = ([], [], refl)
words_some (b ∷ bytes) = go (space b) (words_some bytes)
  where
    go : (t : Bool) → (v : List ℕ) × (more : List (List ℕ)) × (words bytes ≡ v ∷ more)
        → (v : List ℕ) × (more : List (List ℕ)) × (cond t ([] ∷ words bytes) (onto b (words bytes)) ≡ v ∷ more)
    go true some = ([], words bytes, refl)
    go false some = (b ∷ some.0, some.1, rw some.2)

-- words are what the library's split at spaces gives
words_are : (bytes : List ℕ) → words bytes ≡ slice_split space bytes
words_are [] = refl
words_are (b ∷ bytes) = go (words_are bytes) (space b)
  where
    same : (ws : List (List ℕ)) → (v : List ℕ) × (more : List (List ℕ)) × (ws ≡ v ∷ more) → onto b ws ≡ onto_first b ws
    same ws some = rw some.2

    go : words bytes ≡ slice_split space bytes → (t : Bool)
        → cond t ([] ∷ words bytes) (onto b (words bytes)) ≡ cond t ([] ∷ slice_split space bytes) (onto_first b (slice_split space bytes))
    go are true = ap (λ ws. [] ∷ ws) are
    go are false = same (words bytes) (words_some bytes) ∙ ap (onto_first b) are

one_word : (bytes : List ℕ) → length bytes ≤ position_or_len space bytes → words bytes ≡ bytes ∷ []
one_word [] l = refl
one_word (b ∷ bytes) l = go (space b) (one_word bytes) l
  where
    go : (t : Bool) → (length bytes ≤ position_or_len space bytes → words bytes ≡ bytes ∷ [])
        → suc (length bytes) ≤ cond (not t) (1 + position_or_len space bytes) 0
        → cond t ([] ∷ words bytes) (onto b (words bytes)) ≡ (b ∷ bytes) ∷ []
    go true rest m = absurd (omega arith)
    go false rest m = rw (rest (omega arith))

module _ (bytes : List ℕ) where
  -- without a space there is one word
  pub words_whole : position space bytes ≡ None → words bytes ≡ bytes ∷ []
  words_whole e = one_word bytes (go (ltb (position_or_len space bytes) (length bytes)) refl e)
    where
      go : (t : Bool) → ltb (position_or_len space bytes) (length bytes) ≡ t → cond t (Some (position_or_len space bytes)) None ≡ None
          → length bytes ≤ position_or_len space bytes
      go true f g = absurd cc
      go false f g = ltb-false (position_or_len space bytes) (length bytes) f

  -- up to a space there is a word, and after it further words
  pub words_split : (end : ℕ) → position space bytes ≡ Some end
      → words bytes ≡ take end bytes ∷ words (take (length bytes - (end + 1)) (drop (end + 1) bytes))
  words_split end e =
      let found = cond_some (ltb (position_or_len space bytes) (length bytes)) (position_or_len space bytes) end e in
      rw (take_all (length bytes - (end + 1)) (drop (end + 1) bytes) (rw length-drop (le_refl (length bytes - (end + 1)))), ← found.1)
      (words_are bytes
      ∙ slice_split_first space bytes 0 (ltb-true (position_or_len space bytes) (length bytes) found.0)
      ∙ ap (λ ws. take (position_or_len space bytes) bytes ∷ ws) (sym (words_are (drop (position_or_len space bytes + 1) bytes))))
