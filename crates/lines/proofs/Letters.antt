-- A line by its first two bytes: a letter alone, a letter and a space, or neither.
use Prim.Native.Nat.{ℕ, ◌-◌, ◌≤◌, ◌<◌}
use native.Mathlib.Omega.{arith}
use mathlib.Core.Path.{◌≡◌, refl, sym, ◌∙◌}
use mathlib.Core.Bool.{Bool, true, false, cond}
use mathlib.Core.List.{List, [], ◌∷◌}
use borrow.Author.Tests.{lt-ltb, le-ltb, eq-eqb, ne_eqb, eqb-true}
use lib.Dec.{eqb}
use lib.ListN.{length, get_or, take, drop}
use lib.Seq.{take_all}
use Rattle.std.proofs.Common.{Some, None}
use Rattle.lines.specs.declared.Line.TheVariants.{Open}
use Rattle.lines.specs.Words.{onto, words}
use Rattle.lines.specs.Parse.{lettered, line_of, parsed}
use Rattle.lines.proofs.Words.{words_some}

-- no line has a space for its letter
no_letter : (b : ℕ) (parts : List (List ℕ)) → eqb b 32 ≡ true → lettered b parts ≡ None
unfolding lettered
no_letter b parts e = rw (eqb-true b 32 e)

-- a letter and further parts
line_of_lem : (b : ℕ) (rest : List ℕ) → line_of ((b ∷ []) ∷ words rest) ≡ lettered b (words rest)
line_of_lem b rest = let more = words_some rest in rw more.2

-- a first word of two bytes and more
line_glued : (b c : ℕ) (rest : List ℕ) → line_of (onto b (onto c (words rest))) ≡ None
line_glued b c rest = let more = words_some rest in rw more.2

line_spaced : (b c : ℕ) (rest : List ℕ) → c ≡ 32 → line_of (words (b ∷ c ∷ rest)) ≡ lettered b (words rest)
line_spaced b c rest e = rw (eq-eqb c 32 e) (go (eqb b 32) refl)
  where
    go : (t : Bool) → eqb b 32 ≡ t → line_of (cond t ([] ∷ [] ∷ words rest) ((b ∷ []) ∷ words rest)) ≡ lettered b (words rest)
    go true f = sym (no_letter b (words rest) f)
    go false f = line_of_lem b rest

line_joined : (b c : ℕ) (rest : List ℕ) → (c ≡ 32 → ⊥) → line_of (words (b ∷ c ∷ rest)) ≡ None
line_joined b c rest d = rw (ne_eqb c 32 d) (go (eqb b 32))
  where
    go : (t : Bool) → line_of (cond t ([] ∷ onto c (words rest)) (onto b (onto c (words rest)))) ≡ None
    go true = refl
    go false = line_glued b c rest

line_alone : (b : ℕ) → line_of (words (b ∷ [])) ≡ cond (eqb b 79) (Some (Open 7)) None
line_alone b = go (eqb b 32) refl
  where
    go : (t : Bool) → eqb b 32 ≡ t → line_of (cond t ([] ∷ [] ∷ []) ((b ∷ []) ∷ [])) ≡ cond (eqb b 79) (Some (Open 7)) None
    go true f = rw (eqb-true b 32 f)
    go false f = refl

module _ (line : List ℕ) where
  pub too_long : 63 < length line → parsed line ≡ None
  unfolding parsed
  too_long l = rw (lt-ltb 63 (length line) l)

  short_enough : length line ≤ 63 → parsed line ≡ line_of (words line)
  unfolding parsed
  short_enough l = rw (le-ltb 63 (length line) l)

pub no_bytes : (line : List ℕ) → length line < 1 → parsed line ≡ None
no_bytes [] l = short_enough [] (omega arith)
no_bytes (b ∷ line) l = absurd (omega arith)

-- one letter: `O` opens with 7
alone : (line : List ℕ) → 1 ≤ length line → length line < 2 → parsed line ≡ cond (eqb (get_or line 0 0) 79) (Some (Open 7)) None
alone [] l m = absurd (omega arith)
alone (b ∷ []) l m = short_enough (b ∷ []) (omega arith) ∙ line_alone b
alone (b ∷ c ∷ line) l m = absurd (omega arith)

module _ (line : List ℕ) (l : 1 ≤ length line) (m : length line < 2) where
  pub alone_open : get_or line 0 0 ≡ 79 → parsed line ≡ Some (Open 7)
  alone_open e = alone line l m ∙ rw (eq-eqb (get_or line 0 0) 79 e)

  pub alone_bad : (get_or line 0 0 ≡ 79 → ⊥) → parsed line ≡ None
  alone_bad d = alone line l m ∙ rw (ne_eqb (get_or line 0 0) 79 d)

-- a letter and no space after it
pub no_space : (line : List ℕ) → 2 ≤ length line → length line ≤ 63 → (get_or line 1 0 ≡ 32 → ⊥) → parsed line ≡ None
no_space [] l m d = absurd (omega arith)
no_space (b ∷ []) l m d = absurd (omega arith)
no_space (b ∷ c ∷ line) l m d = short_enough (b ∷ c ∷ line) m ∙ line_joined b c line d

-- a letter, a space and the parts
pub parts_after : (line : List ℕ) → 2 ≤ length line → length line ≤ 63 → get_or line 1 0 ≡ 32
    → parsed line ≡ lettered (get_or line 0 0) (words (take (length line - 2) (drop 2 line)))
parts_after [] l m e = absurd (omega arith)
parts_after (b ∷ []) l m e = absurd (omega arith)
parts_after (b ∷ c ∷ line) l m e =
    rw (take_all (length (b ∷ c ∷ line) - 2) (drop 2 (b ∷ c ∷ line)) (omega arith))
    (short_enough (b ∷ c ∷ line) m ∙ line_spaced b c line e)

-- a line by its letter and what stands after it
pub ruleset by_letters = (too_long, no_bytes, alone_open, alone_bad, no_space, parts_after)
