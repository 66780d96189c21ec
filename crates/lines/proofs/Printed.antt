-- Lines of output: a letter, numbers with a space before each, a newline.
use Prim.Native.Nat.{ℕ, ◌+◌, ◌≤◌, ◌<◌}
use native.Mathlib.Numerals.{add-one}
use native.Mathlib.Omega.{arith}
use mathlib.Core.Path.{◌≡◌, sym, ap, ap₂, ◌∙◌}
use mathlib.Core.List.{List, [], ◌∷◌, ◌++◌}
use lib.ListN.{length, set, drop, get_or, length-set, length-append, drop_of_length-le}
use lib.Seq.{drop-cons}
use Rattle.lines.specs.Numbers.{digits}
use Rattle.lines.specs.Print.{line, spaced, spaced_all, log_line, laid, outcome, put}
use Rattle.lines.proofs.Laid.{laid_append, put_whole, put_none, put_buffer, put_next, put_length}

-- a line is its letter, the rest and the newline
pub line_put : (letter : ℕ) (rest buffer out : List ℕ) (end : ℕ) → length rest + 2 ≤ length buffer
    → out ≡ laid 1 rest (set buffer 0 letter) → end ≡ 1 + length rest
    → outcome (set out end 10) (end + 1) ≡ put (line letter rest) 0 buffer
line_put letter rest buffer out end l e f =
    ap₂ outcome
    (rw (e, f)
    (sym (laid_append 0 (letter ∷ []) (rest ++ (10 ∷ [])) buffer ∙ laid_append 1 rest (10 ∷ []) (set buffer 0 letter))))
    (omega (arith, length-append rest (10 ∷ [])))
    ∙ sym (put_whole (line letter rest) 0 buffer (omega (arith, length-append rest (10 ∷ []))))

pub line_none : (letter : ℕ) (rest buffer : List ℕ) → length buffer < length rest + 2 → put (line letter rest) 0 buffer ≡ outcome buffer 0
line_none letter rest buffer l = put_none (line letter rest) 0 buffer (omega (arith, length-append rest (10 ∷ [])))

-- a letter and then a number are put
module _ (letter n : ℕ) (buffer out : List ℕ) (next : ℕ)
    (q : outcome out next ≡ put (spaced n) 1 (set buffer 0 letter)) (room : length (digits n) + 3 ≤ length buffer) where
  head_fits : 1 + length (spaced n) ≤ length (set buffer 0 letter)
  head_fits = simp length-set (omega arith)

  pub head_put : (out ≡ laid 1 (spaced n) (set buffer 0 letter)) × (next ≡ 1 + length (spaced n)) × (length out ≡ length buffer)
  head_put = (
    put_buffer (spaced n) 1 (set buffer 0 letter) out next head_fits q,
    put_next (spaced n) 1 (set buffer 0 letter) out next head_fits q,
    put_length (spaced n) 1 (set buffer 0 letter) out next head_fits q ∙ length-set buffer 0 letter,
  )

  pub numbered_put : outcome (set out next 10) (next + 1) ≡ put (line letter (spaced n)) 0 buffer
  numbered_put = line_put letter (spaced n) buffer out next (omega arith) head_put.0 head_put.1

pub numbered_none : (letter n : ℕ) (buffer : List ℕ) → length buffer < length (digits n) + 3
    → put (line letter (spaced n)) 0 buffer ≡ outcome buffer 0
numbered_none letter n buffer l = line_none letter (spaced n) buffer (omega arith)

-- numbers from one on
module _ (numbers : List ℕ) (i : ℕ) where
  pub spaced_more : i < length numbers → spaced_all (drop i numbers) ≡ spaced (get_or numbers i 0) ++ spaced_all (drop (i + 1) numbers)
  spaced_more l = rw (add-one, drop-cons numbers i 0 l)

  pub spaced_count : i < length numbers
      → length (spaced_all (drop i numbers)) ≡ length (digits (get_or numbers i 0)) + 1 + length (spaced_all (drop (i + 1) numbers))
  spaced_count l =
      ap length (spaced_more l)
      ∙ length-append (spaced (get_or numbers i 0)) (spaced_all (drop (i + 1) numbers))
      ∙ ap (λ (k : ℕ). k + length (spaced_all (drop (i + 1) numbers))) (sym (add-one (length (digits (get_or numbers i 0)))))

  pub spaced_end : length numbers ≤ i → spaced_all (drop i numbers) ≡ []
  spaced_end l = rw (drop_of_length-le numbers l)

-- one number of several is put, and those after it are left
module _ (numbers : List ℕ) (i at : ℕ) (buffer out : List ℕ) (next : ℕ) (l : i < length numbers)
    (room : at + length (spaced_all (drop i numbers)) ≤ length buffer) (q : outcome out next ≡ put (spaced (get_or numbers i 0)) at buffer) where
  number_fits : at + length (spaced (get_or numbers i 0)) ≤ length buffer
  number_fits = omega (arith, spaced_count numbers i l)

  number_next : next ≡ at + length (spaced (get_or numbers i 0))
  number_next = put_next (spaced (get_or numbers i 0)) at buffer out next number_fits q

  pub number_put
      : (length out ≡ length buffer)
      × (next + length (spaced_all (drop (i + 1) numbers)) ≡ at + length (spaced_all (drop i numbers)))
      × (laid next (spaced_all (drop (i + 1) numbers)) out ≡ laid at (spaced_all (drop i numbers)) buffer)
  number_put = (
    put_length (spaced (get_or numbers i 0)) at buffer out next number_fits q,
    omega (arith, spaced_count numbers i l, number_next),
    rw (put_buffer (spaced (get_or numbers i 0)) at buffer out next number_fits q, number_next)
        (sym
        (ap (λ (bytes : List ℕ). laid at bytes buffer) (spaced_more numbers i l)
        ∙ laid_append at (spaced (get_or numbers i 0)) (spaced_all (drop (i + 1) numbers)) buffer)),
  )

-- the last number is put
pub numbers_put : (numbers : List ℕ) (i at : ℕ) (buffer out : List ℕ) (place : ℕ) → length numbers ≤ i
    → at + length (spaced_all numbers) ≤ length buffer
    → place + length (spaced_all (drop i numbers)) ≡ at + length (spaced_all numbers)
    → laid place (spaced_all (drop i numbers)) out ≡ laid at (spaced_all numbers) buffer
    → outcome out place ≡ put (spaced_all numbers) at buffer
numbers_put numbers i at buffer out place l room e f =
    ap₂ outcome (rw (spaced_end numbers i l) at f) (omega (arith, ap length (spaced_end numbers i l)))
    ∙ sym (put_whole (spaced_all numbers) at buffer room)

-- the log's line, once its length and its entries are put, whatever the letter
module _ (log buffer middle out : List ℕ) (letter next end : ℕ)
    (q : outcome out end ≡ put (spaced_all log) next middle) (p : outcome middle next ≡ put (spaced (length log)) 1 (set buffer 0 letter))
    (room : length (digits (length log)) + 3 + length (spaced_all log) ≤ length buffer) where
  head : (middle ≡ laid 1 (spaced (length log)) (set buffer 0 letter)) × (next ≡ 1 + length (spaced (length log))) × (length middle ≡ length buffer)
  head = head_put letter (length log) buffer middle next p (omega arith)

  log_fits : next + length (spaced_all log) ≤ length middle
  log_fits = omega (arith, head.1, head.2)

  log_end : end ≡ 1 + length (spaced_all (length log ∷ log))
  log_end =
      omega (
        arith,
        put_next (spaced_all log) next middle out end log_fits q,
        head.1,
        length-append (spaced (length log)) (spaced_all log),
      )

  log_buffer : out ≡ laid 1 (spaced_all (length log ∷ log)) (set buffer 0 letter)
  log_buffer =
      put_buffer (spaced_all log) next middle out end log_fits q
      ∙ ap₂ (λ (n : ℕ) (l : List ℕ). laid n (spaced_all log) l) head.1 head.0
      ∙ sym (laid_append 1 (spaced (length log)) (spaced_all log) (set buffer 0 letter))

  -- the newline has its place, and the buffer keeps its length
  pub log_room : (end < length buffer) × (length out ≡ length buffer)
  log_room = (
    omega (arith, log_end, length-append (spaced (length log)) (spaced_all log)),
    put_length (spaced_all log) next middle out end log_fits q ∙ head.2,
  )

  pub log_put : outcome (set out end 10) (end + 1) ≡ put (line letter (spaced_all (length log ∷ log))) 0 buffer
  log_put =
      line_put letter (spaced_all (length log ∷ log)) buffer out end
      (omega (arith, length-append (spaced (length log)) (spaced_all log)))
      log_buffer
      log_end

pub log_none : (log buffer : List ℕ) → length buffer < length (digits (length log)) + 3 + length (spaced_all log)
    → put (log_line log) 0 buffer ≡ outcome buffer 0
log_none log buffer l =
    line_none 76 (spaced_all (length log ∷ log)) buffer (omega (arith, length-append (spaced (length log)) (spaced_all log)))
