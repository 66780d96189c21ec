-- Of the first n numbers: how many pass a test, whether each does, whether one does.
use Rattle.std.specs.Prelude.{ℕ, zero, suc, ◌+◌, Bool, true, false, cond, ◌&&◌, ◌||◌}

-- how many of the numbers below n pass
abbrev pub count : (ℕ → Bool) → ℕ → ℕ
count p zero = 0
count p (suc n) = count p n + cond (p n) 1 0

-- every number below n passes
abbrev pub every : (ℕ → Bool) → ℕ → Bool
every p zero = true
every p (suc n) = every p n && p n

-- some number below n passes
abbrev pub some : (ℕ → Bool) → ℕ → Bool
some p zero = false
some p (suc n) = some p n || p n
