-- The number that a word of decimal digits writes, if it is at most so large. Assumes nothing.
use Rattle.std.specs.Prelude.{ℕ, ◌+◌, ◌-◌, ◌*◌, cond, List, [], ◌∷◌, Some, None, Option, nat_le}
use Rattle.std.specs.Char.{is_ascii_digit}

-- digits read on, after the number so far
abbrev pub number_from : ℕ → ℕ → List ℕ → Option ℕ
number_from most n [] = Some n
number_from most n (b ∷ bs) =
    cond (is_ascii_digit b) (cond (nat_le (n * 10 + (b - 48)) most) (number_from most (n * 10 + (b - 48)) bs) None) None

-- at least one digit
abbrev pub number_of : ℕ → List ℕ → Option ℕ
number_of most [] = None
number_of most (b ∷ bs) = number_from most 0 (b ∷ bs)
