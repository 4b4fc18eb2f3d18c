-- A month given in digits as a program's only argument (02, T-01).
use Rattle.std.specs.Prelude.{Bool, false, cond, List, [], ◌∷◌, ℕ, ◌+◌, ◌-◌, ◌*◌, eqb, ltb}
use Rattle.numbers.specs.Tests.{every, all}
use Rattle.calendar.specs.Calendar.{months}
use Rattle.rules.specs.Entry.{within}

-- the bytes 0 to 9
abbrev pub is_digit : ℕ → Bool
is_digit b = within 48 57 b

-- digits, at least one of them
unfoldable pub is_digits : List ℕ → Bool
is_digits [] = false
is_digits (b ∷ bs) = all is_digit (b ∷ bs)

-- the number that digits write; leading zeros are digits
unfoldable pub number_from : ℕ → List ℕ → ℕ
number_from n [] = n
number_from n (b ∷ bs) = number_from (10 * n + (b - 48)) bs

unfoldable pub number_of : List ℕ → ℕ
number_of bs = number_from 0 bs

-- a month: one argument, of digits, at most 1,199; anything else is month 1,200, which the report refuses by 12
unfoldable pub month_named : ℕ → List ℕ → ℕ
month_named arguments bs =
    cond (every (eqb arguments 1 ∷ is_digits bs ∷ ltb (number_of bs) months ∷ [])) (number_of bs) months
