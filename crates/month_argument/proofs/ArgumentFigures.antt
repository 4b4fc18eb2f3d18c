-- Worked figures of 02, T-01: arguments, and the months that they name. The bytes 48 to 57 are the digits. Assumes nothing.
use mathlib.Core.Bool.{Bool, true}
use mathlib.Core.List.{List, [], ◌∷◌}
use mathlib.Core.Path.{◌≡◌, refl}
use lib.Dec.{eqb}
use lib.ListN.{replicate}
use Rattle.numbers.specs.Tests.{every, all}
use Rattle.month_argument.specs.Argument.{is_digits, number_from, number_of, month_named}

pub arguments : List Bool
arguments =
    -- 295; 0; 0000; 1199; 01199
    eqb (month_named 1 (50 ∷ 57 ∷ 53 ∷ [])) 295
    ∷ eqb (month_named 1 (48 ∷ [])) 0
    ∷ eqb (month_named 1 (48 ∷ 48 ∷ 48 ∷ 48 ∷ [])) 0
    ∷ eqb (month_named 1 (49 ∷ 49 ∷ 57 ∷ 57 ∷ [])) 1199
    ∷ eqb (month_named 1 (48 ∷ 49 ∷ 49 ∷ 57 ∷ 57 ∷ [])) 1199
    -- 1200, and 9999
    ∷ eqb (month_named 1 (49 ∷ 50 ∷ 48 ∷ 48 ∷ [])) 1200
    ∷ eqb (month_named 1 (57 ∷ 57 ∷ 57 ∷ 57 ∷ [])) 1200
    -- no argument, two, an empty one
    ∷ eqb (month_named 0 []) 1200
    ∷ eqb (month_named 2 (53 ∷ [])) 1200
    ∷ eqb (month_named 1 []) 1200
    -- +5, -5, a space before and after, the bytes before and after the digits
    ∷ eqb (month_named 1 (43 ∷ 53 ∷ [])) 1200
    ∷ eqb (month_named 1 (45 ∷ 53 ∷ [])) 1200
    ∷ eqb (month_named 1 (32 ∷ 53 ∷ [])) 1200
    ∷ eqb (month_named 1 (53 ∷ 32 ∷ [])) 1200
    ∷ eqb (month_named 1 (47 ∷ 53 ∷ [])) 1200
    ∷ eqb (month_named 1 (58 ∷ [])) 1200
    -- 2^32 + 5; forty nines; forty zeros
    ∷ eqb (month_named 1 (52 ∷ 50 ∷ 57 ∷ 52 ∷ 57 ∷ 54 ∷ 55 ∷ 51 ∷ 48 ∷ 49 ∷ [])) 1200
    ∷ eqb (month_named 1 (replicate 40 57)) 1200
    ∷ eqb (month_named 1 (replicate 40 48)) 0
    ∷ []

pub arguments-hold : every arguments ≡ true
unfolding arguments month_named is_digits number_of number_from all
arguments-hold = refl
