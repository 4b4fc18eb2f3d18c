-- Worked figures of the definitions that document 01 takes for granted: roundings, sums, tests of a list, causes in order, signs.
-- Each is worked out on paper from the sentence in its comment.
use mathlib.Core.Bool.{Bool, true, false, not}
use mathlib.Core.List.{List, [], ◌∷◌}
use mathlib.Core.Path.{◌≡◌, refl}
use Prim.Native.Nat.{ℕ, ◌+◌, ◌*◌}
use lib.Dec.{eqb, ltb}
use lib.IntN.{pos}
use Rattle.numbers.specs.Sums.{sum, total, count, count_below}
use Rattle.numbers.specs.Tests.{every, all, any, all_below}
use Rattle.numbers.specs.Causes.{unless, or_else, first_of, if_done}
use Rattle.numbers.specs.Rounding.{half_up, round_up}
use Rattle.numbers.specs.Signed.{is_positive, is_negative, lower, sum_ℤ}
use Rattle.rules.proofs.Worked.{minus, is_signed, computed}

-- `every` tells a list with one failed test, first, between or last; the lists of figures rest on it, so it is shown without it
pub tests-told :
    (every []
    ∷ every (true ∷ [])
    ∷ every (false ∷ [])
    ∷ every (true ∷ true ∷ true ∷ [])
    ∷ every (false ∷ true ∷ true ∷ [])
    ∷ every (true ∷ false ∷ true ∷ [])
    ∷ every (true ∷ true ∷ false ∷ [])
    ∷ [])
    ≡ (true ∷ true ∷ false ∷ true ∷ false ∷ false ∷ false ∷ [])
tests-told = refl

pub number_figures : List Bool
number_figures =
    -- halves up: 4/10 and 1/3 go down, 5/10, 1/2, 3/2 and 2/3 go up, whole quotients stay; 0 where the divisor is 0
    eqb (half_up 4 10) 0
    ∷ eqb (half_up 5 10) 1
    ∷ eqb (half_up 6 10) 1
    ∷ eqb (half_up 1 3) 0
    ∷ eqb (half_up 2 3) 1
    ∷ eqb (half_up 1 2) 1
    ∷ eqb (half_up 3 2) 2
    ∷ eqb (half_up 20 10) 2
    ∷ eqb (half_up 0 7) 0
    ∷ eqb (half_up 7 0) 0
    -- up: 1/5 and 4/5 are 1, 5/5 is 1, 6/5 is 2
    ∷ eqb (round_up 0 5) 0
    ∷ eqb (round_up 1 5) 1
    ∷ eqb (round_up 4 5) 1
    ∷ eqb (round_up 5 5) 1
    ∷ eqb (round_up 6 5) 2
    ∷ eqb (round_up 7 1) 7
    ∷ eqb (round_up 7 0) 0
    -- 1 + 2 + 5 of the numbers 0, 1 and 2; none of none; each member of a list once
    ∷ eqb (sum 3 (λ k. k * k + 1)) 8
    ∷ eqb (sum 1 (λ k. k * k + 1)) 1
    ∷ eqb (sum 0 (λ k. k * k + 1)) 0
    ∷ eqb (total (λ k. k * k + 1) (2 ∷ 0 ∷ 2 ∷ [])) 11
    ∷ eqb (total (λ (k : ℕ). k) []) 0
    -- below 5, the numbers 2, 3 and 4 are above 1; of 0, 2, 1, 2 and 2 three are
    ∷ eqb (count_below 5 (ltb 1)) 3
    ∷ eqb (count (ltb 1) (0 ∷ 2 ∷ 1 ∷ 2 ∷ 2 ∷ [])) 3
    -- one member that fails, first or last; one that passes, first or last; an empty list
    ∷ all (ltb 1) (2 ∷ 3 ∷ [])
    ∷ not (all (ltb 1) (1 ∷ 3 ∷ []))
    ∷ not (all (ltb 1) (2 ∷ 1 ∷ []))
    ∷ all (ltb 1) []
    ∷ any (ltb 1) (2 ∷ 1 ∷ [])
    ∷ any (ltb 1) (1 ∷ 2 ∷ [])
    ∷ not (any (ltb 1) (1 ∷ 0 ∷ []))
    ∷ not (any (ltb 1) [])
    ∷ all_below 3 (λ k. ltb k 3)
    ∷ not (all_below 4 (λ k. ltb k 3))
    ∷ not (all_below 3 (ltb 0))
    ∷ all_below 0 (ltb 9)
    -- a cause that does not hold is 0; the first that holds is given; a call without one leaves the new value
    ∷ eqb (unless true 5) 0
    ∷ eqb (unless false 5) 5
    ∷ eqb (or_else 0 4) 4
    ∷ eqb (or_else 3 4) 3
    ∷ eqb (first_of []) 0
    ∷ eqb (first_of (0 ∷ 0 ∷ [])) 0
    ∷ eqb (first_of (0 ∷ 3 ∷ 2 ∷ [])) 3
    ∷ eqb (first_of (2 ∷ 3 ∷ 0 ∷ [])) 2
    ∷ eqb (first_of (0 ∷ 0 ∷ 7 ∷ [])) 7
    ∷ eqb (if_done 0 8 9) 8
    ∷ eqb (if_done 1 8 9) 9
    ∷ eqb (if_done 12 8 9) 9
    -- zero is neither above nor below zero
    ∷ is_positive (pos 1)
    ∷ not (is_positive (pos 0))
    ∷ not (is_positive (minus 1))
    ∷ is_negative (minus 1)
    ∷ not (is_negative (pos 0))
    ∷ not (is_negative (pos 1))
    -- the lower of two, either way round and across zero
    ∷ is_signed (lower (minus 2) (pos 3)) (minus 2)
    ∷ is_signed (lower (pos 3) (minus 2)) (minus 2)
    ∷ is_signed (lower (minus 2) (minus 5)) (minus 5)
    ∷ is_signed (lower (pos 2) (pos 5)) (pos 2)
    -- -1 - 2; 0 + 1 + 4; none of none
    ∷ is_signed (sum_ℤ 2 (λ k. minus (k + 1))) (minus 3)
    ∷ is_signed (sum_ℤ 3 (λ k. pos (k * k))) (pos 5)
    ∷ is_signed (sum_ℤ 0 (λ k. pos 1)) (pos 0)
    ∷ []

pub number_figures-hold : every number_figures ≡ true
unfolding computed number_figures all_below
number_figures-hold = refl
