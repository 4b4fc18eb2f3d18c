-- Worked figures of 01, 'Sales ceiling': 2 × O at most (larger of 50,000 and 3 × (N + V)) + 2 × G, and each figure's limit of 10^9.
use mathlib.Core.Bool.{Bool, true}
use mathlib.Core.List.{List, [], ◌∷◌}
use mathlib.Core.Path.{◌≡◌, refl}
use Prim.Native.Nat.{ℕ}
use lib.Dec.{eqb}
use Rattle.numbers.specs.Tests.{every}
use Rattle.rules.specs.Ceiling.{ceiling_answer}
use Rattle.rules.proofs.Worked.{recordable_is, computed}

-- a refused call: cause 12, and the other figure 0
abbrev ceiling_refused : ℕ → ℕ → ℕ → ℕ → Bool
ceiling_refused O N F G = every (eqb (ceiling_answer O N F G).answer 12 ∷ eqb (ceiling_answer O N F G).recordable 0 ∷ [])

pub ceiling_figures : List Bool
ceiling_figures =
    -- nothing bought: 50,000 / 2
    recordable_is 0 0 0 0 1
    ∷ recordable_is 25000 0 0 0 1
    ∷ recordable_is 25001 0 0 0 0
    -- 3 × 16,666 is 49,998, below 50,000; 3 × 16,668 is 50,004
    ∷ recordable_is 25000 16666 0 0 1
    ∷ recordable_is 25002 16668 0 0 1
    ∷ recordable_is 25003 16668 0 0 0
    -- an odd bound: 3 × 16,667 is 50,001, and 2 × 25,001 above it
    ∷ recordable_is 25000 0 16667 0 1
    ∷ recordable_is 25001 0 16667 0 0
    -- N and V count alike: 3 × 30,000 / 2
    ∷ recordable_is 45000 30000 0 0 1
    ∷ recordable_is 45001 30000 0 0 0
    ∷ recordable_is 45000 0 30000 0 1
    ∷ recordable_is 45001 0 30000 0 0
    ∷ recordable_is 45000 10000 20000 0 1
    ∷ recordable_is 45001 10000 20000 0 0
    -- capacity is added to either: 25,000 + 7, 45,000 + 7
    ∷ recordable_is 25007 0 0 7 1
    ∷ recordable_is 25008 0 0 7 0
    ∷ recordable_is 45007 10000 20000 7 1
    ∷ recordable_is 45008 10000 20000 7 0
    -- each figure to 10^9, and one beyond
    ∷ recordable_is 1000000000 1000000000 1000000000 1000000000 1
    ∷ recordable_is 1000000000 0 0 0 0
    ∷ recordable_is 1000000000 0 0 1000000000 1
    ∷ recordable_is 0 1000000000 0 0 1
    ∷ recordable_is 0 0 1000000000 0 1
    ∷ ceiling_refused 1000000001 1000000000 1000000000 1000000000
    ∷ ceiling_refused 0 1000000001 0 0
    ∷ ceiling_refused 0 0 1000000001 0
    ∷ ceiling_refused 0 0 0 1000000001
    ∷ []

pub ceiling_figures-hold : every ceiling_figures ≡ true
unfolding computed ceiling_figures
ceiling_figures-hold = refl
