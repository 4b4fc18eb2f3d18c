-- Worked figures of 01, 'Month step': each limit at its edge and one beyond, lengths that don't agree, both figures over several rows, halves up, signs.
use mathlib.Core.Bool.{Bool, true}
use mathlib.Core.List.{List, [], ◌∷◌}
use mathlib.Core.Path.{◌≡◌, refl}
use Prim.Native.Nat.{ℕ}
use lib.Dec.{eqb}
use lib.IntN.{ℤ, pos}
use lib.ListN.{replicate}
use Rattle.numbers.specs.Tests.{every}
use Rattle.rules.specs.Month.{Tables, tables_of, month_cause, month_answer}
use Rattle.rules.specs.declared.MonthAnswer.{MonthAnswer}
use Rattle.rules.proofs.Worked.{minus, is_signed, tables, computed}

abbrev month_is : Tables → ℕ → ℤ → Bool
month_is m price volume =
    let r : MonthAnswer = month_answer m in
    every (eqb r.answer 0 ∷ eqb r.month.aosmf price ∷ is_signed r.month.aedm volume ∷ [])

-- a refused call: its cause, and both figures 0
abbrev month_refused : Tables → ℕ → Bool
month_refused m cause =
    let r : MonthAnswer = month_answer m in
    every (eqb r.answer cause ∷ eqb r.month.aosmf 0 ∷ is_signed r.month.aedm (pos 0) ∷ [])

-- 2 rows of 3 hours: Σ|imbalance| × price is 3 × 100 + 5 × 400 + 100 + 7 × 200 + 4 × 400 = 5,400, Σ|imbalance| 8 + 12 = 20
abbrev of_group : ℕ → Tables
of_group group =
    tables_of
    (100 ∷ 200 ∷ 400 ∷ [])
    (minus 3 ∷ pos 0 ∷ pos 5 ∷ pos 1 ∷ minus 7 ∷ pos 4 ∷ [])
    2
    (pos 10 ∷ minus 20 ∷ pos 30 ∷ [])
    group

-- one hour of one row: a price, an imbalance, DM
abbrev hour : ℕ → ℤ → ℤ → Tables
hour price volume dm = tables_of (price ∷ []) (volume ∷ []) 1 (dm ∷ []) 0

-- so many rows and no hours, the group asked
abbrev no_hours : ℕ → ℕ → Tables
no_hours rows group = tables_of [] [] rows [] group

-- so many prices, imbalances and DM figures, 1 each, in so many rows
abbrev lengths : ℕ → ℕ → ℕ → ℕ → Tables
lengths prices volumes rows dm =
    tables_of (replicate prices 1) (replicate volumes (pos 1)) rows (replicate dm (pos 1)) 0

pub month_step_figures : List Bool
month_step_figures =
    -- AOSMF over all rows, 5,400 / 20; AEDM of the group asked: -13 + 20 - 25, -9 + 13 - 26
    month_is (of_group 0) 270 (minus 18)
    ∷ month_is (of_group 1) 270 (minus 22)
    -- halves up: 4/3, 3/2, 5/3; a share of 1/4 and of 3/4
    ∷ month_is (tables (1 ∷ 2 ∷ []) (pos 2 ∷ pos 1 ∷ [])) 1 (pos 3)
    ∷ month_is (tables (1 ∷ 2 ∷ []) (pos 1 ∷ pos 1 ∷ [])) 2 (pos 2)
    ∷ month_is (tables (1 ∷ 2 ∷ []) (minus 1 ∷ pos 2 ∷ [])) 2 (pos 1)
    ∷ month_is (tables (1 ∷ 2 ∷ []) (pos 3 ∷ minus 1 ∷ [])) 1 (pos 2)
    ∷ month_is (tables (1 ∷ 2 ∷ []) (pos 1 ∷ minus 3 ∷ [])) 2 (minus 2)
    -- no imbalance in any hour: 0, and DM alone; imbalance less DM, of both signs and at the largest
    ∷ month_is (hour 100 (pos 0) (pos 3)) 0 (minus 3)
    ∷ month_is (hour 100 (pos 0) (minus 3)) 0 (pos 3)
    ∷ month_is (hour 100 (pos 5) (pos 3)) 100 (pos 2)
    ∷ month_is (hour 100 (minus 5) (pos 3)) 100 (minus 8)
    ∷ month_is (hour 1000000 (pos 10000000) (minus 10000000)) 1000000 (pos 20000000)
    ∷ month_is (hour 1000000 (minus 10000000) (pos 10000000)) 1000000 (minus 20000000)
    ∷ month_is (hour 0 (minus 10000000) (pos 0)) 0 (minus 10000000)
    -- no hours: 1 to 64 rows, the group one of them
    ∷ month_is (no_hours 1 0) 0 (pos 0)
    ∷ month_is (no_hours 64 63) 0 (pos 0)
    ∷ month_refused (no_hours 65 0) 12
    ∷ month_refused (no_hours 0 0) 12
    ∷ month_refused (no_hours 1 1) 12
    ∷ month_refused (no_hours 64 64) 12
    ∷ month_refused (of_group 2) 12
    ∷ month_refused (lengths 2 0 0 2) 12
    -- prices to 10^6, first or last hour
    ∷ month_refused (hour 1000001 (pos 1) (pos 0)) 12
    ∷ month_refused (tables (1 ∷ 1000001 ∷ []) (pos 1 ∷ pos 1 ∷ [])) 12
    ∷ month_refused (tables (1000001 ∷ 1 ∷ []) (pos 1 ∷ pos 1 ∷ [])) 12
    -- imbalances and DM within 10^7 either way, first or last
    ∷ month_refused (hour 1 (pos 10000001) (pos 0)) 12
    ∷ month_refused (hour 1 (minus 10000001) (pos 0)) 12
    ∷ month_refused (hour 1 (pos 1) (pos 10000001)) 12
    ∷ month_refused (hour 1 (pos 1) (minus 10000001)) 12
    ∷ month_refused (tables (1 ∷ 1 ∷ []) (pos 1 ∷ minus 10000001 ∷ [])) 12
    ∷ month_refused (tables (1 ∷ 1 ∷ []) (pos 10000001 ∷ pos 1 ∷ [])) 12
    -- lengths: rows × hours imbalances, an hourly DM
    ∷ month_is (lengths 2 6 3 2) 1 (pos 0)
    ∷ month_refused (lengths 2 5 3 2) 11
    ∷ month_refused (lengths 2 7 3 2) 11
    ∷ month_refused (lengths 2 2 3 2) 11
    ∷ month_refused (lengths 2 6 3 1) 11
    ∷ month_refused (lengths 2 6 3 3) 11
    ∷ month_refused (lengths 2 6 3 6) 11
    ∷ month_refused (lengths 2 1 0 2) 11
    ∷ month_refused (lengths 2 3 3 1) 11
    ∷ month_refused (lengths 1 6 3 2) 11
    -- 11 before 12
    ∷ month_refused (lengths 2 65 65 2) 11
    ∷ month_refused (tables (1000001 ∷ []) []) 11
    -- 0 to 745 hours
    ∷ eqb (month_cause (lengths 744 744 1 744)) 0
    ∷ eqb (month_cause (lengths 745 745 1 745)) 0
    ∷ eqb (month_cause (lengths 746 746 1 746)) 11
    ∷ []

pub month_step_figures-hold : every month_step_figures ≡ true
unfolding computed month_step_figures
month_step_figures-hold = refl
