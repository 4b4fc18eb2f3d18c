-- The money of one party on the 30 days before day g, as a table of 30 days × 4 types: cell 4 × i + j is the sum of type 17 + j on day g − 1 − i.
-- For this crate's own functions: the law `window-debts` ties it to the sums of document 01.
use Rattle.std.specs.Prelude.{Bool, cond, List, [], ◌∷◌, ℕ, ◌+◌, ◌-◌, ◌*◌, eqb, leb, ltb, get_or}
use Rattle.numbers.specs.Tests.{every}
use Rattle.rules.specs.Entry.{Label, Record, is_money, standing, most_money}
use Rattle.rules.specs.Words.{most_entries}
use Rattle.rules.specs.Collateral.{Money}
use Rattle.cells.specs.Cells.{Cells, one_if, filled}

abbrev pub window_days : ℕ
window_days = 30

abbrev pub cell_count : ℕ
cell_count = 120

-- standing money entries of the party on a day of the window
abbrev pub in_window : ℕ → ℕ → Label → Bool
in_window p g l =
    every
    (eqb l.key.party p
    ∷ eqb l.status standing
    ∷ is_money l.key.type
    ∷ ltb l.key.day g
    ∷ leb g (l.key.day + window_days)
    ∷ [])

-- the cell that an entry counts in, past the table for one that does not count
unfoldable pub cell_of : ℕ → ℕ → Label → ℕ
cell_of p g l = cond (in_window p g l) (4 * (g - 1 - l.key.day) + (l.key.type - 17)) cell_count

abbrev pub window_cells : ℕ → ℕ → Cells
window_cells p g l = one_if (ltb (cell_of p g l) cell_count) (cell_of p g l)

unfoldable pub window_of : ℕ → ℕ → List Record → List ℕ
window_of p g rs = filled (window_cells p g) cell_count rs

-- what a table holds, by day and type
abbrev pub money_in : List ℕ → ℕ → Money
money_in cells g = λ d t. get_or cells (4 * (g - 1 - d) + (t - 17)) 0

-- what no cell of a full book is above
abbrev pub most_in_cell : ℕ
most_in_cell = most_entries * most_money
