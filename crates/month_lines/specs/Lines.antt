-- The table of months as text (02, T-08).
use Rattle.std.specs.Prelude.{List, [], ◌∷◌, ◌++◌, ℕ, suc}
use Rattle.calendar.specs.Calendar.{months, month_start}
use Rattle.text.specs.Text.{decimal, each_from}

-- the first day of a month in decimal digits, and a line's end
unfoldable pub entry_line : ℕ → List ℕ
entry_line m = decimal (month_start m) ++ (10 ∷ [])

-- a line for each month, and one for the end entry
unfoldable pub table_text : List ℕ
table_text = each_from entry_line (suc months) 0
