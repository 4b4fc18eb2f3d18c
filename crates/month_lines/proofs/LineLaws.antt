-- The table of months as text: how long it is, and that it is the text of the constant table. Assumes nothing.
use mathlib.Core.Path.{◌≡◌, refl, sym, ap}
use mathlib.Core.List.{[], ◌∷◌, ◌++◌}
use Prim.Native.Nat.{ℕ, ◌≤◌}
use native.Mathlib.Omega.{arith}
use lib.ListN.{length, get_or, length-append}
use Rattle.calendar.specs.Calendar.{months, month_start, month_length, days_in, is_leap}
use Rattle.calendar.proofs.MonthLaws.{start-mono, start-end}
use Rattle.calendar.proofs.MonthTable.{table, table_at}
use Rattle.text.specs.Text.{digits, decimal, each_from}
use Rattle.text.proofs.TextLaws.{decimal-below, each_same, each-most}
use Rattle.month_lines.specs.Lines.{entry_line, table_text}

-- five digits and a line's end
line-most : (m : ℕ) → m ≤ months → length (entry_line m) ≤ 6
unfolding entry_line
line-most m h =
    simp length-append (omega (arith, decimal-below 4 (month_start m) (omega (arith, start-mono m months h, start-end))))

pub table_fits : length table_text ≤ 7206
unfolding table_text
table_fits = each-most entry_line 6 1201 0 (λ m h. line-most m (omega arith))

-- what is printed is the constant table, entry by entry, and no entry more
pub text-of-table : table_text ≡ each_from (λ k. decimal (get_or table k 0) ++ (10 ∷ [])) (length table) 0
unfolding table_text entry_line table
text-of-table = each_same _ _ 1201 0 (λ k h. ap (λ d. decimal d ++ (10 ∷ [])) (sym (table_at k (omega arith))))

-- figures: March 2000 begins on day 60, the end entry is 36525
pub line_of-march-2000 : entry_line 2 ≡ 54 ∷ 48 ∷ 10 ∷ []
unfolding entry_line decimal digits month_start month_length days_in is_leap
line_of-march-2000 = refl

pub line_of-the-end : entry_line months ≡ 51 ∷ 54 ∷ 53 ∷ 50 ∷ 53 ∷ 10 ∷ []
unfolding entry_line decimal digits month_start month_length days_in is_leap
line_of-the-end = refl
