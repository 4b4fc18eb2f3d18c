-- Worked figures of 02, T-01: which entries a sum counts, the lines of months of each length, the totals, the refusals, and the sums over records.
-- Months by the calendar: 0 is January 2000, days 0 to 30; 1 February 2000, 31 to 59; 3 April 2000, 91 to 120; 13 February 2001, 397 to 424;
-- 295 August 2024, 8,979 to 9,009; 1,199 December 2099, 36,494 to 36,524.
use mathlib.Core.Bool.{Bool, true}
use mathlib.Core.List.{List, [], ◌∷◌, ◌++◌, map}
use mathlib.Core.Path.{◌≡◌, refl}
use Prim.Native.Nat.{ℕ, ◌+◌, ◌-◌}
use native.Mathlib.Omega.{arith}
use lib.Dec.{eqb, leb}
use lib.ListN.{replicate, set}
use Rattle.numbers.specs.Tests.{every}
use Rattle.rules.specs.Entry.{Record, key_of, record_of}
use Rattle.rules.specs.Words.{used_words}
use Rattle.rules.specs.MonthReport.{report_types, line_sums, line_place, report_figures, reported, day_sum, month_total, day_line, day_lines, total_line, month_report}
use Rattle.rules.specs.MonthTotals.{chosen, amounts, of_month, export_of, purchases, total_in}
use Rattle.rules.specs.declared.MonthReport.{MonthReport}
use Rattle.rules.proofs.MonthTotalsLaws.{bilateral-total}
use Rattle.rules.proofs.Worked.{same_numbers, computed}

-- the types in the order of a line
abbrev types : List ℕ
types = 1 ∷ 2 ∷ 3 ∷ 4 ∷ 5 ∷ 6 ∷ 7 ∷ 8 ∷ 9 ∷ 10 ∷ 11 ∷ 12 ∷ 13 ∷ 14 ∷ 15 ∷ 16 ∷ 17 ∷ 18 ∷ 19 ∷ 20 ∷ 22 ∷ []

abbrev book_of : List Record → List ℕ
book_of rs = used_words 110 600000 rs

-- a standing entry of party 1 for no counterparty; a sale
abbrev of : ℕ → ℕ → ℕ → Record
of d t a = record_of (key_of 1 d t 0) 0 a

abbrev sale : ℕ → ℕ → ℕ → ℕ → Record
sale p d c a = record_of (key_of p d 6 c) 0 a

-- day 9,000: each type once, 2, 4, 8 .. 2^21, and the line of these sums
abbrev powers : List ℕ
powers = 2 ∷ 4 ∷ 8 ∷ 16 ∷ 32 ∷ 64 ∷ 128 ∷ 256 ∷ 512 ∷ 1024 ∷ 2048 ∷ 4096 ∷ 8192 ∷ 16384 ∷ 32768 ∷ 65536 ∷ 131072 ∷ 262144 ∷ 524288 ∷ 1048576 ∷ 2097152 ∷ []

abbrev each : List ℕ → List ℕ → List Record
each [] xs = []
each (t ∷ ts) [] = []
each (t ∷ ts) (x ∷ xs) = of 9000 t x ∷ each ts xs

-- day 9,000: what counts nowhere. Withdrawn entries, an export among them, withdrawn and cancelled sales, the mark
abbrev nowhere : List Record
nowhere =
    record_of (key_of 1 9000 1 0) 1 10000000
    ∷ record_of (key_of 1 9000 6 0) 1 20000000
    ∷ record_of (key_of 1 9000 6 2) 1 30000000
    ∷ record_of (key_of 1 9000 6 2) 2 40000000
    ∷ record_of (key_of 1 9000 20 0) 1 50000000
    ∷ record_of (key_of 1 9000 22 0) 1 60000000
    ∷ record_of (key_of 0 9000 21 0) 0 0
    ∷ []

-- four days: the last before a month, its first, its last, the first after it
abbrev beside : ℕ → ℕ → List Record
beside first last = of (first - 1) 1 1 ∷ of first 1 10 ∷ of last 1 100 ∷ of (last + 1) 1 1000 ∷ []

abbrev totals_are : List Record → List ℕ → List ℕ → Bool
totals_are rs ms sums = same_numbers (map (λ m. month_total rs m 1) ms) sums

abbrev report_is : List ℕ → ℕ → ℕ → ℕ → ℕ → ℕ → List ℕ → Bool
report_is ws m answer month first days figures =
    let r : MonthReport = month_report ws m in
    every
    (eqb r.answer answer
    ∷ eqb r.month month
    ∷ eqb r.first_day first
    ∷ eqb r.days days
    ∷ same_numbers r.lines figures
    ∷ [])

-- a report that is done: the lines from the first day's to that of the totals, and zeros past it
abbrev report_on : List Record → ℕ → ℕ → ℕ → List ℕ → Bool
report_on rs m first days figures = report_is (book_of rs) m 0 m first days figures

abbrev report_refused : List ℕ → ℕ → ℕ → Bool
report_refused ws m cause = report_is ws m cause 0 0 0 (replicate 672 0)

-- a month's first day: 5 of money, an export of 3 and a sale of 4; its last day: an update of 7
abbrev at_ends : ℕ → ℕ → List Record
at_ends first last = of last 22 7 ∷ of first 20 5 ∷ of first 6 3 ∷ sale 999 first 1 4 ∷ []

-- the lines of the first day and of the last, and that of the totals
abbrev first_line : List ℕ
first_line = replicate 5 0 ++ (7 ∷ []) ++ replicate 13 0 ++ (5 ∷ 0 ∷ [])

abbrev last_line : List ℕ
last_line = replicate 20 0 ++ (7 ∷ [])

abbrev both_lines : List ℕ
both_lines = replicate 5 0 ++ (7 ∷ []) ++ replicate 13 0 ++ (5 ∷ 7 ∷ [])

-- what is no book: R out of range
abbrev no_book : List ℕ
no_book = set (book_of (at_ends 397 424)) 1 0x700003E9

pub month_report_figures : List Bool
month_report_figures =
    -- the order of a line, the place of each type; 32 lines of 21
    same_numbers report_types types
    ∷ eqb line_sums 21
    ∷ eqb report_figures 672
    ∷ same_numbers (map line_place types) (0 ∷ 1 ∷ 2 ∷ 3 ∷ 4 ∷ 5 ∷ 6 ∷ 7 ∷ 8 ∷ 9 ∷ 10 ∷ 11 ∷ 12 ∷ 13 ∷ 14 ∷ 15 ∷ 16 ∷ 17 ∷ 18 ∷ 19 ∷ 20 ∷ [])
    -- a record counts on its day and in its type; an export and a sale alike
    ∷ same_numbers (map (λ d. reported d 12 (of 9000 12 7)) (8999 ∷ 9000 ∷ 9001 ∷ [])) (0 ∷ 7 ∷ 0 ∷ [])
    ∷ same_numbers (map (λ t. reported 9000 t (of 9000 12 7)) (11 ∷ 12 ∷ 13 ∷ 22 ∷ [])) (0 ∷ 7 ∷ 0 ∷ 0 ∷ [])
    ∷ same_numbers (map (reported 9000 6) (of 9000 6 8 ∷ sale 3 9000 2 9 ∷ [])) (8 ∷ 9 ∷ [])
    ∷ same_numbers (map (reported 9000 6) nowhere) (replicate 7 0)
    -- the sum of a day over all parties: 1, 20 and 999; an export of 30 beside sales of 5 and 6
    ∷ eqb (day_sum (of 9000 3 100 ∷ record_of (key_of 20 9000 3 0) 0 20 ∷ record_of (key_of 999 9000 3 0) 0 3 ∷ []) 9000 3) 123
    ∷ eqb (day_sum (of 9000 6 30 ∷ sale 3 9000 2 5 ∷ sale 999 9000 1 6 ∷ []) 9000 6) 41
    -- a day's line, and the line of a day beside it
    ∷ same_numbers (day_line (each types powers ++ nowhere) 9000) powers
    ∷ same_numbers (day_line (nowhere ++ each types powers) 9001) (replicate 21 0)
    ∷ same_numbers (day_lines (of 9000 1 5 ∷ of 9001 22 6 ∷ of 9002 2 7 ∷ []) 2 9000) ((5 ∷ []) ++ replicate 40 0 ++ (6 ∷ []))
    ∷ same_numbers (day_lines (of 9000 1 5 ∷ []) 0 9000) []
    -- months of 28, 29, 30 and 31 days, the first and the last month, and the months beside them
    ∷ totals_are (beside 397 424) (12 ∷ 13 ∷ 14 ∷ []) (1 ∷ 110 ∷ 1000 ∷ [])
    ∷ totals_are (beside 31 59) (0 ∷ 1 ∷ 2 ∷ []) (1 ∷ 110 ∷ 1000 ∷ [])
    ∷ totals_are (beside 91 120) (2 ∷ 3 ∷ 4 ∷ []) (1 ∷ 110 ∷ 1000 ∷ [])
    ∷ totals_are (beside 8979 9009) (294 ∷ 295 ∷ 296 ∷ []) (1 ∷ 110 ∷ 1000 ∷ [])
    ∷ totals_are (of 0 1 10 ∷ of 30 1 100 ∷ of 31 1 1000 ∷ []) (0 ∷ 1 ∷ []) (110 ∷ 1000 ∷ [])
    ∷ totals_are (of 36493 1 1 ∷ of 36494 1 10 ∷ of 36524 1 100 ∷ []) (1198 ∷ 1199 ∷ []) (1 ∷ 110 ∷ [])
    -- totals of several days
    ∷ same_numbers (total_line (at_ends 8979 9009 ++ at_ends 8980 9010) 295) (replicate 5 0 ++ (14 ∷ []) ++ replicate 13 0 ++ (10 ∷ 7 ∷ []))
    -- whole reports: day 9,000 is line 21 of month 295, so 441 zeros stand before it and 9 lines, 189 figures, after it; all types
    ∷ report_on (each types powers) 295 8979 31 (replicate 441 0 ++ powers ++ replicate 189 0 ++ powers)
    -- the first and the last line, 26 to 29 lines between them; past the totals 3, 2, 1 and no lines
    ∷ report_on (at_ends 397 424) 13 397 28 (first_line ++ replicate 546 0 ++ last_line ++ both_lines ++ replicate 63 0)
    ∷ report_on (at_ends 31 59) 1 31 29 (first_line ++ replicate 567 0 ++ last_line ++ both_lines ++ replicate 42 0)
    ∷ report_on (at_ends 91 120) 3 91 30 (first_line ++ replicate 588 0 ++ last_line ++ both_lines ++ replicate 21 0)
    ∷ report_on (at_ends 0 30) 0 0 31 (first_line ++ replicate 609 0 ++ last_line ++ both_lines)
    ∷ report_on (at_ends 36494 36524) 1199 36494 31 (first_line ++ replicate 609 0 ++ last_line ++ both_lines)
    -- the months beside: nothing in them
    ∷ report_on (at_ends 397 424) 12 366 31 (replicate 672 0)
    ∷ report_on (at_ends 397 424) 14 425 31 (replicate 672 0)
    -- the largest amounts: 10^13 of money twice, 10^9 of an update
    ∷ report_on (of 30 17 10000000000000 ∷ of 30 17 10000000000000 ∷ of 30 22 1000000000 ∷ []) 0 0 31 (replicate 646 0 ++ (20000000000000 ∷ []) ++ replicate 3 0 ++ (1000000000 ∷ []) ++ replicate 16 0 ++ (20000000000000 ∷ []) ++ replicate 3 0 ++ (1000000000 ∷ []))
    -- a book without entries
    ∷ report_on [] 13 397 28 (replicate 672 0)
    ∷ report_on [] 1199 36494 31 (replicate 672 0)
    -- refusals: 12 past the last month; 1 for what is no book, before 12
    ∷ report_refused (book_of (at_ends 36494 36524)) 1200 12
    ∷ report_refused (book_of []) 4294967295 12
    ∷ report_refused no_book 13 1
    ∷ report_refused no_book 1200 1
    ∷ report_refused [] 0 1
    ∷ []

pub month_report_figures-hold : every month_report_figures ≡ true
unfolding computed month_report_figures
month_report_figures-hold = refl

-- month 13: purchases 50 of party 1, 7 + 300 of 999; exports 2,000 and 40,000. The others count in neither:
-- a withdrawn and a cancelled sale, a withdrawn export, sales and an export of the days beside the month, another type
abbrev sales : List Record
sales =
    sale 2 397 1 50
    ∷ sale 1 424 999 7
    ∷ sale 3 410 999 300
    ∷ of 424 6 2000
    ∷ sale 999 397 0 40000
    ∷ record_of (key_of 1 400 6 2) 1 500000
    ∷ record_of (key_of 1 400 6 2) 2 600000
    ∷ record_of (key_of 1 410 6 0) 1 700000
    ∷ sale 1 396 2 800000
    ∷ sale 1 425 2 900000
    ∷ sale 1 425 0 1000000
    ∷ of 410 12 5
    ∷ of 410 22 6
    ∷ []

abbrev amounts_of : List Record → List ℕ
amounts_of rs = map (λ r. r.amount) rs

abbrev totals_in : List Record → ℕ → List ℕ
totals_in rs m = map (total_in (month_report (book_of rs) m)) types

pub month_totals_figures : List Bool
month_totals_figures =
    -- the records of a test in order, and their amounts together
    same_numbers (amounts_of (chosen (λ r. eqb r.amount 5) [])) []
    ∷ same_numbers (amounts_of (chosen (λ r. leb r.amount 300) sales)) (50 ∷ 7 ∷ 300 ∷ 5 ∷ 6 ∷ [])
    ∷ eqb (amounts []) 0
    ∷ eqb (amounts (of 0 1 5 ∷ record_of (key_of 1 400 6 2) 1 70 ∷ of 9 22 600 ∷ [])) 675
    -- standing records of a type and month; standing exports of a month
    ∷ same_numbers (amounts_of (chosen (of_month 13 6) sales)) (50 ∷ 7 ∷ 300 ∷ 2000 ∷ 40000 ∷ [])
    ∷ same_numbers (amounts_of (chosen (of_month 12 6) sales)) (800000 ∷ [])
    ∷ same_numbers (amounts_of (chosen (of_month 14 6) sales)) (900000 ∷ 1000000 ∷ [])
    ∷ same_numbers (amounts_of (chosen (of_month 13 12) sales)) (5 ∷ [])
    ∷ same_numbers (amounts_of (chosen (of_month 13 22) sales)) (6 ∷ [])
    ∷ same_numbers (amounts_of (chosen (export_of 13) sales)) (2000 ∷ 40000 ∷ [])
    ∷ same_numbers (amounts_of (chosen (export_of 12) sales)) []
    ∷ same_numbers (amounts_of (chosen (export_of 14) sales)) (1000000 ∷ [])
    -- the total of each type: of type 6 the purchases, 357, and the exports, 42,000
    ∷ same_numbers (totals_in sales 13) (replicate 5 0 ++ (42357 ∷ []) ++ replicate 5 0 ++ (5 ∷ []) ++ replicate 8 0 ++ (6 ∷ []))
    ∷ []

pub month_totals_figures-hold : every month_totals_figures ≡ true
unfolding computed month_totals_figures
month_totals_figures-hold = refl

-- B of 999 parties on 28 days, by the law: computed it would take seconds
pub purchases-figure : purchases (book_of sales) 13 ≡ 357
unfolding computed
purchases-figure =
    let e : 42357 ≡ purchases (book_of sales) 13 + 42000 = bilateral-total 13 (omega arith) (book_of sales) refl in
    omega arith
