-- The starred lines of 01 ('Figures to hold it to') as one list, proved by one computed test, and two further lists of what those let pass.
use mathlib.Core.Bool.{Bool, true, false, not}
use mathlib.Core.List.{List, [], ◌∷◌}
use mathlib.Core.Path.{◌≡◌, refl}
use lib.Dec.{eqb}
use lib.IntN.{pos}
use lib.ListN.{take}
use Rattle.numbers.specs.Tests.{every}
use Rattle.calendar.specs.Calendar.{date_of}
use Rattle.rules.specs.Entry.{key_of}
use Rattle.rules.specs.Balance.{day_ahead, delivery, balance_answer}
use Rattle.rules.specs.Month.{month_answer}
use Rattle.rules.specs.Collateral.{collateral_answer}
use Rattle.case_figures.specs.CaseFigures.{no_month, with_nonbusiness, with_holiday, with_defaults, with_responsible, with_months, with_used, with_rk, with_rt}
use Rattle.rules.specs.DayFile.{file_names}
use Rattle.rules.specs.Calls.{control_answer}
use Rattle.rules.specs.Ledger.{post, withdraw}
use Rattle.rules.proofs.Worked.{post_cause, withdraw_cause, control_cause, control_words, minus, is_signed, is_date, book, default_book, own, on, sold, balance_is, both_are, acquired_is, case, generator, margin_is, imbalance_is, yek_is, trading_is, tables, price_is, recordable_is, nets, short, two_rows, wild, dear, total_is, sample, empty_blocks, file_is, file_balance_is, status_is, august, september, one_day, computed}

-- where a line names no tolerance, R is 110 and TM 600,000, named at opening (02, T-12)
pub starred : List Bool
starred =
    both_are [] (minus 60000000) false
    ∷ both_are (own 1 600000 ∷ []) (pos 0) false
    ∷ both_are (own 1 600001 ∷ []) (pos 100) true
    ∷ acquired_is (own 15 300000 ∷ own 16 200000 ∷ []) 300000
    ∷ margin_is (generator 49999) 1000000
    ∷ margin_is (generator 50000) 1000000
    ∷ margin_is (generator 50001) 1000020
    ∷ margin_is (generator 1000001) 20000000
    ∷ price_is (tables (100 ∷ 101 ∷ []) (minus 1 ∷ minus 1 ∷ [])) 101
    ∷ price_is (tables [] []) 0
    ∷ imbalance_is (with_rk (with_used (with_months case (short ∷ no_month ∷ no_month ∷ [])) 1) 110) 385193
    ∷ trading_is nets (with_defaults case 1) 1050
    ∷ yek_is 1000 3 1 667
    ∷ yek_is 1000 3 3 200
    ∷ recordable_is 26000 16000 666 1000 1
    ∷ recordable_is 26001 16000 666 1000 0
    ∷ is_date (date_of 59) 2000 2 29
    ∷ []

pub starred-hold : every starred ≡ true
unfolding computed starred
starred-hold = refl

pub further : List Bool
further =
    -- weights that are unequal: (3 × 100 + 1 × 200) / 4; halves up; two rows; the group asked
    price_is (tables (100 ∷ 200 ∷ []) (minus 3 ∷ pos 1 ∷ [])) 125
    ∷ price_is (tables (1 ∷ 2 ∷ []) (pos 1 ∷ minus 3 ∷ [])) 2
    ∷ price_is (tables (1 ∷ 2 ∷ []) (pos 3 ∷ minus 1 ∷ [])) 1
    ∷ is_signed (month_answer two_rows).month.aedm (minus 12)
    ∷ eqb (month_answer two_rows).month.aosmf 18
    -- a month of no imbalance
    ∷ price_is (tables (100 ∷ 200 ∷ []) (pos 0 ∷ pos 0 ∷ [])) 0
    -- an import above the tender
    ∷ acquired_is (own 15 200000 ∷ own 16 300000 ∷ []) 300000
    -- an export beside a bilateral sale
    ∷ both_are (sold 1 9000 2 700000 ∷ own 6 500000 ∷ []) (pos 10000000) true
    -- intraday sales and purchases count in the delivery balance alone
    ∷ balance_is day_ahead (own 2 900000 ∷ own 5 100000 ∷ []) (minus 60000000) false
    ∷ balance_is delivery (own 2 900000 ∷ own 5 100000 ∷ []) (pos 40000000) true
    ∷ balance_is day_ahead (own 8 900000 ∷ own 11 100000 ∷ []) (minus 60000000) false
    ∷ balance_is delivery (own 8 900000 ∷ own 11 100000 ∷ []) (minus 110000000) false
    -- tolerance against cover: 600,000 × 1.10, one kWh above it; other parties, days and money count nowhere
    ∷ both_are (own 12 600000 ∷ own 1 660001 ∷ []) (pos 100) true
    ∷ both_are (own 12 600000 ∷ own 1 660000 ∷ on 8999 1 9 ∷ post (key_of 2 9000 1 0) 9 ∷ own 17 9 ∷ []) (pos 0) false
    -- a withdrawn entry
    ∷ both_are (own 1 700000 ∷ withdraw 0 ∷ []) (minus 60000000) false
    -- k above 3 with and without a holiday; k of 3 before a holiday; a day whose money nets to 0 is chosen; both markets
    ∷ trading_is nets (with_nonbusiness case 3) 6000
    ∷ trading_is nets (with_holiday (with_nonbusiness case 3) 1) 4500
    ∷ trading_is nets (with_holiday (with_nonbusiness case 2) 1) 1000
    ∷ trading_is (on 8999 17 50 ∷ on 8999 18 50 ∷ nets) (with_nonbusiness case 3) 6000
    ∷ trading_is (on 8999 17 0 ∷ on 8998 17 40 ∷ on 8998 20 50 ∷ on 8998 19 20 ∷ []) case 10
    ∷ trading_is (on 8970 17 80 ∷ on 8969 17 800 ∷ on 9000 17 8000 ∷ []) case 80
    -- a day that one market chose and the other did not: only its money counts there
    ∷ trading_is (on 8999 19 1 ∷ on 8998 19 1 ∷ on 8997 19 1 ∷ on 8996 17 100 ∷ on 8996 20 40 ∷ []) case 103
    -- rounding up, and default days
    ∷ trading_is (on 8999 17 1 ∷ []) (with_defaults case 1) 2
    -- a month answer that is not used may be out of range; the highest price and the lowest volume of two months
    ∷ imbalance_is (with_rk (with_used (with_months case (short ∷ wild ∷ no_month ∷ [])) 1) 110) 385193
    ∷ eqb (collateral_answer (book []) (with_used (with_months case (short ∷ wild ∷ no_month ∷ [])) 2)).answer 12
    ∷ imbalance_is (with_rk (with_used (with_months case (short ∷ dear ∷ no_month ∷ [])) 2) 100) 400200
    -- a first-month party; a month that is not short; a party not responsible for its group
    ∷ imbalance_is (with_rk (with_months case (short ∷ short ∷ short ∷ [])) 110) 0
    ∷ imbalance_is (with_rk (with_used (with_months case (dear ∷ no_month ∷ no_month ∷ [])) 1) 110) 0
    ∷ total_is (with_responsible (with_rt (with_rk (with_used (with_months case (short ∷ no_month ∷ no_month ∷ [])) 1) 110) 77) 0) 20000000
    ∷ total_is (with_rt (with_rk (with_used (with_months case (short ∷ no_month ∷ no_month ∷ [])) 1) 110) 77) 20385270
    -- no consent, T = 0
    ∷ yek_is 1000 10000 0 1000
    -- days without lines
    ∷ file_is (empty_blocks 0x10000005 0x20002328) 0 0
    ∷ file_names (empty_blocks 0x10000005 0x20002328) 5 9000
    ∷ not (file_names (empty_blocks 0x10000005 0x20002328) 5 9001)
    ∷ file_is (empty_blocks 0x10000000 0x20002328) 3 0
    ∷ file_is (empty_blocks 0x10000005 0x20008EAD) 4 0
    ∷ file_is [] 0 0
    -- the sample of 01; its counterparty is named; a file one word short
    ∷ file_is sample 0 2
    -- in a book opened without figures: 70,000,000 - 105 × 500,000, and - 105 × 700,000 (02, T-12)
    ∷ file_balance_is default_book sample 1 (pos 17500000)
    ∷ file_balance_is default_book sample 2 (minus 73500000)
    -- in one opened with 110 and 600,000: 70,000,000 - 60,000,000, and - 110 × 700,000
    ∷ file_balance_is (book []) sample 1 (pos 10000000)
    ∷ file_balance_is (book []) sample 2 (minus 77000000)
    ∷ file_names sample 2 9000
    ∷ file_is (take 28 sample) 2 0
    ∷ is_date (date_of 36524) 2099 12 31
    ∷ is_date (date_of 9000) 2024 8 22
    ∷ []

pub further-hold : every further ≡ true
unfolding computed further
further-hold = refl

pub further_controls : List Bool
further_controls =
    -- control: a buyer's lost purchase is not counted inside the first pass; a repeated pair, and what a control of it counts; another month
    status_is one_day 0 2
    ∷ status_is one_day 1 0
    ∷ eqb (control_answer august 9000).second 1
    ∷ eqb (control_answer august 9000).cancelled 2
    ∷ status_is (control_words august 9000) 3 2
    ∷ status_is (control_words september 9000) 3 0
    -- a closed day takes no bilateral sale and gives none back; an export goes on
    ∷ eqb (post_cause one_day (key_of 4 9000 6 5) 1) 8
    ∷ eqb (post_cause one_day (key_of 4 9000 6 0) 1) 0
    ∷ eqb (withdraw_cause one_day 1) 8
    ∷ eqb (withdraw_cause one_day 0) 10
    ∷ eqb (control_cause one_day 9000) 8
    -- a cancelled sale counts nowhere, and the buyer's purchase goes with it
    ∷ is_signed (balance_answer day_ahead one_day 1 9000).balance (minus 60000000)
    ∷ is_signed (balance_answer day_ahead one_day 2 9000).balance (pos 17000000)
    ∷ []

pub further_controls-hold : every further_controls ≡ true
unfolding computed further_controls
further_controls-hold = refl
