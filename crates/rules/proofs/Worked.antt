-- What the worked figures are written with: books made by opening and posting, tables, cases, files, and the functions that they compute with.
-- Every figure comes from the functions that the contracts cite.
use mathlib.Core.Bool.{Bool, true, false, ◌&&◌, beq}
use mathlib.Core.List.{List, [], ◌∷◌, ◌++◌}
use Prim.Native.Nat.{ℕ, ◌/◌, ◌%◌}
use lib.Dec.{eqb}
use lib.IntN.{ℤ, pos, neg_ℤ}
use lib.ListN.{length, replicate}
use lib.Signed.{le_z}
use Rattle.numbers.specs.Sums.{sum, total, count, count_below}
use Rattle.numbers.specs.Tests.{every, all, any}
use Rattle.numbers.specs.Rounding.{half_up, round_up}
use Rattle.numbers.specs.Signed.{sum_ℤ}
use Rattle.calendar.specs.Calendar.{Date, date_of, month_of, month_from, month_start, month_length, days_in, leap_days, is_leap}
use Rattle.rules.specs.Entry.{Key, key_of, status_where, counterparty_ok, amount_limit, fault, mark_ok, status_ok, legal}
use Rattle.rules.specs.Words.{encode, decode, entry_ok, entries_ok, read_entries, is_book, entries, encode_all, used_words, laid}
use Rattle.rules.specs.Book.{open_cause, open_words, open_default_words, is_closed, shut_to, post_refusal, entry_at, withdraw_refusal, withdrawn_at}
use Rattle.rules.specs.Balance.{Volume, day_ahead, delivery, counted, counted_to, sum_of, bought_by, tally_of, acquired, program_used, sale_side, cover_side, balance_of, balance, is_detected, party_day_cause, balance_answer, tally_answer}
use Rattle.rules.specs.Month.{Tables, month_cause, weighted_prices, weights, aosmf, aedm, month_figures, month_answer}
use Rattle.rules.specs.Collateral.{generation_margin, margin, trading_days, debt_of, debts, debt, quarters, trading, highest_price, lowest_volume, imbalance_over, imbalance, risk, yek, total_of, month_ok, figures_ok, collateral_cause, collateral_of, collateral_answer}
use Rattle.case_figures.specs.CaseFigures.{plain_case, with_party, with_day, with_licence, with_capacity, with_yt, with_score, with_best}
use Rattle.rules.specs.Ceiling.{is_recordable, ceiling_cause, ceiling_answer}
use Rattle.rules.specs.FirstDay.{first_day_cause, first_day_answer}
use Rattle.rules.specs.MonthReport.{reported, day_sum, month_total, day_line, day_lines, total_line, report_lines, month_report_cause, report_of, refused_report, month_report}
use Rattle.rules.specs.MonthTotals.{chosen, amounts, of_month, export_of}
use Rattle.rules.specs.Control.{detected_in, is_to_cancel, cancel_of, is_repeated_buyer, first_pass, after_first, second_pass, after_second, mark_of, control_refusal, controlled_records, detected_parties, cancelled_entries}
use Rattle.rules.specs.DayFile.{words_of, is_shaped, is_file, items_from, items, item_cause, lines_of, file_refusal, item_names, file_names}
use Rattle.rules.specs.Machine.{leaves_of, figures_of, after, answers}
use Rattle.rules.specs.Calls.{refusal, figures_on, changed, cause_of, figures_at, words_after, control_answer, file_answer}
use Rattle.rules.specs.Calls as calls
use Rattle.rules.specs.Ledger.{Call, post, book_after, book_answers}
use Rattle.case_figures.specs.declared.Month.{Month}
use Rattle.case_figures.specs.declared.Case.{Case}

abbrev pub minus : ℕ → ℤ
minus n = neg_ℤ (pos n)

abbrev pub is_signed : ℤ → ℤ → Bool
is_signed a b = le_z a b && le_z b a

abbrev pub is_date : Date → ℕ → ℕ → ℕ → Bool
is_date t y m d = every (eqb t.year y ∷ eqb t.month m ∷ eqb t.day d ∷ [])

-- two lists of numbers are equal, place by place and in length
abbrev pub same_numbers : List ℕ → List ℕ → Bool
same_numbers [] [] = true
same_numbers [] (y ∷ ys) = false
same_numbers (x ∷ xs) [] = false
same_numbers (x ∷ xs) (y ∷ ys) = eqb x y && same_numbers xs ys

-- a book for ten entries with R 110 and TM 600,000, after these calls
abbrev pub book : List Call → List ℕ
book cs = book_after (open_words (replicate 53 0) 110 600000) cs

-- a book for ten entries, opened without figures
abbrev pub default_book : List ℕ
default_book = open_default_words (replicate 53 0)

-- the cause of each call, and the words that it leaves
abbrev pub post_cause : List ℕ → Key → ℕ → ℕ
post_cause ws k a = cause_of ws (calls.post k a)

abbrev pub post_words : List ℕ → Key → ℕ → List ℕ
post_words ws k a = words_after ws (calls.post k a)

abbrev pub withdraw_cause : List ℕ → ℕ → ℕ
withdraw_cause ws n = cause_of ws (calls.withdraw n)

abbrev pub withdraw_words : List ℕ → ℕ → List ℕ
withdraw_words ws n = words_after ws (calls.withdraw n)

abbrev pub control_cause : List ℕ → ℕ → ℕ
control_cause ws d = cause_of ws (calls.control d)

abbrev pub control_words : List ℕ → ℕ → List ℕ
control_words ws d = words_after ws (calls.control d)

abbrev pub file_words : List ℕ → List ℕ → List ℕ
file_words ws bs = words_after ws (calls.file bs)

-- posts of party 1 on day 9,000, and on another day
abbrev pub own : ℕ → ℕ → Call
own t a = post (key_of 1 9000 t 0) a

abbrev pub on : ℕ → ℕ → ℕ → Call
on d t a = post (key_of 1 d t 0) a

abbrev pub sold : ℕ → ℕ → ℕ → ℕ → Call
sold p d c a = post (key_of p d 6 c) a

-- party 1's balance of day 9,000 is z, and it is detected or clear
abbrev pub balance_is : Volume → List Call → ℤ → Bool → Bool
balance_is v cs z detected =
    every
    (eqb (balance_answer v (book cs) 1 9000).answer 0
    ∷ is_signed (balance_answer v (book cs) 1 9000).balance z
    ∷ beq (is_detected (balance_answer v (book cs) 1 9000).balance) detected
    ∷ [])

abbrev pub both_are : List Call → ℤ → Bool → Bool
both_are cs z detected = balance_is day_ahead cs z detected && balance_is delivery cs z detected

abbrev pub acquired_is : List Call → ℕ → Bool
acquired_is cs a = eqb (acquired (tally_answer (book cs) 1 9000).tally (tally_answer (book cs) 1 9000).bought) a

-- party 1's cases of day 9,000
abbrev pub case : Case
case = with_day (with_party plain_case 1) 9000

abbrev pub generator : ℕ → Case
generator capacity = with_capacity (with_licence case 2) capacity

abbrev pub margin_is : Case → ℕ → Bool
margin_is c a = eqb (collateral_answer (book []) c).margin a

abbrev pub imbalance_is : Case → ℕ → Bool
imbalance_is c a = eqb (collateral_answer (book []) c).imbalance a

abbrev pub yek_is : ℕ → ℕ → ℕ → ℕ → Bool
yek_is yt best score a =
    eqb (collateral_answer (book []) (with_score (with_best (with_yt case yt) best) score)).yek a

abbrev pub trading_is : List Call → Case → ℕ → Bool
trading_is cs c a = eqb (collateral_answer (book cs) c).trading a

-- one row of imbalances and no secondary control
abbrev pub tables : List ℕ → List ℤ → Tables
tables prices volumes =
    record { prices = prices; imbalance = volumes; rows = 1; dm = replicate (length prices) (pos 0); group = 0 }

abbrev pub price_is : Tables → ℕ → Bool
price_is m a = eqb (month_answer m).answer 0 && eqb (month_answer m).month.aosmf a

abbrev pub recordable_is : ℕ → ℕ → ℕ → ℕ → ℕ → Bool
recordable_is O N F G a = eqb (ceiling_answer O N F G).answer 0 && eqb (ceiling_answer O N F G).recordable a

-- nets 900, -500, 100 on g - 1, -2, -3, and 5,000 on g - 4
abbrev pub nets : List Call
nets = on 8999 17 900 ∷ on 8998 18 500 ∷ on 8997 17 100 ∷ on 8996 17 5000 ∷ []

abbrev pub short : Month
short = record { aosmf = 175000; aedm = minus 2001 }

-- two rows of two hours; group 1 is asked: (5 - 10) + (-5 - 2)
abbrev pub two_rows : Tables
two_rows =
    record {
      prices = 10 ∷ 20 ∷ [];
      imbalance = pos 0 ∷ minus 10 ∷ pos 5 ∷ minus 5 ∷ [];
      rows = 2;
      dm = pos 10 ∷ pos 2 ∷ [];
      group = 1;
    }

-- out of range; dear, and long
abbrev pub wild : Month
wild = record { aosmf = 1000001; aedm = pos 0 }

abbrev pub dear : Month
dear = record { aosmf = 200000; aedm = pos 5 }

abbrev pub total_is : Case → ℕ → Bool
total_is c a = eqb (collateral_answer (book []) c).total a

-- little-endian bytes of a file's words
abbrev pub bytes : List ℕ → List ℕ
bytes [] = []
bytes (w ∷ ws) = w % 256 ∷ w / 256 % 256 ∷ w / 65536 % 256 ∷ w / 16777216 ∷ bytes ws

-- the sample of 01, 'Day file'; a block of party 5 and day 9,000 without lines
abbrev pub sample : List ℕ
sample = bytes (0x10020001 ∷ 0x20002328 ∷ 0x30000206 ∷ 0x400AAE60 ∷ 0x50000000 ∷ 0x3000000C ∷ 0x4007A120 ∷ 0x50000000 ∷ [])

abbrev pub empty_blocks : ℕ → ℕ → List ℕ
empty_blocks w x = bytes (w ∷ x ∷ [])

abbrev pub file_is : List ℕ → ℕ → ℕ → Bool
file_is bs cause lines = eqb (file_answer (book []) bs).answer cause && eqb (file_answer (book []) bs).posted lines

-- both balances of a party on day 9,000, after a file was read into this book
abbrev pub file_balance_is : List ℕ → List ℕ → ℕ → ℤ → Bool
file_balance_is ws bs p z =
    is_signed (balance_answer day_ahead (file_words ws bs) p 9000).balance z
    && is_signed (balance_answer delivery (file_words ws bs) p 9000).balance z

abbrev pub status_is : List ℕ → ℕ → ℕ → Bool
status_is ws n s = eqb (entry_at ws n).label.status s

-- party 1 sells 700,000 to 2 without cover; 2 sells 770,000 to 3, covered by its purchase from 1 alone
abbrev pub chain : ℕ → List Call
chain d = sold 1 d 2 700000 ∷ sold 2 d 3 770000 ∷ []

-- day 9,000 is 2024-08-22: two days of one month, and of two months
abbrev pub august : List ℕ
august = control_words (book (chain 9001 ++ chain 9000)) 9001

abbrev pub september : List ℕ
september = control_words (book (chain 9010 ++ chain 9000)) 9010

abbrev pub one_day : List ℕ
one_day = control_words (book (chain 9000)) 9000

-- what the lists compute with: to unfold `computed` is to unfold all of these
unfoldable pub computed : Unit {0}
unfolding status_where sum total count count_below all any half_up round_up sum_ℤ date_of month_of month_from month_start month_length days_in leap_days is_leap counterparty_ok amount_limit fault mark_ok status_ok legal encode decode entry_ok entries_ok read_entries is_book entries encode_all used_words laid open_cause open_words is_closed shut_to entry_at counted counted_to sum_of bought_by tally_of acquired program_used sale_side cover_side balance_of balance is_detected party_day_cause balance_answer tally_answer month_cause weighted_prices weights aosmf aedm month_figures month_answer generation_margin margin trading_days debt_of debts debt quarters trading highest_price lowest_volume imbalance_over imbalance risk yek total_of month_ok figures_ok collateral_cause collateral_of collateral_answer is_recordable ceiling_cause ceiling_answer first_day_cause first_day_answer reported day_sum month_total day_line day_lines total_line report_lines month_report_cause report_of refused_report month_report chosen amounts of_month export_of detected_in is_to_cancel cancel_of is_repeated_buyer first_pass after_first second_pass after_second mark_of controlled_records detected_parties cancelled_entries words_of is_shaped is_file items_from items item_cause lines_of item_names file_names after answers book_after book_answers post_refusal withdraw_refusal withdrawn_at control_refusal file_refusal leaves_of figures_of refusal figures_on changed cause_of figures_at words_after
computed = tt
