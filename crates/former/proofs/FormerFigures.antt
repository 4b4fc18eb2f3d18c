-- Worked figures of copies until T-06 and until T-02 beside today's: books and files are written as words by 01, 'The words' and 'Day file'.
-- 10^12 is E8D4A51000 (low 28 bits 4A51000, next E8D); 10^13 is 9184E72A000 (low 28 bits E72A000, next 9184); day 9,000 is 2328.
use mathlib.Core.Bool.{Bool, true, not}
use mathlib.Core.List.{List, [], ◌∷◌, ◌++◌, map}
use mathlib.Core.Path.{◌≡◌, refl}
use Prim.Native.Nat.{ℕ}
use lib.Dec.{eqb}
use lib.ListN.{replicate}
use Rattle.numbers.specs.Tests.{every, any}
use Rattle.rules.specs.Entry.{key_of, record_of}
use Rattle.rules.specs.Words.{is_book, used_words}
use Rattle.rules.specs.Balance.{day_ahead, delivery, tally_answer}
use Rattle.rules.specs.Collateral.{collateral_answer}
use Rattle.case_figures.specs.CaseFigures.{plain_case, with_party, with_day}
use Rattle.rules.specs.DayFile.{is_file}
use Rattle.rules.specs.Machine.{figures_of, leaves_of}
use Rattle.rules.specs.Calls.{Change, post, withdraw, control, file, no_figures, cause_of}
use Rattle.case_figures.specs.declared.Case.{Case}
use Rattle.rules.proofs.Worked.{minus, is_signed, same_numbers, bytes, computed}
use Rattle.rules.proofs.WordFigures.{high_bits, spare_bits}
use Rattle.former.specs.Former.{Copy, until06, until02, tally_of_by, cover_side_by, formula_by, balance_on, limit_by, fault_by, legal_by, entry_ok_by, entries_ok_by, is_book_by, is_shaped_by, is_file_by, item_cause_by, refusal_by, machine_by, asked_by, balance_by, tally_by, case_cause_by, collateral_by, count_cause_by, count_by, read_cause_by, entry_by}

-- a book of R 110 and TM 600,000 with one entry of party 1 and day 9,000: its kind 3 word and the two words of its amount
abbrev book_of : ℕ → ℕ → ℕ → List ℕ
book_of w low high = 0x60000001 ∷ 0x7000006E ∷ 0x800927C0 ∷ 0x10000001 ∷ 0x20002328 ∷ w ∷ low ∷ high ∷ []

-- a purchase of 10^12, of one kuruş more, and of 2^40, whose kind 5 word has bit 12
abbrev paid : List ℕ
paid = book_of 0x30000011 0x44A51000 0x50000E8D

abbrev paid_more : List ℕ
paid_more = book_of 0x30000011 0x44A51001 0x50000E8D

abbrev paid_new : List ℕ
paid_new = book_of 0x30000011 0x40000000 0x50001000

-- no entry, and room for one
abbrev free : List ℕ
free = 0x60000000 ∷ 0x7000006E ∷ 0x800927C0 ∷ 7 ∷ 7 ∷ 7 ∷ 7 ∷ 7 ∷ []

-- a file of one line of party 1 and day 9,000
abbrev file_of : ℕ → ℕ → ℕ → List ℕ
file_of w low high = bytes (0x10010001 ∷ 0x20002328 ∷ w ∷ low ∷ high ∷ [])

-- the cause of a copy beside today's, and of one until T-06
abbrev causes_of : Copy → List ℕ → Change → ℕ → ℕ → Bool
causes_of c ws call before now = every (eqb ((machine_by c).cause ws call) before ∷ eqb (cause_of ws call) now ∷ [])

abbrev causes : List ℕ → Change → ℕ → ℕ → Bool
causes ws call before now = causes_of until06 ws call before now

abbrev posts : ℕ → ℕ → ℕ → ℕ → Bool
posts t a before now = causes free (post (key_of 1 9000 t 0) a) before now

abbrev reads : ℕ → ℕ → ℕ → ℕ → ℕ → Bool
reads w low high before now = causes free (file (file_of w low high)) before now

-- and of one until T-02
abbrev posts02 : ℕ → ℕ → ℕ → ℕ → ℕ → Bool
posts02 t p a before now = causes_of until02 free (post (key_of 1 9000 t p) a) before now

abbrev reads02 : List ℕ → ℕ → ℕ → Bool
reads02 bs before now = causes_of until02 free (file bs) before now

-- a program of 7, an update of 7, standing and withdrawn, and a mark
abbrev program : List ℕ
program = book_of 0x3000000C 0x40000007 0x50000000

abbrev update : List ℕ
update = book_of 0x30000016 0x40000007 0x50000000

abbrev update_gone : List ℕ
update_gone = book_of 0x31000016 0x40000007 0x50000000

abbrev closed : List ℕ
closed = 0x60000001 ∷ 0x7000006E ∷ 0x800927C0 ∷ 0x10000000 ∷ 0x20002328 ∷ 0x30000015 ∷ 0x40000000 ∷ 0x50000000 ∷ []

-- two lines of party 1 and day 9,000, an update and a volume above 10^9, in either order; an update of party 0
abbrev update_first : List ℕ
update_first = bytes (0x10020001 ∷ 0x20002328 ∷ 0x30000016 ∷ 0x40000007 ∷ 0x50000000 ∷ 0x30000001 ∷ 0x4B9ACA01 ∷ 0x50000003 ∷ [])

abbrev update_last : List ℕ
update_last = bytes (0x10020001 ∷ 0x20002328 ∷ 0x30000001 ∷ 0x4B9ACA01 ∷ 0x50000003 ∷ 0x30000016 ∷ 0x40000007 ∷ 0x50000000 ∷ [])

abbrev nobody : List ℕ
nobody = bytes (0x10010000 ∷ 0x20002328 ∷ 0x30000016 ∷ 0x40000007 ∷ 0x50000000 ∷ [])

-- R 200, TM 0: a program of 7, and that with a sale of 5 and an intraday purchase of 2
abbrev covered : List ℕ
covered = used_words 200 0 (record_of (key_of 1 9000 12 0) 0 7 ∷ record_of (key_of 1 9000 1 0) 0 5 ∷ record_of (key_of 1 9000 8 0) 0 2 ∷ [])

abbrev next : Case
next = with_day (with_party plain_case 1) 9001

pub former_figures : List Bool
former_figures =
    -- money to 10^12, volumes to 10^9
    same_numbers (map (limit_by until06) (1 ∷ 16 ∷ 17 ∷ 20 ∷ [])) (1000000000 ∷ 1000000000 ∷ 1000000000000 ∷ 1000000000000 ∷ [])
    ∷ posts 17 1000000000000 0 0
    ∷ posts 17 1000000000001 7 0
    ∷ posts 20 10000000000000 7 0
    ∷ posts 20 10000000000001 7 7
    ∷ posts 16 1000000000 0 0
    ∷ posts 16 1000000001 7 7
    ∷ posts 21 5 5 5
    -- books: 10^12 and no more, no bit from 12 on; every call answers 1
    ∷ every (map (is_book_by until06) (free ∷ paid ∷ []))
    ∷ not (any (is_book_by until06) (paid_more ∷ paid_new ∷ []))
    ∷ every (map is_book (free ∷ paid ∷ paid_more ∷ paid_new ∷ []))
    ∷ not (any (λ y. is_book_by until06 (book_of 0x30000014 0x40000000 y)) high_bits)
    ∷ every (map (λ y. is_book (book_of 0x30000014 0x40000000 y)) high_bits)
    ∷ not (any (λ y. is_book_by until06 (book_of 0x30000014 0x40000000 y)) spare_bits)
    ∷ not (any (λ y. is_book (book_of 0x30000014 0x40000000 y)) spare_bits)
    ∷ is_book_by until06 (book_of 0x31000014 0x4FFFFFFF 0x50000E8C)
    ∷ causes paid (control 9000) 9 9
    ∷ causes paid_new (control 9000) 1 9
    ∷ causes paid (withdraw 0) 0 0
    ∷ causes paid_new (withdraw 0) 1 0
    ∷ causes paid_new (file []) 1 0
    -- files: an amount beyond the limit is 7, a bit from 12 on is 2, of a volume too
    ∷ reads 0x30000011 0x44A51000 0x50000E8D 0 0
    ∷ reads 0x30000011 0x44A51001 0x50000E8D 7 0
    ∷ reads 0x30000011 0x4FFFFFFF 0x50000FFF 7 0
    ∷ reads 0x30000011 0x4E72A000 0x50009184 2 0
    ∷ reads 0x30000011 0x4E72A001 0x50009184 2 7
    ∷ every (map (λ y. reads 0x30000014 0x40000000 y 2 0) high_bits)
    ∷ every (map (λ y. reads 0x30000001 0x40000000 y 2 7) high_bits)
    ∷ every (map (λ y. reads 0x30000014 0x40000000 y 2 2) spare_bits)
    ∷ is_file_by until06 (file_of 0x30000001 0x4FFFFFFF 0x50000FFF)
    ∷ not (is_file_by until06 (file_of 0x30000001 0x40000000 0x50001000))
    ∷ is_file (file_of 0x30000001 0x4FFFFFFF 0x5000FFFF)
    ∷ not (is_file (file_of 0x30000001 0x40000000 0x50010000))
    -- what a done call answers and leaves
    ∷ eqb (figures_of no_figures (machine_by until06) free (file (file_of 0x30000011 0x44A51000 0x50000E8D))).lines 1
    ∷ same_numbers (leaves_of (machine_by until06) free (file (file_of 0x30000011 0x44A51000 0x50000E8D))) paid
    ∷ same_numbers (leaves_of (machine_by until06) free (post (key_of 1 9000 17 0) 1000000000000)) paid
    ∷ same_numbers (leaves_of (machine_by until06) free (post (key_of 1 9000 17 0) 1000000000001)) free
    -- the calls that only read: 10^12 × 20 × 4 / 80 the day after; of today's book one answers 1 and no figure
    ∷ same_numbers ((count_by until06 paid).answer ∷ (count_by until06 paid).count ∷ []) (0 ∷ 1 ∷ [])
    ∷ same_numbers ((count_by until06 paid_new).answer ∷ (count_by until06 paid_new).count ∷ []) (1 ∷ 0 ∷ [])
    ∷ same_numbers ((entry_by until06 paid 0).answer ∷ (entry_by until06 paid 0).amount ∷ (entry_by until06 paid 1).answer ∷ []) (0 ∷ 1000000000000 ∷ 10 ∷ [])
    ∷ eqb (entry_by until06 paid_new 0).answer 1
    ∷ same_numbers ((tally_by until06 paid 1 9000).answer ∷ (tally_by until06 paid_new 1 9000).answer ∷ (tally_by until06 paid 0 9000).answer ∷ []) (0 ∷ 1 ∷ 3 ∷ [])
    ∷ is_signed (balance_by until06 day_ahead paid 1 9000).balance (minus 60000000)
    ∷ eqb (balance_by until06 delivery paid_new 1 9000).answer 1
    ∷ same_numbers (map (λ ws. (collateral_by until06 ws next).trading) (paid ∷ paid_more ∷ paid_new ∷ [])) (1000000000000 ∷ 0 ∷ 0 ∷ [])
    ∷ same_numbers (map (λ ws. (collateral_by until06 ws next).answer) (paid ∷ paid_more ∷ paid_new ∷ [])) (0 ∷ 1 ∷ 1 ∷ [])
    ∷ same_numbers (map (λ ws. (collateral_answer ws next).trading) (paid ∷ paid_more ∷ paid_new ∷ [])) (1000000000000 ∷ 1000000000001 ∷ 1099511627776 ∷ [])
    -- T-02: types 1 to 20, whatever the amount; no other limit differs
    ∷ same_numbers (map (limit_by until02) (1 ∷ 16 ∷ 17 ∷ 20 ∷ 22 ∷ [])) (1000000000 ∷ 1000000000 ∷ 10000000000000 ∷ 10000000000000 ∷ 1000000000 ∷ [])
    ∷ posts 22 5 5 0
    ∷ posts02 22 0 1000000000 5 0
    ∷ posts02 22 0 1000000001 5 7
    ∷ posts02 22 2 5 5 6
    ∷ posts02 21 0 5 5 5
    ∷ posts02 23 0 5 5 5
    ∷ posts02 20 0 10000000000000 0 0
    ∷ posts02 20 0 10000000000001 7 7
    ∷ posts02 16 0 1000000000 0 0
    ∷ posts02 16 0 1000000001 7 7
    -- books: one with an update is none, withdrawn too; one with a mark is
    ∷ every (map (is_book_by until02) (free ∷ paid ∷ paid_more ∷ paid_new ∷ program ∷ closed ∷ []))
    ∷ not (any (is_book_by until02) (update ∷ update_gone ∷ []))
    ∷ not (any (is_book_by until06) (update ∷ update_gone ∷ []))
    ∷ every (map is_book (program ∷ update ∷ update_gone ∷ closed ∷ []))
    ∷ causes_of until02 update (withdraw 0) 1 0
    ∷ causes_of until02 update (control 9000) 1 9
    ∷ causes_of until02 update (file []) 1 0
    ∷ same_numbers ((count_by until02 update).answer ∷ (entry_by until02 update 0).answer ∷ (tally_by until02 update 1 9000).answer ∷ (balance_by until02 delivery update 1 9000).answer ∷ (collateral_by until02 update next).answer ∷ []) (1 ∷ 1 ∷ 1 ∷ 1 ∷ 1 ∷ [])
    -- files: 5 for the line, in file order; 3 before it
    ∷ reads02 (file_of 0x30000016 0x40000007 0x50000000) 5 0
    ∷ reads02 (file_of 0x30000216 0x40000007 0x50000000) 5 6
    ∷ reads02 (file_of 0x30000016 0x44A51000 0x50000E8D) 5 7
    ∷ reads02 update_first 5 7
    ∷ reads02 update_last 7 7
    ∷ reads02 nobody 3 3
    ∷ reads02 (file_of 0x30000011 0x4E72A000 0x50009184) 0 0
    ∷ reads02 (file_of 0x30000001 0x40000000 0x50010000) 2 2
    -- sixteen sums then, seventeen now; the balances: 500 - 1,400, and 500 - 1,800 with the intraday purchase
    ∷ same_numbers (tally_by until02 program 1 9000).tally.sums (replicate 11 0 ++ (7 ∷ replicate 4 0))
    ∷ same_numbers (tally_by until02 program 0 9000).tally.sums (replicate 16 0)
    ∷ same_numbers (tally_answer program 1 9000).tally.sums (replicate 11 0 ++ (7 ∷ replicate 5 0))
    ∷ is_signed (balance_by until02 day_ahead covered 1 9000).balance (minus 900)
    ∷ is_signed (balance_by until02 delivery covered 1 9000).balance (minus 1300)
    ∷ []

pub former_figures-hold : every former_figures ≡ true
unfolding computed former_figures tally_of_by cover_side_by formula_by balance_on limit_by fault_by legal_by entry_ok_by entries_ok_by is_book_by is_shaped_by is_file_by item_cause_by refusal_by asked_by balance_by tally_by case_cause_by collateral_by count_cause_by count_by read_cause_by entry_by
former_figures-hold = refl
