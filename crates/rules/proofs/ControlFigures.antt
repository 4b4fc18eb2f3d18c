-- Worked figures of 01, 'Control of a day'.
-- Every book has R 200 and TM 100, so that a party is detected if its day-ahead sales are above 100 and above twice its cover.
-- Books are written as words by 01, 'The words', and so are the books that a control leaves: no definition writes them.
-- Day 5 is controlled; days 0 to 30 are January 2000, day 31 is the first of February, day 371 is 2001-01-06.
use mathlib.Core.Bool.{Bool, true, not, ◌&&◌}
use mathlib.Core.List.{List, [], ◌∷◌, ◌++◌}
use mathlib.Core.Path.{◌≡◌, refl}
use Prim.Native.Nat.{ℕ, ◌+◌, ◌*◌, ◌%◌}
use lib.Dec.{eqb}
use lib.ListN.{length, replicate, set}
use Rattle.numbers.specs.Tests.{every}
use Rattle.rules.specs.Entry.{key_of, record_of}
use Rattle.rules.specs.Control.{detected_in, detected_parties}
use Rattle.rules.specs.Calls.{control_answer}
use Rattle.rules.specs.declared.Controlled.{Controlled}
use Rattle.rules.proofs.Worked.{post_cause, withdraw_cause, control_words, same_numbers, computed}

-- the five words of an entry whose amount is below 2^28: party, day, type, counterparty, status, amount
abbrev pub entry : ℕ → ℕ → ℕ → ℕ → ℕ → ℕ → List ℕ
entry p d t c s a =
    (0x10000000 + p)
    ∷ (0x20000000 + d)
    ∷ (0x30000000 + s * 0x1000000 + c * 0x100 + t)
    ∷ (0x40000000 + a)
    ∷ 0x50000000
    ∷ []

unfoldable pub joined : List (List ℕ) → List ℕ
joined [] = []
joined (e ∷ es) = e ++ joined es

-- a book of these entries, and words after the last entry
abbrev pub page : List (List ℕ) → ℕ → List ℕ
page es spare = (0x60000000 + length es) ∷ 0x700000C8 ∷ 0x80000064 ∷ joined es ++ replicate spare 9

-- a bilateral sale: standing, withdrawn, cancelled
abbrev sale : ℕ → ℕ → ℕ → ℕ → List ℕ
sale p d c a = entry p d 6 c 0 a

abbrev gone : ℕ → ℕ → ℕ → ℕ → List ℕ
gone p d c a = entry p d 6 c 1 a

abbrev void : ℕ → ℕ → ℕ → ℕ → List ℕ
void p d c a = entry p d 6 c 2 a

abbrev pub mark : ℕ → List ℕ
mark d = entry 0 d 21 0 0 0

-- answer, parties detected in the first and the second pass, entries cancelled
abbrev counts_are : List ℕ → ℕ → List ℕ → Bool
counts_are ws d xs =
    let r : Controlled = control_answer ws d in
    same_numbers (r.answer ∷ r.first ∷ r.second ∷ r.cancelled ∷ []) xs

-- a control of day 5 leaves these entries and the mark, in just the room that the mark needs, and cancels so many
abbrev leaves : List (List ℕ) → List (List ℕ) → ℕ → Bool
leaves es after n =
    every
    (same_numbers (control_words (page es 5) 5) (page (after ++ (mark 5 ∷ [])) 0)
    ∷ eqb (control_answer (page es 5) 5).answer 0
    ∷ eqb (control_answer (page es 5) 5).cancelled n
    ∷ [])

-- First pass: that day's standing bilateral sales of detected parties, counterparty above 0, become cancelled
pub first_passes : List Bool
first_passes =
    -- sales of 100 are clear, of 101 detected; twice a cover of 60 is 120; one party's sales to two buyers, two sellers to one buyer
    leaves (sale 1 5 2 100 ∷ []) (sale 1 5 2 100 ∷ []) 0
    ∷ leaves (sale 1 5 2 101 ∷ []) (void 1 5 2 101 ∷ []) 1
    ∷ leaves (sale 1 5 2 120 ∷ entry 1 5 12 0 0 60 ∷ []) (sale 1 5 2 120 ∷ entry 1 5 12 0 0 60 ∷ []) 0
    ∷ leaves (sale 1 5 2 121 ∷ entry 1 5 12 0 0 60 ∷ []) (void 1 5 2 121 ∷ entry 1 5 12 0 0 60 ∷ []) 1
    ∷ leaves (sale 1 5 2 60 ∷ sale 1 5 3 60 ∷ []) (void 1 5 2 60 ∷ void 1 5 3 60 ∷ []) 2
    ∷ leaves (sale 1 5 2 60 ∷ sale 3 5 2 60 ∷ []) (sale 1 5 2 60 ∷ sale 3 5 2 60 ∷ []) 0
    ∷ leaves (sale 1 5 2 101 ∷ sale 3 5 2 102 ∷ []) (void 1 5 2 101 ∷ void 3 5 2 102 ∷ []) 2
    -- a party's whole bilateral sale goes, and nothing else of it: an export, another day, a withdrawn and a cancelled entry, a day-ahead sale
    ∷ leaves
    (sale 1 5 2 101 ∷ sale 1 5 0 50 ∷ sale 1 6 2 500 ∷ sale 1 4 2 500 ∷ gone 1 5 3 7 ∷ void 1 5 4 8 ∷ entry 1 5 1 0 0 9 ∷ sale 3 5 1 9 ∷ [])
    (void 1 5 2 101 ∷ sale 1 5 0 50 ∷ sale 1 6 2 500 ∷ sale 1 4 2 500 ∷ gone 1 5 3 7 ∷ void 1 5 4 8 ∷ entry 1 5 1 0 0 9 ∷ sale 3 5 1 9 ∷ [])
    1
    -- an export counts nowhere; a withdrawn sale and one of another day count not
    ∷ leaves
    (sale 1 5 2 100 ∷ sale 1 5 0 50 ∷ gone 1 5 2 50 ∷ sale 1 6 2 500 ∷ [])
    (sale 1 5 2 100 ∷ sale 1 5 0 50 ∷ gone 1 5 2 50 ∷ sale 1 6 2 500 ∷ [])
    0
    -- the day-ahead balance: an intraday sale counts not, nor an intraday purchase
    ∷ leaves (sale 1 5 2 100 ∷ entry 1 5 2 0 0 50 ∷ []) (sale 1 5 2 100 ∷ entry 1 5 2 0 0 50 ∷ []) 0
    ∷ leaves (sale 1 5 2 101 ∷ entry 1 5 8 0 0 60 ∷ []) (void 1 5 2 101 ∷ entry 1 5 8 0 0 60 ∷ []) 1
    -- nor an updated program: sum 12 is kept, whether the update is above it or below (02, T-02)
    ∷ leaves (sale 1 5 2 101 ∷ entry 1 5 22 0 0 60 ∷ []) (void 1 5 2 101 ∷ entry 1 5 22 0 0 60 ∷ []) 1
    ∷ leaves (sale 1 5 2 121 ∷ entry 1 5 12 0 0 60 ∷ entry 1 5 22 0 0 90 ∷ []) (void 1 5 2 121 ∷ entry 1 5 12 0 0 60 ∷ entry 1 5 22 0 0 90 ∷ []) 1
    ∷ leaves (sale 1 5 2 120 ∷ entry 1 5 12 0 0 60 ∷ entry 1 5 22 0 0 50 ∷ []) (sale 1 5 2 120 ∷ entry 1 5 12 0 0 60 ∷ entry 1 5 22 0 0 50 ∷ []) 0
    -- over the book at entry, together: a buyer's lost purchase is not counted, whichever entry stands first
    ∷ leaves (sale 1 5 2 101 ∷ sale 2 5 3 202 ∷ []) (void 1 5 2 101 ∷ sale 2 5 3 202 ∷ []) 1
    ∷ leaves (sale 2 5 3 202 ∷ sale 1 5 2 101 ∷ []) (sale 2 5 3 202 ∷ void 1 5 2 101 ∷ []) 1
    -- parties 1 and 999; an amount of 10^9 keeps both its words
    ∷ leaves (sale 1 5 999 101 ∷ sale 999 5 1 303 ∷ []) (sale 1 5 999 101 ∷ void 999 5 1 303 ∷ []) 1
    ∷ leaves
    ((0x10000001 ∷ 0x20000005 ∷ 0x30000206 ∷ 0x4B9ACA00 ∷ 0x50000003 ∷ []) ∷ [])
    ((0x10000001 ∷ 0x20000005 ∷ 0x32000206 ∷ 0x4B9ACA00 ∷ 0x50000003 ∷ []) ∷ [])
    1
    -- parties are 1 to 999: no other number is detected, whatever records there were
    ∷ detected_in 200 100 5 (record_of (key_of 999 5 1 0) 0 101 ∷ []) 999
    ∷ not (detected_in 200 100 5 (record_of (key_of 1000 5 1 0) 0 101 ∷ []) 1000)
    ∷ not (detected_in 200 100 5 (record_of (key_of 0 5 1 0) 0 101 ∷ []) 0)
    -- a day without entries; a book without entries
    ∷ leaves (sale 1 6 2 101 ∷ []) (sale 1 6 2 101 ∷ []) 0
    ∷ leaves [] [] 0
    ∷ []

pub first_passes-hold : every first_passes ≡ true
unfolding computed joined first_passes
first_passes-hold = refl

-- Second pass: 1's sale of 101 to 2 is cancelled in the first; 2's sale of 202 to 3 was covered by it alone and goes
-- if the pair is repeated, that is, if the third entry is a cancelled one of the pair on another day of the month
abbrev repeats : List ℕ → Bool
repeats e = leaves (sale 1 5 2 101 ∷ sale 2 5 3 202 ∷ e ∷ []) (void 1 5 2 101 ∷ void 2 5 3 202 ∷ e ∷ []) 2

abbrev differs : List ℕ → Bool
differs e = leaves (sale 1 5 2 101 ∷ sale 2 5 3 202 ∷ e ∷ []) (void 1 5 2 101 ∷ sale 2 5 3 202 ∷ e ∷ []) 1

pub second_passes : List Bool
second_passes =
    -- before and after, on the month's first and last day
    repeats (void 1 4 2 7)
    ∷ repeats (void 1 6 2 7)
    ∷ repeats (void 1 0 2 7)
    ∷ repeats (void 1 30 2 7)
    ∷ leaves (void 1 6 2 7 ∷ sale 2 5 3 202 ∷ sale 1 5 2 101 ∷ []) (void 1 6 2 7 ∷ void 2 5 3 202 ∷ void 1 5 2 101 ∷ []) 2
    -- another month, the same month of another year, this day
    ∷ differs (void 1 31 2 7)
    ∷ differs (void 1 371 2 7)
    ∷ differs (void 1 5 2 7)
    -- another seller, another buyer, the pair reversed
    ∷ differs (void 4 6 2 7)
    ∷ differs (void 1 6 4 7)
    ∷ differs (void 2 6 1 7)
    -- not cancelled: standing or withdrawn
    ∷ differs (sale 1 6 2 7)
    ∷ differs (gone 1 6 2 7)
    -- a pair whose sale of this day stands is not repeated: 2 loses 101 from 4, and keeps 50 from 1 of its cover of 151
    ∷ leaves
    (sale 4 5 2 101 ∷ sale 1 5 2 50 ∷ sale 2 5 3 302 ∷ void 1 6 2 7 ∷ [])
    (void 4 5 2 101 ∷ sale 1 5 2 50 ∷ sale 2 5 3 302 ∷ void 1 6 2 7 ∷ [])
    1
    -- the entry of this day may be cancelled at entry: 4's sale is not repeated, 1's is
    ∷ leaves
    (sale 4 5 2 101 ∷ void 1 5 2 50 ∷ sale 2 5 3 202 ∷ void 1 6 2 7 ∷ [])
    (void 4 5 2 101 ∷ void 1 5 2 50 ∷ void 2 5 3 202 ∷ void 1 6 2 7 ∷ [])
    2
    -- a buyer with cover left is clear over the book after the first pass: 202 against twice 101
    ∷ leaves
    (sale 1 5 2 101 ∷ sale 2 5 3 202 ∷ void 1 6 2 7 ∷ entry 2 5 12 0 0 101 ∷ [])
    (void 1 5 2 101 ∷ sale 2 5 3 202 ∷ void 1 6 2 7 ∷ entry 2 5 12 0 0 101 ∷ [])
    1
    -- a buyer detected in both passes, by a day-ahead sale of 203: its bilateral sale is cancelled, and counted, once
    ∷ leaves
    (sale 1 5 2 101 ∷ entry 2 5 1 0 0 203 ∷ void 1 6 2 7 ∷ sale 2 5 3 9 ∷ [])
    (void 1 5 2 101 ∷ entry 2 5 1 0 0 203 ∷ void 1 6 2 7 ∷ void 2 5 3 9 ∷ [])
    2
    -- likewise: the buyer's export, other day and withdrawn sale stay
    ∷ leaves
    (sale 1 5 2 101 ∷ sale 2 5 3 202 ∷ void 1 6 2 7 ∷ sale 2 5 0 9 ∷ sale 2 6 3 9 ∷ gone 2 5 3 9 ∷ [])
    (void 1 5 2 101 ∷ void 2 5 3 202 ∷ void 1 6 2 7 ∷ sale 2 5 0 9 ∷ sale 2 6 3 9 ∷ gone 2 5 3 9 ∷ [])
    2
    -- only buyers of repeated pairs: 3 has lost its cover too, by 4's sale, which is not repeated
    ∷ leaves
    (sale 1 5 2 101 ∷ void 1 6 2 7 ∷ sale 4 5 3 101 ∷ sale 3 5 2 202 ∷ [])
    (void 1 5 2 101 ∷ void 1 6 2 7 ∷ void 4 5 3 101 ∷ sale 3 5 2 202 ∷ [])
    2
    -- together: 2 and 3 are buyers of repeated pairs, and 3 keeps 2's sale as cover inside the second pass
    ∷ leaves
    (sale 1 5 2 101 ∷ void 1 6 2 7 ∷ sale 1 5 3 7 ∷ void 1 6 3 7 ∷ sale 2 5 3 202 ∷ sale 3 5 4 404 ∷ [])
    (void 1 5 2 101 ∷ void 1 6 2 7 ∷ void 1 5 3 7 ∷ void 1 6 3 7 ∷ void 2 5 3 202 ∷ sale 3 5 4 404 ∷ [])
    3
    -- no third pass: 2's sale to 3 is repeated and cancelled by the second, and 3's sale to 4 stays without cover
    ∷ leaves
    (sale 1 5 2 101 ∷ void 1 6 2 7 ∷ sale 2 5 3 202 ∷ void 2 6 3 7 ∷ sale 3 5 4 404 ∷ [])
    (void 1 5 2 101 ∷ void 1 6 2 7 ∷ void 2 5 3 202 ∷ void 2 6 3 7 ∷ sale 3 5 4 404 ∷ [])
    2
    -- on the last day of the table's first month, with a pair of that month
    ∷ same_numbers
    (control_words (page (sale 1 30 999 101 ∷ sale 999 30 3 202 ∷ void 1 0 999 7 ∷ []) 5) 30)
    (page (void 1 30 999 101 ∷ void 999 30 3 202 ∷ void 1 0 999 7 ∷ mark 30 ∷ []) 0)
    ∷ []

pub second_passes-hold : every second_passes ≡ true
unfolding computed joined second_passes
second_passes-hold = refl

-- the answer counts every detected party, with a bilateral sale or without. One entry only: all 999 parties are gone through
pub control_counts : List Bool
control_counts =
    -- 999, by a day-ahead sale
    counts_are (page (entry 999 5 1 0 0 101 ∷ []) 5) 5 (0 ∷ 1 ∷ 0 ∷ 0 ∷ [])
    -- 999 in the second pass, though in the first too: 203 is above twice 101, and above twice nothing
    ∷ eqb (control_answer (page (sale 1 5 999 101 ∷ entry 999 5 1 0 0 203 ∷ void 1 6 999 7 ∷ []) 5) 5).second 1
    -- parties 1 and 999 of a test that holds of these two, and no party 1,000
    ∷ eqb (detected_parties (λ p. eqb (p % 998) 1)) 2
    ∷ eqb (detected_parties (λ p. eqb p 1000)) 0
    ∷ []

pub control_counts-hold : every control_counts ≡ true
unfolding computed joined control_counts
control_counts-hold = refl

-- the causes of a control, 1, 4, 8 and 9, in that order; on a refusal the counts are 0 and the words are as before
abbrev refused_by : ℕ → List ℕ → ℕ → Bool
refused_by cause ws d = counts_are ws d (cause ∷ 0 ∷ 0 ∷ 0 ∷ []) && same_numbers (control_words ws d) ws

abbrev one_sale : List (List ℕ)
one_sale = sale 1 5 2 101 ∷ []

-- days 6 and 5 controlled in turn, in this order
abbrev two_days : List (List ℕ)
two_days = sale 1 6 2 101 ∷ sale 2 6 3 202 ∷ sale 1 5 2 101 ∷ sale 2 5 3 202 ∷ []

abbrev closed : List ℕ
closed = page (void 1 5 2 101 ∷ sale 2 5 3 50 ∷ entry 1 5 1 0 0 7 ∷ sale 1 5 0 7 ∷ mark 5 ∷ []) 5

pub control_causes : List Bool
control_causes =
    refused_by 1 [] 5
    ∷ refused_by 1 (set (page one_sale 5) 1 0x700003E9) 5
    ∷ refused_by 1 (set (page one_sale 0) 1 0x700003E9) 36525
    ∷ refused_by 4 (page one_sale 5) 36525
    ∷ refused_by 4 (page one_sale 0) 36525
    -- the last day of the table
    ∷ same_numbers (control_words (page one_sale 5) 36524) (page (sale 1 5 2 101 ∷ mark 36524 ∷ []) 0)
    -- a day with a mark, with room and without; a mark of another day closes that day alone
    ∷ refused_by 8 (page (sale 1 5 2 101 ∷ mark 5 ∷ []) 5) 5
    ∷ refused_by 8 (page (sale 1 5 2 101 ∷ mark 5 ∷ []) 0) 5
    ∷ leaves (sale 1 5 2 101 ∷ mark 6 ∷ []) (void 1 5 2 101 ∷ mark 6 ∷ []) 1
    -- the mark needs five words more
    ∷ refused_by 9 (page one_sale 0) 5
    ∷ refused_by 9 (page one_sale 4) 5
    ∷ refused_by 9 (page [] 4) 5
    ∷ same_numbers (control_words (page one_sale 5) 5) (page (void 1 5 2 101 ∷ mark 5 ∷ []) 0)
    ∷ same_numbers (control_words (page one_sale 7) 5) (page (void 1 5 2 101 ∷ mark 5 ∷ []) 2)
    -- the words of a controlled book, one by one
    ∷ same_numbers
    (control_words (page one_sale 5) 5)
    (0x60000002 ∷ 0x700000C8 ∷ 0x80000064 ∷ 0x10000001 ∷ 0x20000005 ∷ 0x32000206 ∷ 0x40000065 ∷ 0x50000000 ∷ 0x10000000 ∷ 0x20000005 ∷ 0x30000015 ∷ 0x40000000 ∷ 0x50000000 ∷ [])
    -- one sale cancelled in one month on two days, in either order: each control closes its day, the later one repeats the pair
    ∷ same_numbers
    (control_words (control_words (page two_days 10) 6) 5)
    (page (void 1 6 2 101 ∷ sale 2 6 3 202 ∷ void 1 5 2 101 ∷ void 2 5 3 202 ∷ mark 6 ∷ mark 5 ∷ []) 0)
    ∷ same_numbers
    (control_words (control_words (page two_days 10) 5) 6)
    (page (void 1 6 2 101 ∷ void 2 6 3 202 ∷ void 1 5 2 101 ∷ sale 2 5 3 202 ∷ mark 5 ∷ mark 6 ∷ []) 0)
    ∷ refused_by 8 (control_words (control_words (page two_days 15) 6) 5) 6
    -- a closed day takes no bilateral sale and gives none back; exports, other types and other days go on
    ∷ eqb (post_cause closed (key_of 4 5 6 3) 1) 8
    ∷ eqb (post_cause closed (key_of 4 5 6 0) 1) 0
    ∷ eqb (post_cause closed (key_of 4 5 1 0) 1) 0
    ∷ eqb (post_cause closed (key_of 4 6 6 3) 1) 0
    ∷ eqb (withdraw_cause closed 0) 10
    ∷ eqb (withdraw_cause closed 1) 8
    ∷ eqb (withdraw_cause closed 2) 0
    ∷ eqb (withdraw_cause closed 3) 0
    ∷ eqb (withdraw_cause closed 4) 10
    ∷ []

pub control_causes-hold : every control_causes ≡ true
unfolding computed joined control_causes
control_causes-hold = refl
