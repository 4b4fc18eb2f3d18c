-- Worked figures of 01, 'The words' (opening), 'Entry types' (posts, withdrawals), 'Control of a day' (closed days) and 'Why a call comes back':
-- each cause of each call on a book, the lowest of two, the room to its last place, and the words that each call leaves.
-- Words are written by their bits: R 150 is 96, 998 is 3E6, 999 is 3E7, day 9,000 is 2328, day 36,524 is 8EAC; 10^9 and 10^13 as in WordFigures.
use mathlib.Core.Bool.{Bool, true, not}
use mathlib.Core.List.{List, [], ◌∷◌, ◌++◌, map}
use mathlib.Core.Path.{◌≡◌, refl}
use Prim.Native.Nat.{ℕ}
use lib.Dec.{eqb}
use lib.ListN.{replicate, set, take}
use Rattle.numbers.specs.Tests.{every}
use Rattle.rules.specs.Entry.{Key, Record, key_of, record_of}
use Rattle.rules.specs.Words.{used_words}
use Rattle.rules.specs.Book.{open_cause, open_words, default_coefficient, default_tolerance, open_default_cause, open_default_words, is_closed, shut_to, entry_at, count_cause, count_answer, read_cause, read_answer}
use Rattle.rules.specs.Stores.{restatused}
use Rattle.rules.specs.Machine.{Answer}
use Rattle.rules.specs.Calls.{Figures, post_answer}
use Rattle.rules.specs.Ledger.{Call, post, withdraw, book_after, book_answers, ledger_fault, stands_at, withdrawn_at, ledger_cause, ledger_done, ledger_after, ledger_answers}
use Rattle.rules.specs.declared.EntryRead.{EntryRead}
use Rattle.rules.proofs.Worked.{post_words, withdraw_cause, withdraw_words, same_numbers, computed}
use Rattle.rules.proofs.WordFigures.{fields, all_fields}

-- what a call answers, and the words it leaves
abbrev post_is : List ℕ → Key → ℕ → ℕ → ℕ → Bool
post_is ws k a answer number = every (eqb (post_answer ws k a).answer answer ∷ eqb (post_answer ws k a).number number ∷ [])

abbrev post_leaves : List ℕ → Key → ℕ → List ℕ → Bool
post_leaves ws k a vs = same_numbers (post_words ws k a) vs

-- a refused post: its cause, number 0, the words as they were
abbrev post_refused : List ℕ → Key → ℕ → ℕ → Bool
post_refused ws k a cause = every (post_is ws k a cause 0 ∷ post_leaves ws k a ws ∷ [])

abbrev withdraw_is : List ℕ → ℕ → List ℕ → Bool
withdraw_is ws n vs = every (eqb (withdraw_cause ws n) 0 ∷ same_numbers (withdraw_words ws n) vs ∷ [])

abbrev withdraw_refused : List ℕ → ℕ → ℕ → Bool
withdraw_refused ws n cause = every (eqb (withdraw_cause ws n) cause ∷ same_numbers (withdraw_words ws n) ws ∷ [])

abbrev count_is : List ℕ → ℕ → ℕ → Bool
count_is ws answer n = every (eqb (count_answer ws).answer answer ∷ eqb (count_answer ws).count n ∷ [])

-- an answer's figures in order
abbrev read_fields : EntryRead → List ℕ
read_fields r =
    r.answer ∷ r.party ∷ r.day ∷ r.entry_type ∷ r.counterparty ∷ r.status ∷ r.amount ∷ []

abbrev all_answers : List (Answer Figures) → List ℕ
all_answers [] = []
all_answers (p ∷ ps) = p.cause ∷ p.figures.number ∷ all_answers ps

-- thirteen words, each 7, opened with R 150 and TM 9: room for two
abbrev opened : ℕ → List ℕ
opened lent = open_words (replicate lent 7) 150 9

-- two posts: money of 10^13 of party 999 on the last day, a sale of 10^9 by 998 to 999
abbrev money : Key
money = key_of 999 36524 20 0

abbrev money_words : List ℕ
money_words = 0x100003E7 ∷ 0x20008EAC ∷ 0x30000014 ∷ 0x4E72A000 ∷ 0x50009184 ∷ []

abbrev to_last : Key
to_last = key_of 998 9000 6 999

abbrev to_last_words : List ℕ
to_last_words = 0x100003E6 ∷ 0x20002328 ∷ 0x3003E706 ∷ 0x4B9ACA00 ∷ 0x50000003 ∷ []

abbrev one : List ℕ
one = 0x60000001 ∷ 0x70000096 ∷ 0x80000009 ∷ (money_words ++ replicate 5 7)

abbrev both : List ℕ
both = 0x60000002 ∷ 0x70000096 ∷ 0x80000009 ∷ (money_words ++ to_last_words)

abbrev plain : Key
plain = key_of 1 9000 1 0

-- day 9,000 is closed. Entries: 0 a standing bilateral sale, 1 a cancelled, 2 a withdrawn one, 3 the mark, 4 an export, 5 a day-ahead sale,
-- 6 a bilateral sale of the next day
abbrev shut_records : List Record
shut_records =
    record_of (key_of 1 9000 6 2) 0 50
    ∷ record_of (key_of 1 9000 6 3) 2 51
    ∷ record_of (key_of 1 9000 6 4) 1 52
    ∷ record_of (key_of 0 9000 21 0) 0 0
    ∷ record_of (key_of 1 9000 6 0) 0 53
    ∷ record_of (key_of 1 9000 1 0) 0 54
    ∷ record_of (key_of 1 9001 6 2) 0 55
    ∷ []

-- no place free, and one
abbrev shut_full : List ℕ
shut_full = used_words 150 9 shut_records

abbrev shut : List ℕ
shut = shut_full ++ replicate 5 7

-- what is no book: R out of range
abbrev no_book : List ℕ
no_book = set shut 1 0x700003E9

-- a mark, and after the last entry a standing bilateral sale of its day
abbrev past : List ℕ
past = set (used_words 150 9 (record_of (key_of 0 9000 21 0) 0 0 ∷ record_of (key_of 1 9000 6 2) 0 50 ∷ [])) 0 0x60000001

-- calls with refused ones between: party 0, a withdrawal twice, an amount too large, no place free, no such entry, a day past the last when full
abbrev calls : List Call
calls =
    post (key_of 0 9000 1 0) 5
    ∷ post money 10000000000000
    ∷ withdraw 0
    ∷ withdraw 0
    ∷ post plain 1000000001
    ∷ post to_last 1000000000
    ∷ post plain 5
    ∷ withdraw 2
    ∷ post (key_of 1 36525 1 0) 5
    ∷ []

abbrev call_answers : List ℕ
call_answers = 3 ∷ 0 ∷ 0 ∷ 0 ∷ 0 ∷ 0 ∷ 10 ∷ 0 ∷ 7 ∷ 0 ∷ 0 ∷ 1 ∷ 9 ∷ 0 ∷ 10 ∷ 0 ∷ 4 ∷ 0 ∷ []

-- posts of types 21 and 23, and of the updated program (02, T-02): with a counterparty, above 10^9, of 10^9 and withdrawn
abbrev update : Key
update = key_of 1 9000 22 0

abbrev updates : List Call
updates =
    post (key_of 1 9000 21 0) 5
    ∷ post (key_of 1 9000 23 0) 5
    ∷ post (key_of 1 9000 22 2) 5
    ∷ post update 1000000001
    ∷ post update 10000000000001
    ∷ post update 1000000000
    ∷ withdraw 0
    ∷ []

abbrev update_answers : List ℕ
update_answers = 5 ∷ 0 ∷ 5 ∷ 0 ∷ 6 ∷ 0 ∷ 7 ∷ 0 ∷ 7 ∷ 0 ∷ 0 ∷ 0 ∷ 0 ∷ 0 ∷ []

pub book_figures : List Bool
book_figures =
    -- opening: 11 below 3 words, 12 for R above 1,000 or TM above 200,000,000, 11 before 12; three words are written, the others stay
    same_numbers (map (λ lent. open_cause lent 1000 200000000) (0 ∷ 2 ∷ 3 ∷ 15363 ∷ [])) (11 ∷ 11 ∷ 0 ∷ 0 ∷ [])
    ∷ eqb (open_cause 3 0 0) 0
    ∷ eqb (open_cause 3 1001 0) 12
    ∷ eqb (open_cause 3 0 200000001) 12
    ∷ eqb (open_cause 2 1001 200000001) 11
    ∷ same_numbers (open_words (5 ∷ 6 ∷ 7 ∷ 8 ∷ 9 ∷ []) 1000 200000000) (0x60000000 ∷ 0x700003E8 ∷ 0x8BEBC200 ∷ 8 ∷ 9 ∷ [])
    ∷ same_numbers (open_words (5 ∷ 6 ∷ 7 ∷ 8 ∷ []) 1001 0) (5 ∷ 6 ∷ 7 ∷ 8 ∷ [])
    ∷ same_numbers (open_words (5 ∷ 6 ∷ 7 ∷ 8 ∷ []) 0 200000001) (5 ∷ 6 ∷ 7 ∷ 8 ∷ [])
    ∷ same_numbers (open_words (5 ∷ 6 ∷ []) 0 0) (5 ∷ 6 ∷ [])
    -- without figures R is 105, hexadecimal 69, and TM 500,000, hexadecimal 7A120; 11 below 3 words and no other cause
    ∷ eqb default_coefficient 105
    ∷ eqb default_tolerance 500000
    ∷ same_numbers (map open_default_cause (0 ∷ 2 ∷ 3 ∷ 15363 ∷ [])) (11 ∷ 11 ∷ 0 ∷ 0 ∷ [])
    ∷ same_numbers (open_default_words (5 ∷ 6 ∷ 7 ∷ 8 ∷ 9 ∷ [])) (0x60000000 ∷ 0x70000069 ∷ 0x8007A120 ∷ 8 ∷ 9 ∷ [])
    ∷ same_numbers (open_default_words (5 ∷ 6 ∷ [])) (5 ∷ 6 ∷ [])
    -- a post is answered its number and stored after the entries; words past it stay
    ∷ post_is (opened 13) money 10000000000000 0 0
    ∷ post_leaves (opened 13) money 10000000000000 one
    ∷ post_is one to_last 1000000000 0 1
    ∷ post_leaves one to_last 1000000000 both
    -- the room to its last place, and one more: 7 and 8 words, 12 words, 17 words
    ∷ post_refused both plain 5 9
    ∷ post_refused (opened 3) plain 5 9
    ∷ post_refused (opened 7) plain 5 9
    ∷ post_is (opened 8) plain 5 0 0
    ∷ post_refused (take 12 one) plain 5 9
    ∷ post_refused (both ++ replicate 4 7) plain 5 9
    ∷ post_is (both ++ replicate 5 7) plain 5 0 2
    -- each cause of a post, in a book with a place free; the lowest of two
    ∷ post_refused no_book (key_of 0 9000 1 0) 5 1
    ∷ post_refused shut (key_of 0 9000 1 0) 5 3
    ∷ post_refused shut (key_of 1 36525 1 0) 5 4
    ∷ post_refused shut (key_of 1 9000 21 0) 5 5
    ∷ post_refused shut (key_of 1 9000 1 2) 5 6
    ∷ post_refused shut (key_of 1 9000 6 2) 1000000001 7
    ∷ post_refused shut (key_of 1 9000 6 1) 5 6
    ∷ post_refused shut (key_of 1 9000 6 2) 5 8
    ∷ post_refused shut_full (key_of 1 9000 6 2) 5 8
    ∷ post_refused shut_full (key_of 1 9000 1 0) 5 9
    ∷ post_refused shut_full (key_of 0 9000 1 0) 5 3
    -- a closed day takes an export and other types; another day takes bilateral sales
    ∷ post_is shut (key_of 1 9000 6 0) 5 0 7
    ∷ post_is shut (key_of 1 9000 1 0) 5 0 7
    ∷ post_is shut (key_of 1 8999 6 2) 5 0 7
    ∷ post_is shut update 1000000000 0 7
    -- an update's amount is a volume; its words
    ∷ post_refused shut update 1000000001 7
    ∷ post_refused shut update 1000000000000 7
    ∷ post_leaves (opened 8) update 1000000000 (0x60000001 ∷ 0x70000096 ∷ 0x80000009 ∷ 0x10000001 ∷ 0x20002328 ∷ 0x30000016 ∷ 0x4B9ACA00 ∷ 0x50000003 ∷ [])
    ∷ is_closed 9000 shut_records
    ∷ not (is_closed 9001 shut_records)
    ∷ not (is_closed 0 [])
    ∷ shut_to (key_of 1 9000 6 2) shut_records
    ∷ not (shut_to (key_of 1 9000 6 0) shut_records)
    ∷ not (shut_to (key_of 1 9001 6 2) shut_records)
    -- a withdrawal sets status 1, in bits 24-25 of the entry's kind 3 word, and no other word
    ∷ withdraw_is both 0 (set both 5 0x31000014)
    ∷ withdraw_is both 1 (set both 10 0x3103E706)
    ∷ withdraw_is one 0 (set one 5 0x31000014)
    ∷ same_numbers (restatused 2 both 1) (set both 10 0x3203E706)
    -- its place is not used again
    ∷ post_refused (withdraw_words both 0) plain 5 9
    ∷ post_is (withdraw_words one 0) plain 5 0 1
    -- each cause of a withdrawal, and the lowest of two: a closed day's standing bilateral sale alone is held back
    ∷ withdraw_refused no_book 0 1
    ∷ withdraw_refused no_book 3 1
    ∷ withdraw_refused no_book 99 1
    ∷ withdraw_refused shut 0 8
    ∷ withdraw_refused shut 1 10
    ∷ withdraw_refused shut 2 10
    ∷ withdraw_refused shut 3 10
    ∷ same_numbers (map (withdraw_cause shut) (4 ∷ 5 ∷ 6 ∷ [])) (0 ∷ 0 ∷ 0 ∷ [])
    ∷ withdraw_refused shut 7 10
    ∷ withdraw_refused shut 8 10
    ∷ withdraw_refused past 1 10
    ∷ withdraw_refused (set both 0 0x60000001) 1 10
    ∷ withdraw_refused (withdraw_words both 0) 0 10
    -- the number of entries
    ∷ count_is (opened 3) 0 0
    ∷ count_is both 0 2
    ∷ count_is shut 0 7
    ∷ count_is no_book 1 0
    -- one entry by its number
    ∷ same_numbers (fields (entry_at both 1)) (998 ∷ 9000 ∷ 6 ∷ 999 ∷ 0 ∷ 1000000000 ∷ [])
    ∷ same_numbers (read_fields (read_answer both 0)) (0 ∷ 999 ∷ 36524 ∷ 20 ∷ 0 ∷ 0 ∷ 10000000000000 ∷ [])
    ∷ same_numbers (read_fields (read_answer both 1)) (0 ∷ 998 ∷ 9000 ∷ 6 ∷ 999 ∷ 0 ∷ 1000000000 ∷ [])
    ∷ same_numbers (read_fields (read_answer shut 1)) (0 ∷ 1 ∷ 9000 ∷ 6 ∷ 3 ∷ 2 ∷ 51 ∷ [])
    ∷ same_numbers (read_fields (read_answer shut 3)) (0 ∷ 0 ∷ 9000 ∷ 21 ∷ 0 ∷ 0 ∷ 0 ∷ [])
    ∷ same_numbers (read_fields (read_answer both 2)) (10 ∷ 0 ∷ 0 ∷ 0 ∷ 0 ∷ 0 ∷ 0 ∷ [])
    ∷ same_numbers (read_fields (read_answer past 1)) (10 ∷ 0 ∷ 0 ∷ 0 ∷ 0 ∷ 0 ∷ 0 ∷ [])
    ∷ same_numbers (read_fields (read_answer no_book 0)) (1 ∷ 0 ∷ 0 ∷ 0 ∷ 0 ∷ 0 ∷ 0 ∷ [])
    ∷ same_numbers (read_fields (read_answer no_book 99)) (1 ∷ 0 ∷ 0 ∷ 0 ∷ 0 ∷ 0 ∷ 0 ∷ [])
    -- refused calls between accepted ones, on a book and on its ledger
    ∷ same_numbers (all_answers (book_answers (opened 13) calls)) call_answers
    ∷ same_numbers (book_after (opened 13) calls) (set both 5 0x31000014)
    ∷ same_numbers (all_answers (ledger_answers 13 calls)) call_answers
    ∷ same_numbers (all_fields (ledger_after 13 calls)) (999 ∷ 36524 ∷ 20 ∷ 0 ∷ 1 ∷ 10000000000000 ∷ 998 ∷ 9000 ∷ 6 ∷ 999 ∷ 0 ∷ 1000000000 ∷ [])
    ∷ same_numbers (all_answers (book_answers (opened 8) updates)) update_answers
    ∷ same_numbers (all_answers (ledger_answers 8 updates)) update_answers
    ∷ same_numbers (all_fields (ledger_after 8 updates)) (1 ∷ 9000 ∷ 22 ∷ 0 ∷ 1 ∷ 1000000000 ∷ [])
    ∷ []

pub book_figures-hold : every book_figures ≡ true
unfolding computed book_figures count_cause count_answer read_cause read_answer restatused ledger_fault stands_at withdrawn_at ledger_cause ledger_done ledger_after ledger_answers
book_figures-hold = refl
