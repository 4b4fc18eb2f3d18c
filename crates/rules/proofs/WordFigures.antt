-- Worked figures of 01, 'The words': each field of a word at its lowest and highest bit, what is a book and what is not, and the room of a slice.
-- Words are written in hexadecimal by their bits: 110 is 6E, 600,000 is 927C0, 999 is 3E7, day 36,524 is 8EAC, day 9,000 is 2328,
-- 10^9 is 3B9ACA00 (low 28 bits B9ACA00, next 3), 10^12 is E8D4A51000 (low 28 bits 4A51000, next E8D),
-- 10^13 is 9184E72A000 (low 28 bits E72A000, next 9184).
use mathlib.Core.Bool.{Bool, true, not}
use mathlib.Core.List.{List, [], ◌∷◌, ◌++◌, map}
use mathlib.Core.Path.{◌≡◌, refl}
use Prim.Native.Nat.{ℕ}
use lib.Dec.{eqb}
use lib.ListN.{replicate, set, take}
use Rattle.numbers.specs.Tests.{every, any}
use Rattle.rules.specs.Entry.{Record, key_of, record_of, key, day_places, party_places}
use Rattle.rules.specs.Words.{kind_of, value_of, encode, decode, count_of, coefficient_of, tolerance_of, room_in, is_book, entries, used_words, laid, book_words}
use Rattle.rules.proofs.Worked.{same_numbers, computed}

-- the figures of an entry: party, day, type, counterparty, status, amount
abbrev pub fields : Record → List ℕ
fields r = (key r).party ∷ (key r).day ∷ (key r).type ∷ (key r).counterparty ∷ r.label.status ∷ r.amount ∷ []

abbrev pub all_fields : List Record → List ℕ
all_fields [] = []
all_fields (r ∷ rs) = fields r ++ all_fields rs

-- a record, and its five words
abbrev words_are : Record → List ℕ → Bool
words_are r ws = every (same_numbers (encode r) ws ∷ same_numbers (fields (decode ws)) (fields r) ∷ [])

-- a cancelled sale of party 999 to 998 on the last day; a withdrawn sale of 10^13; a mark; the highest bit of each field set
abbrev sold_last : Record
sold_last = record_of (key_of 999 36524 6 998) 2 1000000000

abbrev sold_last_words : List ℕ
sold_last_words = 0x100003E7 ∷ 0x20008EAC ∷ 0x3203E606 ∷ 0x4B9ACA00 ∷ 0x50000003 ∷ []

abbrev paid : Record
paid = record_of (key_of 1 0 20 0) 1 10000000000000

abbrev paid_words : List ℕ
paid_words = 0x10000001 ∷ 0x20000000 ∷ 0x31000014 ∷ 0x4E72A000 ∷ 0x50009184 ∷ []

abbrev marked : Record
marked = record_of (key_of 0 9000 21 0) 0 0

abbrev marked_words : List ℕ
marked_words = 0x10000000 ∷ 0x20002328 ∷ 0x30000015 ∷ 0x40000000 ∷ 0x50000000 ∷ []

abbrev top_bits : Record
top_bits = record_of (key_of 0x8001 0x8001 0x81 0x8001) 3 0x80018000001

-- a book of one standing day-ahead sale, and that book with one word changed
abbrev sale : List ℕ
sale = 0x60000001 ∷ 0x7000006E ∷ 0x800927C0 ∷ 0x10000001 ∷ 0x20002328 ∷ 0x30000001 ∷ 0x40000005 ∷ 0x50000000 ∷ []

abbrev is_book_with : ℕ → ℕ → Bool
is_book_with i w = is_book (set sale i w)

-- a book of this type with these two words of the amount
abbrev is_book_of : ℕ → ℕ → ℕ → Bool
is_book_of w low high = is_book (take 5 sale ++ (w ∷ low ∷ high ∷ []))

-- a kind 5 word with each of the bits 12 to 15, and with each of those that have no name, 16 to 27
abbrev pub high_bits : List ℕ
high_bits = 0x50001000 ∷ 0x50002000 ∷ 0x50004000 ∷ 0x50008000 ∷ []

abbrev pub spare_bits : List ℕ
spare_bits = 0x50010000 ∷ 0x50020000 ∷ 0x50040000 ∷ 0x50080000 ∷ 0x50100000 ∷ 0x50200000 ∷ 0x50400000 ∷ 0x50800000 ∷ 0x51000000 ∷ 0x52000000 ∷ 0x54000000 ∷ 0x58000000 ∷ []

-- two entries, and five words of a third after them
abbrev two_and_more : List ℕ
two_and_more = 0x60000002 ∷ 0x700003E8 ∷ 0x8BEBC200 ∷ (sold_last_words ++ paid_words ++ marked_words)

pub word_figures : List Bool
word_figures =
    -- a word's top four bits of 32 are its kind
    eqb (kind_of 0x8FFFFFFF) 8
    ∷ eqb (kind_of 0x70000000) 7
    ∷ eqb (value_of 0x8FFFFFFF) 0xFFFFFFF
    ∷ eqb (value_of 0x70000000) 0
    -- the words of an entry, both ways
    ∷ words_are sold_last sold_last_words
    ∷ words_are paid paid_words
    ∷ words_are marked marked_words
    ∷ words_are top_bits (0x10008001 ∷ 0x20008001 ∷ 0x33800181 ∷ 0x48000001 ∷ 0x50008001 ∷ [])
    -- a book of no entries has three words
    ∷ is_book (0x60000000 ∷ 0x7000006E ∷ 0x800927C0 ∷ [])
    ∷ is_book (0x60000000 ∷ 0x7000006E ∷ 0x800927C0 ∷ 7 ∷ [])
    ∷ not (is_book (0x60000000 ∷ 0x7000006E ∷ []))
    ∷ not (is_book [])
    -- eight words hold one entry, seven none
    ∷ is_book sale
    ∷ is_book (sale ++ (7 ∷ []))
    ∷ not (is_book (take 7 sale))
    ∷ not (is_book_with 0 0x60000002)
    -- each word has its kind
    ∷ not (is_book_with 0 0x50000001)
    ∷ not (is_book_with 0 0x70000001)
    ∷ not (is_book_with 1 0x6000006E)
    ∷ not (is_book_with 1 0x8000006E)
    ∷ not (is_book_with 2 0x700927C0)
    ∷ not (is_book_with 2 0x900927C0)
    ∷ not (is_book_with 3 0x00000001)
    ∷ not (is_book_with 3 0x20000001)
    ∷ not (is_book_with 4 0x10002328)
    ∷ not (is_book_with 4 0x30002328)
    ∷ not (is_book_with 5 0x20000001)
    ∷ not (is_book_with 5 0x40000001)
    ∷ not (is_book_with 6 0x30000005)
    ∷ not (is_book_with 6 0x50000005)
    ∷ not (is_book_with 7 0x40000000)
    ∷ not (is_book_with 7 0x60000000)
    -- R is 0 to 1,000 (3E8), TM 0 to 200,000,000 (BEBC200)
    ∷ is_book_with 1 0x70000000
    ∷ is_book_with 1 0x700003E8
    ∷ not (is_book_with 1 0x700003E9)
    ∷ is_book_with 2 0x80000000
    ∷ is_book_with 2 0x8BEBC200
    ∷ not (is_book_with 2 0x8BEBC201)
    -- party and day at their edges, and with the lowest and highest unnamed bits
    ∷ not (is_book_with 3 0x10000000)
    ∷ is_book_with 3 0x100003E7
    ∷ not (is_book_with 3 0x100003E8)
    ∷ not (is_book_with 3 0x10010001)
    ∷ not (is_book_with 3 0x18000001)
    ∷ is_book_with 4 0x20008EAC
    ∷ not (is_book_with 4 0x20008EAD)
    ∷ not (is_book_with 4 0x20012328)
    ∷ not (is_book_with 4 0x28002328)
    -- type, counterparty and status; bits 26 and 27 have no name
    ∷ not (is_book_with 5 0x30000000)
    ∷ not (is_book_with 5 0x30000015)
    ∷ is_book_with 5 0x30000016
    ∷ not (is_book_with 5 0x30000017)
    ∷ not (is_book_with 5 0x30000101)
    ∷ is_book_with 5 0x30000206
    ∷ not (is_book_with 5 0x30000106)
    ∷ is_book_with 5 0x3003E706
    ∷ not (is_book_with 5 0x3003E806)
    ∷ is_book_with 5 0x31000001
    ∷ not (is_book_with 5 0x32000001)
    ∷ is_book_with 5 0x32000206
    ∷ not (is_book_with 5 0x33000206)
    ∷ not (is_book_with 5 0x34000001)
    ∷ not (is_book_with 5 0x38000001)
    -- amounts: 10^9 of a sale, 10^13 of money, and one beyond each; 10^12 is too much for a volume
    ∷ is_book_of 0x30000001 0x4B9ACA00 0x50000003
    ∷ not (is_book_of 0x30000001 0x4B9ACA01 0x50000003)
    ∷ not (is_book_of 0x30000001 0x40000000 0x50000004)
    ∷ not (is_book_of 0x30000010 0x44A51000 0x50000E8D)
    ∷ is_book_of 0x30000016 0x4B9ACA00 0x50000003
    ∷ not (is_book_of 0x30000016 0x4B9ACA01 0x50000003)
    ∷ not (is_book_of 0x30000016 0x44A51000 0x50000E8D)
    ∷ is_book_of 0x30000011 0x4E72A000 0x50009184
    ∷ not (is_book_of 0x30000011 0x4E72A001 0x50009184)
    ∷ not (is_book_of 0x30000011 0x40000000 0x50009185)
    -- bits 12 to 15 of kind 5 are the amount's, of money alone; 16 to 27 have no name
    ∷ every (map (is_book_of 0x30000014 0x40000000) high_bits)
    ∷ not (any (is_book_of 0x30000001 0x40000000) high_bits)
    ∷ not (any (is_book_of 0x30000014 0x40000000) spare_bits)
    -- a mark instead of the sale
    ∷ is_book (take 3 sale ++ marked_words)
    -- every entry counts, words after the last do not
    ∷ is_book two_and_more
    ∷ not (is_book (set two_and_more 7 0x50000004))
    ∷ not (is_book (set two_and_more 12 0x50009185))
    ∷ is_book (set two_and_more 13 0xFFFFFFFF)
    ∷ eqb (count_of two_and_more) 2
    ∷ eqb (coefficient_of two_and_more) 1000
    ∷ eqb (tolerance_of two_and_more) 200000000
    ∷ same_numbers (all_fields (entries two_and_more)) (fields sold_last ++ fields paid)
    ∷ same_numbers (all_fields (entries (set two_and_more 0 0x60000003))) (fields sold_last ++ fields paid ++ fields marked)
    -- room is (words lent - 3) / 5, rounded down, at most 3,072: 15,363 words
    ∷ same_numbers (map room_in (0 ∷ 3 ∷ 7 ∷ 8 ∷ 12 ∷ 13 ∷ [])) (0 ∷ 0 ∷ 0 ∷ 1 ∷ 1 ∷ 2 ∷ [])
    ∷ same_numbers (map room_in (15358 ∷ 15362 ∷ 15363 ∷ 15367 ∷ 15368 ∷ 1000000 ∷ [])) (3071 ∷ 3071 ∷ 3072 ∷ 3072 ∷ 3072 ∷ 3072 ∷ [])
    ∷ same_numbers (book_words ∷ day_places ∷ party_places ∷ []) (15363 ∷ 36525 ∷ 1000 ∷ [])
    -- 3,073 entries are no book, though each is legal
    ∷ not (is_book (used_words 110 600000 (replicate 3073 paid)))
    -- the words that records use, and the words past them as they were
    ∷ same_numbers (used_words 1000 200000000 (sold_last ∷ paid ∷ [])) (0x60000002 ∷ 0x700003E8 ∷ 0x8BEBC200 ∷ (sold_last_words ++ paid_words))
    ∷ same_numbers (laid 110 600000 (paid ∷ []) (replicate 8 7 ++ (8 ∷ 9 ∷ []))) (0x60000001 ∷ 0x7000006E ∷ 0x800927C0 ∷ (paid_words ++ (8 ∷ 9 ∷ [])))
    ∷ same_numbers (laid 110 600000 [] (7 ∷ 7 ∷ 7 ∷ 8 ∷ [])) (0x60000000 ∷ 0x7000006E ∷ 0x800927C0 ∷ 8 ∷ [])
    ∷ []

pub word_figures-hold : every word_figures ≡ true
unfolding computed word_figures
word_figures-hold = refl
