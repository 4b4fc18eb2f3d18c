-- Worked figures of 01, 'Day file'.
-- Files are written as words by that section and turned into bytes by Worked's `bytes`; books, before and after, as words by 01, 'The words'.
-- The expected cause is the number of 01, 'Why a call comes back', for the first thing that is wrong in the file.
use mathlib.Core.Bool.{Bool, true, false, not, ◌&&◌}
use mathlib.Core.List.{List, [], ◌∷◌, ◌++◌, map}
use mathlib.Core.Path.{◌≡◌, refl}
use Prim.Native.Nat.{ℕ, ◌+◌, ◌*◌}
use lib.Dec.{eqb}
use lib.ListN.{length, take, set}
use Rattle.numbers.specs.Tests.{every}
use Rattle.rules.specs.DayFile.{words_of, is_shaped, is_file, items, file_names}
use Rattle.rules.specs.Calls.{file_answer}
use Rattle.rules.specs.declared.FileRead.{FileRead}
use Rattle.rules.proofs.Worked.{file_words, bytes, same_numbers, computed}
use Rattle.rules.proofs.ControlFigures.{entry, joined, page, mark}
use Rattle.rules.proofs.WordFigures.{high_bits, spare_bits}

-- a block's two words: party, number of lines, day; a line's three: type, counterparty, an amount below 2^28
abbrev head : ℕ → ℕ → ℕ → List ℕ
head p n d = (0x10000000 + n * 0x10000 + p) ∷ (0x20000000 + d) ∷ []

abbrev line : ℕ → ℕ → ℕ → List ℕ
line t c a = (0x30000000 + c * 0x100 + t) ∷ (0x40000000 + a) ∷ 0x50000000 ∷ []

abbrev file : List (List ℕ) → List ℕ
file ps = bytes (joined ps)

-- a file read into a book of these entries and so many words after them: the answer and the words left
abbrev answer_is : List ℕ → List ℕ → ℕ → ℕ → Bool
answer_is ws bs cause n =
    let r : FileRead = file_answer ws bs in
    eqb r.answer cause && eqb r.posted n

abbrev posts : List (List ℕ) → ℕ → List ℕ → List ℕ → ℕ → Bool
posts es spare bs left n = answer_is (page es spare) bs 0 n && same_numbers (file_words (page es spare) bs) left

-- on a refusal nothing is posted and the words are as before
abbrev refused_in : List ℕ → ℕ → List ℕ → Bool
refused_in ws cause bs = answer_is ws bs cause 0 && same_numbers (file_words ws bs) ws

abbrev refused : ℕ → List (List ℕ) → Bool
refused cause ps = refused_in (page [] 50) cause (file ps)

abbrev taken : List (List ℕ) → ℕ → Bool
taken ps n = answer_is (page [] 50) (file ps) 0 n

-- a block of party 1 and day 5 with one line of these words
abbrev one_line : ℕ → ℕ → ℕ → List (List ℕ)
one_line w x y = head 1 1 5 ∷ (w ∷ x ∷ y ∷ []) ∷ []

-- Cause 2: length, kinds, spare or status bits, ending
pub file_shapes : List Bool
file_shapes =
    -- little-endian; bytes that make no whole word
    same_numbers (words_of (1 ∷ 2 ∷ 3 ∷ 4 ∷ 5 ∷ 6 ∷ 7 ∷ 8 ∷ [])) (0x04030201 ∷ 0x08070605 ∷ [])
    ∷ same_numbers (words_of (1 ∷ 2 ∷ 3 ∷ 4 ∷ 5 ∷ 6 ∷ 7 ∷ [])) (0x04030201 ∷ [])
    ∷ same_numbers (words_of (1 ∷ 2 ∷ 3 ∷ 4 ∷ 5 ∷ 6 ∷ [])) (0x04030201 ∷ [])
    ∷ same_numbers (words_of (1 ∷ 2 ∷ 3 ∷ 4 ∷ 5 ∷ [])) (0x04030201 ∷ [])
    ∷ same_numbers (words_of (255 ∷ 255 ∷ 255 ∷ 255 ∷ [])) (0xFFFFFFFF ∷ [])
    -- an empty file is legal; a length that is no multiple of 4
    ∷ refused_in (page [] 50) 0 []
    ∷ refused_in (page [] 50) 2 (0 ∷ [])
    ∷ refused_in (page [] 50) 2 (0 ∷ 0 ∷ [])
    ∷ refused_in (page [] 50) 2 (0 ∷ 0 ∷ 0 ∷ [])
    ∷ refused_in (page [] 50) 2 (file (head 1 0 5 ∷ []) ++ (0 ∷ []))
    ∷ refused_in (page [] 50) 2 (file (head 1 0 5 ∷ []) ++ (0 ∷ 0 ∷ []))
    ∷ refused_in (page [] 50) 2 (file (head 1 0 5 ∷ []) ++ (0 ∷ 0 ∷ 0 ∷ []))
    ∷ refused_in (page [] 50) 2 (take 7 (file (head 1 0 5 ∷ [])))
    -- the kinds of a block's two words, all four bits of them
    ∷ taken (head 1 0 5 ∷ []) 0
    ∷ refused 2 ((0x00000001 ∷ 0x20000005 ∷ []) ∷ [])
    ∷ refused 2 ((0x20000001 ∷ 0x20000005 ∷ []) ∷ [])
    ∷ refused 2 ((0x30000001 ∷ 0x20000005 ∷ []) ∷ [])
    ∷ refused 2 ((0x50000001 ∷ 0x20000005 ∷ []) ∷ [])
    ∷ refused 2 ((0x90000001 ∷ 0x20000005 ∷ []) ∷ [])
    ∷ refused 2 ((0x10000001 ∷ 0x00000005 ∷ []) ∷ [])
    ∷ refused 2 ((0x10000001 ∷ 0x10000005 ∷ []) ∷ [])
    ∷ refused 2 ((0x10000001 ∷ 0x30000005 ∷ []) ∷ [])
    ∷ refused 2 ((0x10000001 ∷ 0x60000005 ∷ []) ∷ [])
    ∷ refused 2 ((0x10000001 ∷ 0xA0000005 ∷ []) ∷ [])
    -- the kinds of a line's three words
    ∷ taken (one_line 0x30000001 0x40000007 0x50000000) 1
    ∷ refused 2 (one_line 0x20000001 0x40000007 0x50000000)
    ∷ refused 2 (one_line 0x40000001 0x40000007 0x50000000)
    ∷ refused 2 (one_line 0x70000001 0x40000007 0x50000000)
    ∷ refused 2 (one_line 0xB0000001 0x40000007 0x50000000)
    ∷ refused 2 (one_line 0x30000001 0x30000007 0x50000000)
    ∷ refused 2 (one_line 0x30000001 0x50000007 0x50000000)
    ∷ refused 2 (one_line 0x30000001 0x00000007 0x50000000)
    ∷ refused 2 (one_line 0x30000001 0xC0000007 0x50000000)
    ∷ refused 2 (one_line 0x30000001 0x40000007 0x40000000)
    ∷ refused 2 (one_line 0x30000001 0x40000007 0x60000000)
    ∷ refused 2 (one_line 0x30000001 0x40000007 0x10000000)
    ∷ refused 2 (one_line 0x30000001 0x40000007 0xD0000000)
    -- status and spare bits of kind 3, bits 24 to 27
    ∷ refused 2 (one_line 0x31000000 0x40000007 0x50000000)
    ∷ refused 2 (one_line 0x31000001 0x40000007 0x50000000)
    ∷ refused 2 (one_line 0x32000206 0x40000007 0x50000000)
    ∷ refused 2 (one_line 0x34000001 0x40000007 0x50000000)
    ∷ refused 2 (one_line 0x38000001 0x40000007 0x50000000)
    -- bits 12 to 15 of kind 5 are an amount's: of money they are taken, a volume is too large, and 3 to 6 come first
    ∷ every (map (λ y. taken (one_line 0x30000014 0x40000007 y) 1) high_bits)
    ∷ every (map (λ y. refused 7 (one_line 0x30000001 0x40000007 y)) high_bits)
    ∷ refused 3 (head 0 1 5 ∷ (0x30000001 ∷ 0x40000007 ∷ 0x50001000 ∷ []) ∷ [])
    ∷ refused 4 (head 1 1 36525 ∷ (0x30000001 ∷ 0x40000007 ∷ 0x50001000 ∷ []) ∷ [])
    ∷ refused 5 (one_line 0x30000015 0x40000007 0x50001000)
    ∷ refused 6 (one_line 0x30000201 0x40000007 0x50001000)
    -- spare bits of kind 5, bits 16 to 27
    ∷ every (map (λ y. refused 2 (one_line 0x30000001 0x40000007 y)) spare_bits)
    ∷ every (map (λ y. refused 2 (one_line 0x30000014 0x40000007 y)) spare_bits)
    -- kinds 1, 2, 4 and the lower bits of 3 and 5 have no spare bit: party, day, type, counterparty and amount are too large
    ∷ refused 3 ((0x1000FFFF ∷ 0x20000005 ∷ []) ∷ [])
    ∷ refused 4 ((0x10000001 ∷ 0x2FFFFFFF ∷ []) ∷ [])
    ∷ refused 5 (one_line 0x300000FF 0x40000007 0x50000000)
    ∷ refused 6 (one_line 0x30FFFF06 0x40000007 0x50000000)
    ∷ refused 7 (one_line 0x30000001 0x4FFFFFFF 0x5000FFFF)
    -- the file ends inside a block's head, inside a line, and before the lines told; more lines than told
    ∷ refused 2 ((0x10000001 ∷ []) ∷ [])
    ∷ refused 2 (head 1 0 5 ∷ (0x10000001 ∷ []) ∷ [])
    ∷ refused 2 (head 1 1 5 ∷ (0x30000001 ∷ []) ∷ [])
    ∷ refused 2 (head 1 1 5 ∷ (0x30000001 ∷ 0x40000007 ∷ []) ∷ [])
    ∷ refused 2 (head 1 1 5 ∷ [])
    ∷ refused 2 (head 1 2 5 ∷ line 1 0 7 ∷ [])
    ∷ refused 2 (head 1 4095 5 ∷ line 1 0 7 ∷ [])
    ∷ refused 2 (head 1 0 5 ∷ line 1 0 7 ∷ [])
    ∷ refused 2 (head 1 1 5 ∷ line 1 0 7 ∷ line 1 0 7 ∷ [])
    ∷ refused 2 (head 1 2 5 ∷ line 1 0 7 ∷ head 2 0 5 ∷ [])
    -- the number of lines is bits 16 to 27: a bit of them more is lines told, and none there
    ∷ refused 2 ((0x10010001 ∷ 0x20000005 ∷ []) ∷ [])
    ∷ refused 2 ((0x10800001 ∷ 0x20000005 ∷ []) ∷ [])
    ∷ refused 2 ((0x18000001 ∷ 0x20000005 ∷ []) ∷ [])
    -- 2 before 3 to 8, wherever the file breaks; 1 before 2 and before all
    ∷ refused 2 (head 0 0 5 ∷ head 1 1 5 ∷ [])
    ∷ refused 2 (head 1 1 36525 ∷ line 0 0 7 ∷ (0x20000001 ∷ 0x20000005 ∷ []) ∷ [])
    ∷ refused_in [] 1 []
    ∷ refused_in (set (page [] 50) 1 0x700003E9) 1 (0 ∷ [])
    ∷ refused_in (set (page [] 50) 1 0x700003E9) 1 (file (head 0 0 5 ∷ []))
    ∷ refused_in (page [] 0) 2 (0 ∷ [])
    ∷ []

pub file_shapes-hold : every file_shapes ≡ true
unfolding computed joined file_shapes
file_shapes-hold = refl

-- At most 65,536 bytes: a file of just that length is one if its words are blocks, a longer one is none.
pub longest-file : (bs : List ℕ) → length bs ≡ 65536 → is_file bs ≡ is_shaped 0 (words_of bs)
unfolding is_file
longest-file bs e = rw e refl

pub longer-file : (bs : List ℕ) → length bs ≡ 65540 → is_file bs ≡ false
unfolding is_file
longer-file bs e = rw e refl

-- Causes 3 to 9. The faulty line or empty block that stands first in the file decides, whatever its number
abbrev closed : List ℕ
closed = page (entry 1 5 6 2 2 101 ∷ mark 5 ∷ []) 10

-- lines with one fault each; a block of party 0, and of the day after the last, without lines
abbrev bad_party : List (List ℕ)
bad_party = head 0 1 5 ∷ line 1 0 7 ∷ []

abbrev bad_amount : List (List ℕ)
bad_amount = head 1 1 5 ∷ (0x30000001 ∷ 0x4B9ACA01 ∷ 0x50000003 ∷ []) ∷ []

abbrev bad_type : List (List ℕ)
bad_type = head 1 1 5 ∷ line 21 0 7 ∷ []

abbrev no_party : List (List ℕ)
no_party = head 0 0 5 ∷ []

abbrev no_day : List (List ℕ)
no_day = head 1 0 36525 ∷ []

abbrev good : List (List ℕ)
good = head 1 1 5 ∷ line 1 0 7 ∷ []

pub file_causes : List Bool
file_causes =
    -- party 1 to 999, with lines and without; its 16 bits
    refused 3 bad_party
    ∷ taken (head 999 1 5 ∷ line 1 0 7 ∷ []) 1
    ∷ refused 3 (head 1000 1 5 ∷ line 1 0 7 ∷ [])
    ∷ refused 3 (head 1025 1 5 ∷ line 1 0 7 ∷ [])
    ∷ refused 3 (head 0x8001 1 5 ∷ line 1 0 7 ∷ [])
    ∷ refused 3 no_party
    ∷ taken (head 999 0 5 ∷ []) 0
    ∷ refused 3 (head 1000 0 5 ∷ [])
    -- day 0 to 36,524
    ∷ taken (head 1 1 36524 ∷ line 1 0 7 ∷ []) 1
    ∷ refused 4 (head 1 1 36525 ∷ line 1 0 7 ∷ [])
    ∷ refused 4 (head 1 1 0x10005 ∷ line 1 0 7 ∷ [])
    ∷ taken (head 1 0 0 ∷ []) 0
    ∷ taken (head 1 0 36524 ∷ []) 0
    ∷ refused 4 no_day
    -- type 1 to 20 and 22, its 8 bits
    ∷ refused 5 (head 1 1 5 ∷ line 0 0 7 ∷ [])
    ∷ taken (head 1 1 5 ∷ line 20 0 7 ∷ []) 1
    ∷ refused 5 bad_type
    ∷ taken (head 1 1 5 ∷ line 22 0 7 ∷ []) 1
    ∷ refused 5 (head 1 1 5 ∷ line 23 0 7 ∷ [])
    ∷ refused 5 (head 1 1 5 ∷ line 129 0 7 ∷ [])
    -- counterparty 0 outside type 6; in it 0 to 999 and not the party; its 16 bits
    ∷ refused 6 (head 1 1 5 ∷ line 1 2 7 ∷ [])
    ∷ refused 6 (head 1 1 5 ∷ line 22 2 7 ∷ [])
    ∷ taken (head 1 1 5 ∷ line 6 0 7 ∷ []) 1
    ∷ taken (head 1 1 5 ∷ line 6 999 7 ∷ []) 1
    ∷ refused 6 (head 1 1 5 ∷ line 6 1000 7 ∷ [])
    ∷ refused 6 (head 1 1 5 ∷ line 6 1 7 ∷ [])
    ∷ refused 6 (head 1 1 5 ∷ line 6 0x8002 7 ∷ [])
    -- amounts to 10^9, of money to 10^13; 10^12 is too much for a volume
    ∷ taken (one_line 0x30000010 0x4B9ACA00 0x50000003) 1
    ∷ refused 7 bad_amount
    ∷ refused 7 (one_line 0x30000010 0x44A51000 0x50000E8D)
    ∷ taken (one_line 0x30000016 0x4B9ACA00 0x50000003) 1
    ∷ refused 7 (one_line 0x30000016 0x4B9ACA01 0x50000003)
    ∷ refused 7 (one_line 0x30000016 0x44A51000 0x50000E8D)
    ∷ taken (one_line 0x30000011 0x4E72A000 0x50009184) 1
    ∷ refused 7 (one_line 0x30000011 0x4E72A001 0x50009184)
    -- a closed day's bilateral sale; exports, other types, other days and blocks without lines go on
    ∷ refused_in closed 8 (file (head 3 1 5 ∷ line 6 4 7 ∷ []))
    ∷ refused_in closed 8 (file (good ++ (head 3 2 5 ∷ line 1 0 7 ∷ line 6 4 7 ∷ [])))
    ∷ answer_is closed (file (head 3 2 5 ∷ line 6 0 7 ∷ line 1 0 7 ∷ [])) 0 2
    ∷ answer_is closed (file (head 3 1 5 ∷ line 22 0 7 ∷ [])) 0 1
    ∷ answer_is closed (file (head 3 1 6 ∷ line 6 4 7 ∷ [])) 0 1
    ∷ answer_is closed (file (head 3 0 5 ∷ [])) 0 0
    -- within a line or an empty block the lowest number
    ∷ refused 3 (head 0 1 36525 ∷ line 21 1 7 ∷ [])
    ∷ refused 4 (head 1 1 36525 ∷ line 21 1 7 ∷ [])
    ∷ refused 5 (one_line 0x30000115 0x4B9ACA01 0x50000003)
    ∷ refused 6 (one_line 0x30000106 0x4B9ACA01 0x50000003)
    ∷ refused_in closed 7 (file (one_line 0x30000206 0x4B9ACA01 0x50000003))
    ∷ refused 3 (head 0 0 36525 ∷ [])
    -- in file order: a later line or block with a lower number does not count
    ∷ refused 7 (bad_amount ++ bad_party)
    ∷ refused 3 (bad_party ++ bad_amount)
    ∷ refused 7 (head 1 2 5 ∷ (0x30000001 ∷ 0x4B9ACA01 ∷ 0x50000003 ∷ []) ∷ line 21 0 7 ∷ [])
    ∷ refused 5 (head 1 2 5 ∷ line 21 0 7 ∷ (0x30000001 ∷ 0x4B9ACA01 ∷ 0x50000003 ∷ []) ∷ [])
    ∷ refused_in closed 8 (file (head 3 1 5 ∷ line 6 4 7 ∷ bad_party))
    ∷ refused_in closed 3 (file (bad_party ++ (head 3 1 5 ∷ line 6 4 7 ∷ [])))
    ∷ refused 7 (one_line 0x30000001 0x40000007 0x50001000 ++ bad_party)
    ∷ refused 3 (bad_party ++ one_line 0x30000001 0x40000007 0x50001000)
    ∷ refused 3 (no_party ++ bad_amount)
    ∷ refused 7 (bad_amount ++ no_party)
    ∷ refused 4 (no_day ++ no_party)
    ∷ refused 3 (no_party ++ no_day)
    ∷ refused 4 (good ++ no_day ++ bad_type)
    ∷ refused 5 (good ++ bad_type ++ no_day)
    -- 9 follows if the lines do not fit: ten words hold two lines, nine hold one
    ∷ posts [] 10 (file (head 1 2 5 ∷ line 1 0 7 ∷ line 1 0 8 ∷ [])) (page (entry 1 5 1 0 0 7 ∷ entry 1 5 1 0 0 8 ∷ []) 0) 2
    ∷ refused_in (page [] 9) 9 (file (head 1 2 5 ∷ line 1 0 7 ∷ line 1 0 8 ∷ []))
    ∷ refused_in (page [] 10) 9 (file (head 1 3 5 ∷ line 1 0 7 ∷ line 1 0 8 ∷ line 1 0 9 ∷ []))
    ∷ refused_in (page [] 10) 9 (file (good ++ good ++ good))
    ∷ refused_in (page (entry 1 5 1 0 0 7 ∷ []) 4) 9 (file good)
    ∷ posts (entry 1 5 1 0 0 7 ∷ []) 0 [] (page (entry 1 5 1 0 0 7 ∷ []) 0) 0
    ∷ posts (entry 1 5 1 0 0 7 ∷ []) 0 (file (head 1 0 5 ∷ head 2 0 6 ∷ [])) (page (entry 1 5 1 0 0 7 ∷ []) 0) 0
    -- a faulty line or empty block in a full book answers its own cause, also after a line that does not fit
    ∷ refused_in (page [] 0) 5 (file bad_type)
    ∷ refused_in (page [] 0) 3 (file (good ++ no_party))
    ∷ refused_in (page [] 0) 7 (file (good ++ bad_amount))
    ∷ refused_in (page (entry 1 5 6 2 2 101 ∷ mark 5 ∷ []) 0) 8 (file (good ++ (head 3 1 5 ∷ line 6 4 7 ∷ [])))
    ∷ []

pub file_causes-hold : every file_causes ≡ true
unfolding computed joined file_causes
file_causes-hold = refl

-- All lines are posted or none: standing entries after those of the book, in file order; the answer counts lines
pub file_posts : List Bool
file_posts =
    posts
    (entry 3 4 6 9 2 50 ∷ mark 4 ∷ [])
    22
    (file (head 1 2 5 ∷ line 6 2 700 ∷ line 12 0 9 ∷ head 7 0 5 ∷ head 999 1 36524 ∷ line 6 0 0 ∷ head 8 0 6 ∷ []))
    (page (entry 3 4 6 9 2 50 ∷ mark 4 ∷ entry 1 5 6 2 0 700 ∷ entry 1 5 12 0 0 9 ∷ entry 999 36524 6 0 0 0 ∷ []) 7)
    3
    -- counterparty 999 and 256; an amount of 10^13 in both its words
    ∷ posts
    []
    15
    (file (head 258 3 36524 ∷ line 6 999 1 ∷ line 6 256 0xFFFFFFF ∷ (0x30000013 ∷ 0x4E72A000 ∷ 0x50009184 ∷ []) ∷ []))
    (page (entry 258 36524 6 999 0 1 ∷ entry 258 36524 6 256 0 0xFFFFFFF ∷ (0x10000102 ∷ 0x20008EAC ∷ 0x30000013 ∷ 0x4E72A000 ∷ 0x50009184 ∷ []) ∷ []) 0)
    3
    -- an updated program is posted as any line
    ∷ posts [] 5 (file (head 1 1 5 ∷ line 22 0 9 ∷ [])) (page (entry 1 5 22 0 0 9 ∷ []) 0) 1
    -- the same block twice is posted twice
    ∷ posts [] 10 (file (good ++ good)) (page (entry 1 5 1 0 0 7 ∷ entry 1 5 1 0 0 7 ∷ []) 0) 2
    -- the words of the sample of 01, one by one
    ∷ posts
    []
    10
    (file ((0x10020001 ∷ 0x20002328 ∷ 0x30000206 ∷ 0x400AAE60 ∷ 0x50000000 ∷ 0x3000000C ∷ 0x4007A120 ∷ 0x50000000 ∷ []) ∷ []))
    (0x60000002 ∷ 0x700000C8 ∷ 0x80000064 ∷ 0x10000001 ∷ 0x20002328 ∷ 0x30000206 ∷ 0x400AAE60 ∷ 0x50000000 ∷ 0x10000001 ∷ 0x20002328 ∷ 0x3000000C ∷ 0x4007A120 ∷ 0x50000000 ∷ [])
    2
    ∷ []

pub file_posts-hold : every file_posts ≡ true
unfolding computed joined file_posts
file_posts-hold = refl

-- A file names each block's party and day, with lines or without, and counterparties above 0 on that day
abbrev three_blocks : List ℕ
three_blocks = file (head 1 3 5 ∷ line 6 2 700 ∷ line 6 0 9 ∷ line 1 0 9 ∷ head 3 0 6 ∷ head 4 1 7 ∷ line 17 0 9 ∷ [])

pub names_in_file : List Bool
names_in_file =
    file_names three_blocks 1 5
    ∷ file_names three_blocks 2 5
    ∷ file_names three_blocks 3 6
    ∷ file_names three_blocks 4 7
    ∷ not (file_names three_blocks 0 5)
    ∷ not (file_names three_blocks 0 7)
    ∷ not (file_names three_blocks 1 6)
    ∷ not (file_names three_blocks 2 6)
    ∷ not (file_names three_blocks 2 7)
    ∷ not (file_names three_blocks 3 5)
    ∷ not (file_names three_blocks 4 5)
    ∷ not (file_names three_blocks 5 5)
    ∷ not (file_names three_blocks 5 1)
    -- what it holds: three lines, a block without lines, a line
    ∷ eqb (length (items three_blocks)) 5
    ∷ eqb (length (items [])) 0
    ∷ not (file_names [] 1 5)
    ∷ not (file_names [] 0 0)
    ∷ []

pub names_in_file-hold : every names_in_file ≡ true
unfolding computed joined names_in_file
names_in_file-hold = refl
