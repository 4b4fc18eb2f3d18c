-- The day file (01, 'Day file').
use Rattle.std.specs.Prelude.{Bool, true, false, not, ◌&&◌, ◌||◌, List, [], ◌∷◌, map, ℕ, zero, suc, ◌+◌, ◌*◌, ◌/◌, ◌%◌, eqb, leb, ltb, length}
use Rattle.numbers.specs.Tests.{every, any}
use Rattle.numbers.specs.Causes.{unless, first_of}
use Rattle.rules.specs.Refusals.{bad_file, bad_party, bad_day, day_closed, no_room}
use Rattle.rules.specs.Entry.{Key, Record, key_of, record_of, fault, standing, party_ok, day_ok}
use Rattle.rules.specs.Words.{Frame, types, status_unit, low_amounts, kind_of, value_of}
use Rattle.rules.specs.Book.{shut_to}

-- little-endian words; bytes that make no whole word are left out
unfoldable pub words_of : List ℕ → List ℕ
words_of [] = []
words_of (a ∷ []) = []
words_of (a ∷ b ∷ []) = []
words_of (a ∷ b ∷ c ∷ []) = []
words_of (a ∷ b ∷ c ∷ d ∷ bs) = (a + b * 256 + c * 65536 + d * 16777216) ∷ words_of bs

abbrev pub most_bytes : ℕ
most_bytes = 65536

-- the bits of a block's first word: party, 0-15; number of lines, 16-27
abbrev pub parties : ℕ
parties = 65536

-- the bits of an amount in a line's kind 5 word, 0-15 (02, T-06)
abbrev pub high_amounts : ℕ
high_amounts = 65536

-- a block begins with kind 1, party and number of lines, and kind 2, the day
abbrev pub lines_in : ℕ → ℕ
lines_in w = value_of w / parties

abbrev pub party_in : ℕ → ℕ
party_in w = value_of w % parties

abbrev pub is_head : ℕ → ℕ → Bool
is_head w x = eqb (kind_of w) 1 && eqb (kind_of x) 2

-- a line is three words, kinds 3, 4 and 5, with status 0 and no unnamed bit set
abbrev pub is_line : ℕ → ℕ → ℕ → Bool
is_line w x y =
    every
    (eqb (kind_of w) 3
    ∷ ltb (value_of w) status_unit
    ∷ eqb (kind_of x) 4
    ∷ eqb (kind_of y) 5
    ∷ ltb (value_of y) high_amounts
    ∷ [])

-- the words from here on, with n lines of a block to come, are lines and whole blocks
unfoldable pub is_shaped : ℕ → List ℕ → Bool
is_shaped zero [] = true
is_shaped zero (w ∷ []) = false
is_shaped zero (w ∷ x ∷ ws) = is_head w x && is_shaped (lines_in w) ws
is_shaped (suc n) [] = false
is_shaped (suc n) (w ∷ []) = false
is_shaped (suc n) (w ∷ x ∷ []) = false
is_shaped (suc n) (w ∷ x ∷ y ∷ ws) = is_line w x y && is_shaped n ws

unfoldable pub is_file : List ℕ → Bool
is_file bs = every (leb (length bs) most_bytes ∷ eqb (length bs % 4) 0 ∷ is_shaped 0 (words_of bs) ∷ [])

-- what a file holds, in its order: lines and blocks without lines
pub data Item : Type 0 where
  line : Key → ℕ → Item
  empty_block : ℕ → ℕ → Item

-- a block's own item, if it has no lines
abbrev pub head_item : ℕ → ℕ → ℕ → List Item → List Item
head_item zero p d is = empty_block p d ∷ is
head_item (suc n) p d is = is

unfoldable pub items_from : ℕ → ℕ → ℕ → List ℕ → List Item
items_from zero p d [] = []
items_from zero p d (w ∷ []) = []
items_from zero p d (w ∷ x ∷ ws) =
    head_item (lines_in w) (party_in w) (value_of x) (items_from (lines_in w) (party_in w) (value_of x) ws)
items_from (suc n) p d [] = []
items_from (suc n) p d (w ∷ []) = []
items_from (suc n) p d (w ∷ x ∷ []) = []
items_from (suc n) p d (w ∷ x ∷ y ∷ ws) =
    line (key_of p d (value_of w % types) (value_of w / types)) (value_of x + value_of y * low_amounts) ∷ items_from n p d ws

unfoldable pub items : List ℕ → List Item
items bs = items_from 0 0 0 (words_of bs)

-- a line has the causes of a post but for room, a block without lines those of its party and day
unfoldable pub item_cause : List Record → Item → ℕ
item_cause rs (line k a) = first_of (fault k a ∷ unless (not (shut_to k rs)) day_closed ∷ [])
item_cause rs (empty_block p d) = first_of (unless (party_ok p) bad_party ∷ unless (day_ok d) bad_day ∷ [])

-- the lines, as standing records
unfoldable pub lines_of : List Item → List Record
lines_of [] = []
lines_of (line k a ∷ is) = record_of k standing a ∷ lines_of is
lines_of (empty_block p d ∷ is) = lines_of is

-- 2 first, then in file order the first faulty line or empty block; 9 if the lines do not fit
unfoldable pub file_refusal : Frame → List Record → List ℕ → ℕ
file_refusal f rs bs =
    first_of
    (unless (is_file bs) bad_file
    ∷ first_of (map (item_cause rs) (items bs))
    ∷ unless (leb (length rs + length (lines_of (items bs))) f.room) no_room
    ∷ [])

-- the parties and days that a file names: blocks, and counterparties above 0
unfoldable pub item_names : ℕ → ℕ → Item → Bool
item_names p d (line k a) = eqb k.day d && (eqb k.party p || (ltb 0 k.counterparty && eqb k.counterparty p))
item_names p d (empty_block q e) = eqb q p && eqb e d

unfoldable pub file_names : List ℕ → ℕ → ℕ → Bool
file_names bs p d = any (item_names p d) (items bs)
