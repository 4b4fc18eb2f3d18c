-- The words of a book, and what a book is (01, 'The words').
use Rattle.std.specs.Prelude.{Bool, true, ◌&&◌, List, [], ◌∷◌, ◌++◌, ℕ, zero, suc, ◌+◌, ◌-◌, ◌*◌, ◌/◌, ◌%◌, min, eqb, leb, length, get_or, drop}
use Rattle.numbers.specs.Tests.{every}
use Rattle.rules.specs.Entry.{Record, key_of, record_of, key, legal}

-- a word has 32 bits; its top four are its kind, those below them its value
abbrev pub values : ℕ
values = 268435456

-- the bits of a kind 3 word: type, 0-7; counterparty, 8-23; status, 24-25
abbrev pub types : ℕ
types = 256

abbrev pub counterparties : ℕ
counterparties = 65536

abbrev pub status_unit : ℕ
status_unit = 16777216

-- the bits of an amount: the low 28 in a kind 4 word, the next 16 in a kind 5 word (02, T-06)
abbrev pub low_amounts : ℕ
low_amounts = 268435456

abbrev pub word : ℕ → ℕ → ℕ
word kind value = kind * values + value

abbrev pub kind_of : ℕ → ℕ
kind_of w = w / values

abbrev pub value_of : ℕ → ℕ
value_of w = w % values

-- the value of a kind 3 word
abbrev pub type_bits : ℕ → ℕ → ℕ → ℕ
type_bits t c s = t + c * types + s * status_unit

-- the five words of an entry, kinds 1 to 5
unfoldable pub encode : Record → List ℕ
encode r =
    word 1 (key r).party
    ∷ word 2 (key r).day
    ∷ word 3 (type_bits (key r).type (key r).counterparty r.label.status)
    ∷ word 4 (r.amount % low_amounts)
    ∷ word 5 (r.amount / low_amounts)
    ∷ []

abbrev pub value_at : List ℕ → ℕ → ℕ
value_at ws i = value_of (get_or ws i 0)

abbrev pub kind_at : List ℕ → ℕ → ℕ → Bool
kind_at ws i kind = eqb (kind_of (get_or ws i 0)) kind

-- the entry that the first five words hold. A field is read with the unnamed bits above it, so that a bit set there puts it out of its range
unfoldable pub decode : List ℕ → Record
decode ws =
    record_of
    (key_of (value_at ws 0) (value_at ws 1) (value_at ws 2 % types) (value_at ws 2 / types % counterparties))
    (value_at ws 2 / status_unit)
    (value_at ws 3 + value_at ws 4 * low_amounts)

-- these words have their kinds and ranges
unfoldable pub entry_ok : List ℕ → Bool
entry_ok ws = every (kind_at ws 0 1 ∷ kind_at ws 1 2 ∷ kind_at ws 2 3 ∷ kind_at ws 3 4 ∷ kind_at ws 4 5 ∷ legal (decode ws) ∷ [])

-- n entries, five words each
unfoldable pub entries_ok : ℕ → List ℕ → Bool
entries_ok zero ws = true
entries_ok (suc n) ws = entry_ok ws && entries_ok n (drop 5 ws)

unfoldable pub read_entries : ℕ → List ℕ → List Record
read_entries zero ws = []
read_entries (suc n) ws = decode ws ∷ read_entries n (drop 5 ws)

-- the three words before the entries: kind 6, number of entries; kind 7, R in hundredths; kind 8, TM in kWh
abbrev pub count_of : List ℕ → ℕ
count_of ws = value_at ws 0

abbrev pub coefficient_of : List ℕ → ℕ
coefficient_of ws = value_at ws 1

abbrev pub tolerance_of : List ℕ → ℕ
tolerance_of ws = value_at ws 2

abbrev pub most_entries : ℕ
most_entries = 3072

-- the words of a full book, 3 + 5 × 3,072
abbrev pub book_words : ℕ
book_words = 15363

abbrev pub most_coefficient : ℕ
most_coefficient = 1000

abbrev pub most_tolerance : ℕ
most_tolerance = 200000000

-- at most 3,072 entries, or fewer where the slice ends
abbrev pub room_in : ℕ → ℕ
room_in lent = min most_entries ((lent - 3) / 5)

-- the words of a book's entries and of k places more, a full book's at most
abbrev pub used_with : ℕ → List ℕ → ℕ
used_with k ws = min book_words (3 + 5 * (count_of ws + k))

unfoldable pub is_book : List ℕ → Bool
is_book ws =
    every
    (leb 3 (length ws)
    ∷ kind_at ws 0 6
    ∷ kind_at ws 1 7
    ∷ kind_at ws 2 8
    ∷ leb (coefficient_of ws) most_coefficient
    ∷ leb (tolerance_of ws) most_tolerance
    ∷ leb (count_of ws) (room_in (length ws))
    ∷ entries_ok (count_of ws) (drop 3 ws)
    ∷ [])

-- the entries of a book, in order; the words after the last are never read
unfoldable pub entries : List ℕ → List Record
entries ws = read_entries (count_of ws) (drop 3 ws)

-- what of a book is not its records: R, TM, and for how many entries the slice has room
pub record Frame : Type 0 where
  pub coefficient : ℕ
  pub tolerance : ℕ
  pub room : ℕ

abbrev pub frame_of : List ℕ → Frame
frame_of ws = record { coefficient = coefficient_of ws; tolerance = tolerance_of ws; room = room_in (length ws) }

-- the words that a book of these records uses, and the book laid over a lent slice
unfoldable pub encode_all : List Record → List ℕ
encode_all [] = []
encode_all (r ∷ rs) = encode r ++ encode_all rs

unfoldable pub used_words : ℕ → ℕ → List Record → List ℕ
used_words R TM rs = word 6 (length rs) ∷ word 7 R ∷ word 8 TM ∷ encode_all rs

unfoldable pub laid : ℕ → ℕ → List Record → List ℕ → List ℕ
laid R TM rs ws = used_words R TM rs ++ drop (3 + 5 * length rs) ws
