-- Opening and reading a book, and what posting and withdrawing do to its records.
use Rattle.std.specs.Prelude.{Bool, not, ◌&&◌, List, [], ◌∷◌, ℕ, ◌+◌, ◌*◌, eqb, leb, ltb, length, get_or, drop, set}
use Rattle.numbers.specs.Tests.{any}
use Rattle.numbers.specs.Causes.{unless, first_of, if_done}
use Rattle.rules.specs.Refusals.{not_a_book, day_closed, no_room, no_entry, bad_length, bad_figure}
use Rattle.rules.specs.Entry.{Key, Record, key, no_record, with_status, fault, is_mark, is_standing, is_bilateral, withdrawn}
use Rattle.rules.specs.Words.{Frame, word, decode, is_book, count_of, most_coefficient, most_tolerance}
use Rattle.rules.specs.declared.Counted.{Counted}
use Rattle.rules.specs.declared.EntryRead.{EntryRead}

-- Opening writes three words (01, 'The words')
unfoldable pub open_cause : ℕ → ℕ → ℕ → ℕ
open_cause lent R TM =
    first_of (unless (leb 3 lent) bad_length ∷ unless (leb R most_coefficient && leb TM most_tolerance) bad_figure ∷ [])

unfoldable pub open_words : List ℕ → ℕ → ℕ → List ℕ
open_words ws R TM =
    if_done (open_cause (length ws) R TM) (set (set (set ws 0 (word 6 0)) 1 (word 7 R)) 2 (word 8 TM)) ws

-- an opening that names no figures writes R 105 and TM 500,000 (02, T-12)
abbrev pub default_coefficient : ℕ
default_coefficient = 105

abbrev pub default_tolerance : ℕ
default_tolerance = 500000

abbrev pub open_default_cause : ℕ → ℕ
open_default_cause lent = open_cause lent default_coefficient default_tolerance

abbrev pub open_default_words : List ℕ → List ℕ
open_default_words ws = open_words ws default_coefficient default_tolerance

-- a day with a mark is closed (01, 'Control of a day')
abbrev pub is_mark_of : ℕ → Record → Bool
is_mark_of d r = is_mark r && eqb (key r).day d

unfoldable pub is_closed : ℕ → List Record → Bool
is_closed d rs = any (is_mark_of d) rs

-- a closed day takes no bilateral sale with a counterparty above 0, and gives none back
unfoldable pub shut_to : Key → List Record → Bool
shut_to k rs = is_bilateral k && is_closed k.day rs

-- A post appends one standing entry and returns its number, counted from 0 (01, 'Entry types')
unfoldable pub post_refusal : Frame → List Record → Key → ℕ → ℕ
post_refusal f rs k a =
    first_of (fault k a ∷ unless (not (shut_to k rs)) day_closed ∷ unless (ltb (length rs) f.room) no_room ∷ [])

-- A withdrawal names an entry by that number and sets status 1; its place is not used again (01, 'Entry types')
abbrev pub stands_at : List Record → ℕ → Bool
stands_at rs n = ltb n (length rs) && is_standing (get_or rs n no_record)

unfoldable pub withdraw_refusal : List Record → ℕ → ℕ
withdraw_refusal rs n =
    first_of
    (unless (not (stands_at rs n && shut_to (key (get_or rs n no_record)) rs)) day_closed
    ∷ unless (stands_at rs n && not (is_mark (get_or rs n no_record))) no_entry
    ∷ [])

unfoldable pub withdrawn_at : List Record → ℕ → List Record
withdrawn_at rs n = set rs n (with_status withdrawn (get_or rs n no_record))

-- the place of entry n, and the entry there
abbrev pub place_of : ℕ → ℕ
place_of n = 3 + 5 * n

unfoldable pub entry_at : List ℕ → ℕ → Record
entry_at ws n = decode (drop (place_of n) ws)

-- the number of entries of a book, and one entry by its number
unfoldable pub count_cause : List ℕ → ℕ
count_cause ws = first_of (unless (is_book ws) not_a_book ∷ [])

unfoldable pub count_answer : List ℕ → Counted
count_answer ws = record { answer = count_cause ws; count = if_done (count_cause ws) (count_of ws) 0 }

unfoldable pub read_cause : List ℕ → ℕ → ℕ
read_cause ws n = first_of (unless (is_book ws) not_a_book ∷ unless (ltb n (count_of ws)) no_entry ∷ [])

abbrev pub no_read : ℕ → EntryRead
no_read cause =
    record { answer = cause; party = 0; day = 0; entry_type = 0; counterparty = 0; status = 0; amount = 0 }

abbrev pub read_of : Record → EntryRead
read_of r =
    record { answer = 0; party = (key r).party; day = (key r).day; entry_type = (key r).type; counterparty = (key r).counterparty; status = r.label.status; amount = r.amount }

unfoldable pub read_answer : List ℕ → ℕ → EntryRead
read_answer ws n = if_done (read_cause ws n) (read_of (entry_at ws n)) (no_read (read_cause ws n))
