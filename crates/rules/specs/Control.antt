-- Control of a day (01, 'Control of a day').
use Rattle.std.specs.Prelude.{Bool, not, ◌&&◌, List, [], ◌∷◌, ◌++◌, ℕ, ◌+◌, eqb, ltb, length}
use Rattle.numbers.specs.Sums.{count, count_below}
use Rattle.numbers.specs.Tests.{every, any}
use Rattle.numbers.specs.Causes.{unless, first_of}
use Rattle.calendar.specs.Calendar.{month_of}
use Rattle.rules.specs.Refusals.{bad_day, day_closed, no_room}
use Rattle.rules.specs.Entry.{Record, key_of, record_of, key, status_where, is_standing, is_cancelled, is_bilateral, standing, cancelled, party_ok, day_ok, last_party, mark_type}
use Rattle.rules.specs.Words.{Frame}
use Rattle.rules.specs.Book.{is_closed}
use Rattle.rules.specs.Balance.{day_ahead, balance, is_detected}

-- a test of parties
abbrev pub Parties : Type 0
Parties = ℕ → Bool

-- the parties whose day-ahead balance of the day is detected
unfoldable pub detected_in : ℕ → ℕ → ℕ → List Record → Parties
detected_in R TM d rs p = party_ok p && is_detected (balance day_ahead R TM p d rs)

-- the day's standing bilateral sales, counterparty above 0, of these parties become cancelled together
unfoldable pub is_to_cancel : Parties → ℕ → Record → Bool
is_to_cancel who d r =
    every (is_standing r ∷ eqb (key r).day d ∷ is_bilateral (key r) ∷ who (key r).party ∷ [])

unfoldable pub cancel_of : Parties → ℕ → List Record → List Record
cancel_of who d rs = status_where (is_to_cancel who d) cancelled rs

-- a cancelled entry of this pair on another day of the same month
abbrev pub is_earlier_or_later : ℕ → Record → Record → Bool
is_earlier_or_later d r s =
    every
    (is_cancelled s
    ∷ eqb (key s).party (key r).party
    ∷ eqb (key s).counterparty (key r).counterparty
    ∷ not (eqb (key s).day d)
    ∷ eqb (month_of (key s).day) (month_of d)
    ∷ [])

-- a party that is the buyer of a repeated pair: one with cancelled entries of this day and of another day of the month
unfoldable pub is_repeated_buyer : ℕ → List Record → Parties
is_repeated_buyer d rs p =
    any
    (λ r. every (is_cancelled r ∷ eqb (key r).day d ∷ eqb (key r).counterparty p ∷ any (is_earlier_or_later d r) rs ∷ []))
    rs

-- first pass: over the book at entry; second: each buyer of a repeated pair, over the book after the first
unfoldable pub first_pass : ℕ → ℕ → ℕ → List Record → Parties
first_pass R TM d rs = detected_in R TM d rs

unfoldable pub after_first : ℕ → ℕ → ℕ → List Record → List Record
after_first R TM d rs = cancel_of (first_pass R TM d rs) d rs

unfoldable pub second_pass : ℕ → ℕ → ℕ → List Record → Parties
second_pass R TM d rs p =
    is_repeated_buyer d (after_first R TM d rs) p && detected_in R TM d (after_first R TM d rs) p

unfoldable pub after_second : ℕ → ℕ → ℕ → List Record → List Record
after_second R TM d rs = cancel_of (second_pass R TM d rs) d (after_first R TM d rs)

-- no third pass; a mark of the day is appended
unfoldable pub mark_of : ℕ → Record
mark_of d = record_of (key_of 0 d mark_type 0) standing 0

unfoldable pub controlled_records : ℕ → ℕ → ℕ → List Record → List Record
controlled_records R TM d rs = after_second R TM d rs ++ (mark_of d ∷ [])

-- why a control is refused
unfoldable pub control_refusal : Frame → List Record → ℕ → ℕ
control_refusal f rs d =
    first_of
    (unless (day_ok d) bad_day
    ∷ unless (not (is_closed d rs)) day_closed
    ∷ unless (ltb (length rs) f.room) no_room
    ∷ [])

-- the answer counts parties detected in each pass and entries cancelled
unfoldable pub detected_parties : Parties → ℕ
detected_parties who = count_below (last_party + 1) who

unfoldable pub cancelled_entries : ℕ → ℕ → ℕ → List Record → ℕ
cancelled_entries R TM d rs =
    count (is_to_cancel (first_pass R TM d rs) d) rs + count (is_to_cancel (second_pass R TM d rs) d) (after_first R TM d rs)
