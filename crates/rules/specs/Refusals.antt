-- The causes of a refusal, by name (01, 'Why a call comes back'). A call that is done answers 0.
use Rattle.std.specs.Prelude.{ℕ, Result, Ok, Err}
use Rattle.rules.specs.declared.refusal.Refusal.{Refusal}
use Rattle.rules.specs.declared.refusal.Refusal.TheVariants.{NotABook, BadFile, BadParty, BadDay, BadType, BadCounterparty, BadAmount, DayClosed, NoRoom, NoEntry, BadLength, BadFigure}

abbrev pub not_a_book : ℕ
not_a_book = 1

abbrev pub bad_file : ℕ
bad_file = 2

abbrev pub bad_party : ℕ
bad_party = 3

abbrev pub bad_day : ℕ
bad_day = 4

abbrev pub bad_type : ℕ
bad_type = 5

abbrev pub bad_counterparty : ℕ
bad_counterparty = 6

abbrev pub bad_amount : ℕ
bad_amount = 7

abbrev pub day_closed : ℕ
day_closed = 8

abbrev pub no_room : ℕ
no_room = 9

abbrev pub no_entry : ℕ
no_entry = 10

abbrev pub bad_length : ℕ
bad_length = 11

abbrev pub bad_figure : ℕ
bad_figure = 12

-- the number of a cause
abbrev pub number_of : Refusal → ℕ
number_of NotABook = not_a_book
number_of BadFile = bad_file
number_of BadParty = bad_party
number_of BadDay = bad_day
number_of BadType = bad_type
number_of BadCounterparty = bad_counterparty
number_of BadAmount = bad_amount
number_of DayClosed = day_closed
number_of NoRoom = no_room
number_of NoEntry = no_entry
number_of BadLength = bad_length
number_of BadFigure = bad_figure

-- what a result answers by number: 0 where it is done
abbrev pub answer_of : {A : Type 0} → Result A Refusal → ℕ
answer_of (Ok x) = 0
answer_of (Err e) = number_of e
