-- Lists of calls on a book, and the ledger of such a list (01, 'Demand 3 and its ledger').
-- The ledger is that section in figures of its own: it shares with the book the data types of a record and of an answer, and 'the first cause of a list'.
-- That its checks, room and statuses are the book's is shown in proofs/LedgerLaws.antt.
use Rattle.std.specs.Prelude.{Bool, true, false, not, ◌&&◌, ◌||◌, List, [], ◌∷◌, ◌++◌, ℕ, zero, suc, ◌-◌, ◌/◌, min, eqb, leb, ltb, length}
use Rattle.numbers.specs.Causes.{first_of}
use Rattle.rules.specs.Entry.{Key, Record, record_of, key}
use Rattle.rules.specs.Machine.{Machine, Answer, after, answers}
use Rattle.rules.specs.Calls.{Change, Figures, no_figures, book_machine}
use Rattle.rules.specs.Calls as calls

-- the calls of a list
pub data Call : Type 0 where
  post : Key → ℕ → Call
  withdraw : ℕ → Call

-- a call on a book: the functions that the contracts of post and withdraw cite
abbrev pub as_change : Call → Change
as_change (post k a) = calls.post k a
as_change (withdraw n) = calls.withdraw n

abbrev pub book_calls : Machine (List ℕ) Call Figures
book_calls =
    record {
      cause = λ ws c. book_machine.cause ws (as_change c);
      figures = λ ws c. book_machine.figures ws (as_change c);
      done = λ ws c. book_machine.done ws (as_change c);
    }

unfoldable pub book_after : List ℕ → List Call → List ℕ
book_after ws cs = after book_calls ws cs

unfoldable pub book_answers : List ℕ → List Call → List (Answer Figures)
book_answers ws cs = answers no_figures book_calls ws cs

-- the ledger's room is (words lent − 3) / 5, rounded down, at most 3,072
abbrev pub ledger_room : ℕ → ℕ
ledger_room lent = min ((lent - 3) / 5) 3072

-- the cause n if the fault is there, else none
abbrev pub cause_if : Bool → ℕ → ℕ
cause_if true n = n
cause_if false n = 0

abbrev pub outside : ℕ → ℕ → ℕ → Bool
outside low high x = ltb x low || ltb high x

-- the lowest cause of 3 to 7 that holds (01, 'Entry types' and 'Why a call comes back'):
-- party outside 1-999; day above 36,524; type outside 1-20 and not 22 (02, T-02);
-- a counterparty outside type 6, in type 6 one above 999 or the party itself;
-- an amount above 10^9 in types 1-16 and 22, above 10^13 in types 17-20 (02, T-06)
unfoldable pub ledger_fault : Key → ℕ → ℕ
ledger_fault k a =
    first_of
    (cause_if (outside 1 999 k.party) 3
    ∷ cause_if (ltb 36524 k.day) 4
    ∷ cause_if (outside 1 20 k.type && not (eqb k.type 22)) 5
    ∷ cause_if (not (eqb k.type 6) && ltb 0 k.counterparty) 6
    ∷ cause_if (eqb k.type 6 && ltb 999 k.counterparty) 6
    ∷ cause_if (eqb k.type 6 && eqb k.counterparty k.party) 6
    ∷ cause_if ((leb k.type 16 || eqb k.type 22) && ltb 1000000000 a) 7
    ∷ cause_if (leb 17 k.type && leb k.type 20 && ltb 10000000000000 a) 7
    ∷ [])

-- a record has this number, counted from 0, and is standing: its status is 0
unfoldable pub stands_at : List Record → ℕ → Bool
stands_at [] n = false
stands_at (r ∷ rs) zero = eqb r.label.status 0
stands_at (r ∷ rs) (suc n) = stands_at rs n

-- the record of this number gets status 1
unfoldable pub withdrawn_at : List Record → ℕ → List Record
withdrawn_at [] n = []
withdrawn_at (r ∷ rs) zero = record_of (key r) 1 r.amount ∷ rs
withdrawn_at (r ∷ rs) (suc n) = r ∷ withdrawn_at rs n

-- a post: the lowest cause of 3 to 7 that holds, else 9 if the records fill the room;
-- a withdrawal: 10 if no record has the number or it isn't standing
unfoldable pub ledger_cause : ℕ → List Record → Call → ℕ
ledger_cause lent rs (post k a) = first_of (ledger_fault k a ∷ cause_if (leb (ledger_room lent) (length rs)) 9 ∷ [])
ledger_cause lent rs (withdraw n) = cause_if (not (stands_at rs n)) 10

-- a post's number; no other figure is answered
abbrev pub ledger_figures : List Record → Call → Figures
ledger_figures rs (post k a) = record { number = length rs; lines = 0; first = 0; second = 0; cancelled = 0 }
ledger_figures rs (withdraw n) = record { number = 0; lines = 0; first = 0; second = 0; cancelled = 0 }

-- the record is added, standing; a withdrawn one gets status 1
unfoldable pub ledger_done : List Record → Call → List Record
ledger_done rs (post k a) = rs ++ (record_of k 0 a ∷ [])
ledger_done rs (withdraw n) = withdrawn_at rs n

-- a refused call changes no record, and its other returned figures are zero; at first there are no records
abbrev pub ledger : ℕ → Machine (List Record) Call Figures
ledger lent = record { cause = ledger_cause lent; figures = ledger_figures; done = ledger_done }

unfoldable pub ledger_after : ℕ → List Call → List Record
ledger_after lent cs = after (ledger lent) [] cs

unfoldable pub ledger_answers : ℕ → List Call → List (Answer Figures)
ledger_answers lent cs = answers no_figures (ledger lent) [] cs
