-- Copies from before a change of document 02: their tests of a book and of a file and their balances, kept so that it can be stated what an older copy takes, answers and refuses.
-- No contract cites them. Each is the definition that a contract cites, with the copy's figures in its tests: with today's figures it is that definition
-- (`present-book` and the other laws of `present`, proofs/CopyLaws and PromiseLaws). A change that moves a test or a formula adds a figure to `Copy`, and the copy before it.
use Rattle.std.specs.Prelude.{Bool, true, false, not, cond, ◌&&◌, ◌||◌, List, [], ◌∷◌, ◌++◌, map, ℕ, zero, suc, ◌+◌, ◌*◌, ◌%◌, max, eqb, leb, ltb, ℤ, pos, length, drop, replicate}
use Rattle.std.proofs.Math.IntN.{sub_ℕ}
use Rattle.numbers.specs.Sums.{total}
use Rattle.numbers.specs.Tests.{every}
use Rattle.numbers.specs.Causes.{unless, or_else, first_of, if_done}
use Rattle.rules.specs.Refusals.{not_a_book, bad_file, bad_party, bad_day, bad_type, bad_counterparty, bad_amount, day_closed, no_room, no_entry, bad_figure}
use Rattle.rules.specs.Entry.{Key, Record, key, most_volume, most_money, within, updated_program, is_money, party_ok, day_ok, counterparty_ok, status_ok, mark_ok}
use Rattle.rules.specs.Words.{Frame, frame_of, status_unit, kind_of, value_of, kind_at, decode, entries, count_of, coefficient_of, tolerance_of, room_in, most_coefficient, most_tolerance}
use Rattle.rules.specs.Book.{shut_to, withdraw_refusal, entry_at, no_read, read_of}
use Rattle.rules.specs.Balance.{Volume, day_ahead, delivery, sum_of, bought_by, sum_no, acquired, sale_side, cover_side, is_detected}
use Rattle.rules.specs.Collateral.{figures_ok, collateral_of, refused_collateral}
use Rattle.rules.specs.Control.{Parties, control_refusal}
use Rattle.rules.specs.DayFile.{Item, line, empty_block, high_amounts, most_bytes, words_of, is_head, lines_in, items, item_cause, lines_of}
use Rattle.rules.specs.Machine.{Machine}
use Rattle.rules.specs.Calls.{Change, post, withdraw, control, file, Figures, book_machine}
use Rattle.case_figures.specs.declared.Case.{Case}
use Rattle.rules.specs.declared.Counted.{Counted}
use Rattle.rules.specs.declared.EntryRead.{EntryRead}
use Rattle.rules.specs.declared.Tally.{Tally}
use Rattle.rules.specs.declared.TallyAnswer.{TallyAnswer}
use Rattle.rules.specs.declared.BalanceAnswer.{BalanceAnswer}
use Rattle.rules.specs.declared.Collateral.{Collateral}

-- the figures in which copies differ
pub record Copy : Type 0 where
  -- the limit of money, types 17-20
  pub money : ℕ
  -- the value of a line's kind 5 word is below this
  pub high : ℕ
  -- type 22 is known, and so its sum
  pub updates : Bool

-- copies until T-06 (01, 'Entry types' and 'The words'): money to 10^12, bits 0-11 of a kind 5 word, types 1-20
abbrev pub until06 : Copy
until06 = record { money = 1000000000000; high = 4096; updates = false }

-- copies until T-02: types 1-20
abbrev pub until02 : Copy
until02 = record { money = 10000000000000; high = 65536; updates = false }

-- today's
abbrev pub present : Copy
present = record { money = most_money; high = high_amounts; updates = true }

-- checks 3 to 7 of a post (01, 'Entry types')
abbrev pub is_type_by : Copy → ℕ → Bool
is_type_by c t = (within 1 16 t || (c.updates && eqb t updated_program)) || is_money t

unfoldable pub limit_by : Copy → ℕ → ℕ
limit_by c t = cond (is_money t) c.money most_volume

unfoldable pub fault_by : Copy → Key → ℕ → ℕ
fault_by c k a =
    first_of
    (unless (party_ok k.party) bad_party
    ∷ unless (day_ok k.day) bad_day
    ∷ unless (is_type_by c k.type) bad_type
    ∷ unless (counterparty_ok k) bad_counterparty
    ∷ unless (leb a (limit_by c k.type)) bad_amount
    ∷ [])

-- what is a book (01, 'The words')
unfoldable pub legal_by : Copy → Record → Bool
legal_by c r = (eqb (fault_by c (key r) r.amount) 0 && status_ok r.label) || mark_ok r

unfoldable pub entry_ok_by : Copy → List ℕ → Bool
entry_ok_by c ws = every (kind_at ws 0 1 ∷ kind_at ws 1 2 ∷ kind_at ws 2 3 ∷ kind_at ws 3 4 ∷ kind_at ws 4 5 ∷ legal_by c (decode ws) ∷ [])

unfoldable pub entries_ok_by : Copy → ℕ → List ℕ → Bool
entries_ok_by c zero ws = true
entries_ok_by c (suc n) ws = entry_ok_by c ws && entries_ok_by c n (drop 5 ws)

unfoldable pub is_book_by : Copy → List ℕ → Bool
is_book_by c ws =
    every
    (leb 3 (length ws)
    ∷ kind_at ws 0 6
    ∷ kind_at ws 1 7
    ∷ kind_at ws 2 8
    ∷ leb (coefficient_of ws) most_coefficient
    ∷ leb (tolerance_of ws) most_tolerance
    ∷ leb (count_of ws) (room_in (length ws))
    ∷ entries_ok_by c (count_of ws) (drop 3 ws)
    ∷ [])

-- what is a file, and why a line or an empty block is refused (01, 'Day file')
abbrev pub is_line_by : Copy → ℕ → ℕ → ℕ → Bool
is_line_by c w x y =
    every
    (eqb (kind_of w) 3
    ∷ ltb (value_of w) status_unit
    ∷ eqb (kind_of x) 4
    ∷ eqb (kind_of y) 5
    ∷ ltb (value_of y) c.high
    ∷ [])

unfoldable pub is_shaped_by : Copy → ℕ → List ℕ → Bool
is_shaped_by c zero [] = true
is_shaped_by c zero (w ∷ []) = false
is_shaped_by c zero (w ∷ x ∷ ws) = is_head w x && is_shaped_by c (lines_in w) ws
is_shaped_by c (suc n) [] = false
is_shaped_by c (suc n) (w ∷ []) = false
is_shaped_by c (suc n) (w ∷ x ∷ []) = false
is_shaped_by c (suc n) (w ∷ x ∷ y ∷ ws) = is_line_by c w x y && is_shaped_by c n ws

unfoldable pub is_file_by : Copy → List ℕ → Bool
is_file_by c bs = every (leb (length bs) most_bytes ∷ eqb (length bs % 4) 0 ∷ is_shaped_by c 0 (words_of bs) ∷ [])

unfoldable pub item_cause_by : Copy → List Record → Item → ℕ
item_cause_by c rs (line k a) = first_of (fault_by c k a ∷ unless (not (shut_to k rs)) day_closed ∷ [])
item_cause_by c rs (empty_block p d) = item_cause rs (empty_block p d)

-- the calls that change a book (01, 'Why a call comes back'): the causes of then; figures and records left are today's.
-- Of balances only control reads one, by `detected_by` below, which is today's for all records (`detects` of Promise)
unfoldable pub refusal_by : Copy → Frame → List Record → Change → ℕ
refusal_by c f rs (post k a) =
    first_of (fault_by c k a ∷ unless (not (shut_to k rs)) day_closed ∷ unless (ltb (length rs) f.room) no_room ∷ [])
refusal_by c f rs (withdraw n) = withdraw_refusal rs n
refusal_by c f rs (control d) = control_refusal f rs d
refusal_by c f rs (file bs) =
    first_of
    (unless (is_file_by c bs) bad_file
    ∷ first_of (map (item_cause_by c rs) (items bs))
    ∷ unless (leb (length rs + length (lines_of (items bs))) f.room) no_room
    ∷ [])

abbrev pub machine_by : Copy → Machine (List ℕ) Change Figures
machine_by c =
    record {
      cause = λ ws call. or_else (unless (is_book_by c ws) not_a_book) (refusal_by c (frame_of ws) (entries ws) call);
      figures = book_machine.figures;
      done = book_machine.done;
    }

-- the tally and the balances of then (01, 'The two balances'): without type 22 sixteen sums, and sum 12 in either cover
abbrev pub volumes_by : Bool → List ℕ
volumes_by updates =
    (1 ∷ 2 ∷ 3 ∷ 4 ∷ 5 ∷ 6 ∷ 7 ∷ 8 ∷ 9 ∷ 10 ∷ 11 ∷ 12 ∷ 13 ∷ 14 ∷ 15 ∷ 16 ∷ []) ++ cond updates (updated_program ∷ []) []

unfoldable pub tally_of_by : Bool → ℕ → ℕ → List Record → Tally
tally_of_by updates p d rs = record { party = p; sums = map (λ t. sum_of p d t rs) (volumes_by updates) }

abbrev pub no_tally_by : Bool → Tally
no_tally_by updates = record { party = 0; sums = replicate (length (volumes_by updates)) 0 }

abbrev pub cover_until02 : Volume → List ℕ
cover_until02 delivery = 7 ∷ 8 ∷ 9 ∷ 10 ∷ 11 ∷ 12 ∷ 13 ∷ 14 ∷ []
cover_until02 day_ahead = 7 ∷ 9 ∷ 10 ∷ 12 ∷ 13 ∷ 14 ∷ []

unfoldable pub cover_side_by : Bool → Volume → Tally → ℕ → ℕ
cover_side_by true v t B = cover_side v t B
cover_side_by false v t B = total (sum_no t) (cover_until02 v) + acquired t B

unfoldable pub formula_by : Bool → Volume → ℕ → ℕ → Tally → ℕ → ℤ
formula_by updates v R TM t B = sub_ℕ (100 * sale_side v t) (max (100 * TM) (cover_side_by updates v t B * R))

unfoldable pub balance_on : Bool → Volume → ℕ → ℕ → ℕ → ℕ → List Record → ℤ
balance_on updates v R TM p d rs = formula_by updates v R TM (tally_of_by updates p d rs) (bought_by p d rs)

-- whom a control of then detects (01, 'Control of a day')
unfoldable pub detected_by : Copy → ℕ → ℕ → ℕ → List Record → Parties
detected_by c R TM d rs p = party_ok p && is_detected (balance_on c.updates day_ahead R TM p d rs)

-- the calls that only read: the causes of then, and the figures of the records
unfoldable pub asked_by : Copy → List ℕ → ℕ → ℕ → ℕ
asked_by c ws p d =
    first_of (unless (is_book_by c ws) not_a_book ∷ unless (party_ok p) bad_party ∷ unless (day_ok d) bad_day ∷ [])

unfoldable pub balance_by : Copy → Volume → List ℕ → ℕ → ℕ → BalanceAnswer
balance_by c v ws p d =
    record {
      answer = asked_by c ws p d;
      balance = if_done (asked_by c ws p d) (balance_on c.updates v (coefficient_of ws) (tolerance_of ws) p d (entries ws)) (pos 0);
    }

unfoldable pub tally_by : Copy → List ℕ → ℕ → ℕ → TallyAnswer
tally_by c ws p d =
    record {
      answer = asked_by c ws p d;
      tally = if_done (asked_by c ws p d) (tally_of_by c.updates p d (entries ws)) (no_tally_by c.updates);
      bought = if_done (asked_by c ws p d) (bought_by p d (entries ws)) 0;
    }

unfoldable pub case_cause_by : Copy → List ℕ → Case → ℕ
case_cause_by c ws k = first_of (asked_by c ws k.asked.party k.asked.day ∷ unless (figures_ok k) bad_figure ∷ [])

unfoldable pub collateral_by : Copy → List ℕ → Case → Collateral
collateral_by c ws k = if_done (case_cause_by c ws k) (collateral_of k (entries ws)) (refused_collateral (case_cause_by c ws k))

unfoldable pub count_cause_by : Copy → List ℕ → ℕ
count_cause_by c ws = first_of (unless (is_book_by c ws) not_a_book ∷ [])

unfoldable pub count_by : Copy → List ℕ → Counted
count_by c ws = record { answer = count_cause_by c ws; count = if_done (count_cause_by c ws) (count_of ws) 0 }

unfoldable pub read_cause_by : Copy → List ℕ → ℕ → ℕ
read_cause_by c ws n = first_of (unless (is_book_by c ws) not_a_book ∷ unless (ltb n (count_of ws)) no_entry ∷ [])

unfoldable pub entry_by : Copy → List ℕ → ℕ → EntryRead
entry_by c ws n = if_done (read_cause_by c ws n) (read_of (entry_at ws n)) (no_read (read_cause_by c ws n))
