-- An entry, and what a legal one is (01, 'Entry types').
use Rattle.std.specs.Prelude.{Bool, not, cond, ◌&&◌, ◌||◌, List, [], ◌∷◌, map, ℕ, ◌+◌, eqb, leb, ltb}
use Rattle.numbers.specs.Tests.{every}
use Rattle.numbers.specs.Causes.{unless, first_of}
use Rattle.rules.specs.Refusals.{bad_party, bad_day, bad_type, bad_counterparty, bad_amount}
use Rattle.rules.specs.declared as code

-- what an entry is for: the four figures that calls alike have in common
pub record Key : Type 0 where
  pub party : ℕ
  pub day : ℕ
  pub type : ℕ
  pub counterparty : ℕ

pub record Label : Type 0 where
  pub key : Key
  pub status : ℕ

pub record Record : Type 0 where
  pub label : Label
  pub amount : ℕ

abbrev pub key_of : ℕ → ℕ → ℕ → ℕ → Key
key_of p d t c = record { party = p; day = d; type = t; counterparty = c }

abbrev pub record_of : Key → ℕ → ℕ → Record
record_of k s a = record { label = record { key = k; status = s }; amount = a }

abbrev pub key : Record → Key
key r = r.label.key

-- limits
abbrev pub last_party : ℕ
last_party = 999

abbrev pub last_day : ℕ
last_day = 36524

-- a place for each day, and for each number from 0 to the last party's
abbrev pub day_places : ℕ
day_places = last_day + 1

abbrev pub party_places : ℕ
party_places = last_party + 1

abbrev pub most_volume : ℕ
most_volume = 1000000000

-- money, types 17-20: up to 10^13 (02, T-06)
abbrev pub most_money : ℕ
most_money = 10000000000000

-- the types
abbrev pub within : ℕ → ℕ → ℕ → Bool
within low high x = leb low x && leb x high

abbrev pub bilateral : ℕ
bilateral = 6

-- the updated generation program (02, T-02): a volume
abbrev pub updated_program : ℕ
updated_program = 22

abbrev pub is_volume : ℕ → Bool
is_volume t = within 1 16 t || eqb t updated_program

abbrev pub is_money : ℕ → Bool
is_money t = within 17 20 t

abbrev pub is_type : ℕ → Bool
is_type t = is_volume t || is_money t

abbrev pub mark_type : ℕ
mark_type = 21

-- counterparty 0 in type 6 is the System Operator: an export
abbrev pub is_export : Key → Bool
is_export k = eqb k.type bilateral && eqb k.counterparty 0

abbrev pub is_bilateral : Key → Bool
is_bilateral k = eqb k.type bilateral && ltb 0 k.counterparty

-- status (01, 'The words')
abbrev pub standing : ℕ
standing = 0

abbrev pub withdrawn : ℕ
withdrawn = 1

abbrev pub cancelled : ℕ
cancelled = 2

abbrev pub is_standing : Record → Bool
is_standing r = eqb r.label.status standing

abbrev pub is_cancelled : Record → Bool
is_cancelled r = eqb r.label.status cancelled

-- what is read past the last record of a list; it isn't standing
abbrev pub no_record : Record
no_record = record_of (key_of 0 0 0 0) withdrawn 0

-- a record with another status
abbrev pub with_status : ℕ → Record → Record
with_status s r = record_of (key r) s r.amount

-- another status on those of the records for which a test holds
unfoldable pub status_where : (Record → Bool) → ℕ → List Record → List Record
status_where test s rs = map (λ r. cond (test r) (with_status s r) r) rs

-- checks 3 to 7 of a post
abbrev pub party_ok : ℕ → Bool
party_ok p = within 1 last_party p

abbrev pub day_ok : ℕ → Bool
day_ok d = leb d last_day

-- counterparty is 0 outside type 6; in type 6 it is 0 to 999 and not the party
unfoldable pub counterparty_ok : Key → Bool
counterparty_ok k =
    cond (eqb k.type bilateral)
    (leb k.counterparty last_party && not (eqb k.counterparty k.party))
    (eqb k.counterparty 0)

unfoldable pub amount_limit : ℕ → ℕ
amount_limit t = cond (is_money t) most_money most_volume

-- the lowest cause of 3 to 7 that holds
unfoldable pub fault : Key → ℕ → ℕ
fault k a =
    first_of
    (unless (party_ok k.party) bad_party
    ∷ unless (day_ok k.day) bad_day
    ∷ unless (is_type k.type) bad_type
    ∷ unless (counterparty_ok k) bad_counterparty
    ∷ unless (leb a (amount_limit k.type)) bad_amount
    ∷ [])

-- a mark: type 21, a day in range, party, counterparty, amount and status 0
abbrev pub is_mark : Record → Bool
is_mark r = eqb (key r).type mark_type

unfoldable pub mark_ok : Record → Bool
mark_ok r =
    every
    (is_mark r
    ∷ day_ok (key r).day
    ∷ eqb (key r).party 0
    ∷ eqb (key r).counterparty 0
    ∷ eqb r.amount 0
    ∷ is_standing r
    ∷ [])

-- status 2 stands only on type 6 with a counterparty above 0
unfoldable pub status_ok : Label → Bool
status_ok l = leb l.status withdrawn || (eqb l.status cancelled && is_bilateral l.key)

-- what an entry of a book is: it passes checks 3 to 7, or is a mark
unfoldable pub legal : Record → Bool
legal r = (eqb (fault (key r) r.amount) 0 && status_ok r.label) || mark_ok r

-- a key and an entry as code carries them, by value
abbrev pub key_in : code.Key.Key → Key
key_in k = key_of k.party k.day k.entry_type k.counterparty

abbrev pub record_in : code.Entry.Entry → Record
record_in e = record_of (key_in e.key) e.status e.amount

abbrev pub entry_of : Record → code.Entry.Entry
entry_of r =
    record {
      key = record { party = (key r).party; day = (key r).day; entry_type = (key r).type; counterparty = (key r).counterparty };
      status = r.label.status;
      amount = r.amount;
    }
