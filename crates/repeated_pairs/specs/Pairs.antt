-- Bits of pairs and flags of buyers, as the scans of a control make them of the entries.
-- Only the contracts of internal functions cite these; the laws tie them to rules/specs/Control.
use Rattle.std.specs.Prelude.{Bool, not, cond, ◌&&◌, List, [], ◌∷◌, ℕ, ◌+◌, ◌*◌, ◌/◌, ◌%◌, ◌^◌, ◌≤◌, eqb, get_or, set}
use Rattle.std.specs.Int.Bits.{bit_or}
use Rattle.numbers.specs.Tests.{every, any}
use Rattle.calendar.specs.Calendar.{month_of}
use Rattle.rules.specs.Entry.{Record, key, is_cancelled, last_party}
use Rattle.rules.specs.Control.{Parties}
use Rattle.cells.specs.Cells.{over, blank}
use Rattle.repeated_pairs.specs.Flags.{flagged, no_flags, with_flag}

-- a cancelled entry of another day of the month
unfoldable pub is_other : ℕ → Record → Bool
is_other d r = every (is_cancelled r ∷ not (eqb (key r).day d) ∷ eqb (month_of (key r).day) (month_of d) ∷ [])

-- a cancelled entry has a seller and a buyer
pub record Paired (r : Record) : Type 0 where
  pub seller-above : 1 ≤ (key r).party
  pub seller : (key r).party ≤ last_party
  pub buyer-above : 1 ≤ (key r).counterparty
  pub buyer : (key r).counterparty ≤ last_party

-- the bit of a pair: 1,024 bits a seller, one a buyer; or, of few bits, one that other pairs have too
abbrev pub pair_of : Record → ℕ
pair_of r = 1024 * (key r).party + (key r).counterparty

abbrev pub bit_of : Bool → Record → ℕ
bit_of few r = cond few (pair_of r % 4096) (pair_of r)

-- the words that hold the bits, 64 to a word
abbrev pub bit_words : Bool → ℕ
bit_words few = cond few 64 16000

-- whether so many words hold few bits
abbrev pub is_few : ℕ → Bool
is_few words = eqb words 64

unfoldable pub bit_at : List ℕ → ℕ → Bool
bit_at words k = eqb (get_or words (k / 64) 0 / 2 ^ (k % 64) % 2) 1

unfoldable pub with_bit : List ℕ → ℕ → List ℕ
with_bit words k = set words (k / 64) (bit_or (get_or words (k / 64) 0) (2 ^ (k % 64)))

-- the place of an entry is marked where a test holds
module _ {A : Type 0} where
  unfoldable pub marked : (List A → ℕ → List A) → (Record → Bool) → (Record → ℕ) → Record → List A → List A
  marked mark test place r table = cond (test r) (mark table (place r)) table

unfoldable pub pair_marked : Bool → ℕ → Record → List ℕ → List ℕ
pair_marked few d = marked with_bit (is_other d) (bit_of few)

unfoldable pub pairs_of : Bool → ℕ → List Record → List ℕ
pairs_of few d rs = over (pair_marked few d) rs (blank (bit_words few))

-- a cancelled entry of the day, of a buyer among some, whose bit is marked
unfoldable pub is_hit : Bool → ℕ → List Bool → List ℕ → Record → Bool
is_hit few d among pairs r =
    every (is_cancelled r ∷ eqb (key r).day d ∷ flagged among (key r).counterparty ∷ bit_at pairs (bit_of few r) ∷ [])

unfoldable pub buyer_marked : Bool → ℕ → List Bool → List ℕ → Record → List Bool → List Bool
buyer_marked few d among pairs = marked with_flag (is_hit few d among pairs) (λ r. (key r).counterparty)

unfoldable pub buyers_of : Bool → ℕ → List Bool → List ℕ → List Record → List Bool
buyers_of few d among pairs rs = over (buyer_marked few d among pairs) rs no_flags

-- a cancelled entry of another day of the month with the bit of this one
abbrev pub shares_bit : Bool → ℕ → Record → Record → Bool
shares_bit few d r s = is_other d s && eqb (bit_of few s) (bit_of few r)

-- the buyers of cancelled entries of the day with such a bit: by a bit for each pair those of repeated pairs, by few bits
-- those and perhaps others
unfoldable pub likely_buyer : Bool → ℕ → List Record → Parties
likely_buyer few d rs p =
    any (λ r. every (is_cancelled r ∷ eqb (key r).day d ∷ eqb (key r).counterparty p ∷ any (shares_bit few d r) rs ∷ [])) rs

-- such buyers among some parties
unfoldable pub likely_among : Bool → ℕ → List Record → List Bool → Parties
likely_among few d rs among p = flagged among p && likely_buyer few d rs p
