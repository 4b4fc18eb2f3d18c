-- The tests of month tables: their lengths, their places and a price (01, 'Month step').
use Rattle.std.specs.Prelude.{◌≡◌, Bool, [], ◌∷◌, ℕ, ◌*◌, eqb, leb, ltb, length}
use Rattle.numbers.specs.Tests.{every}
use Rattle.rules.specs.Entry.{within}
use Rattle.rules.specs.Month.{Tables, hours, most_hours, most_rows, most_price}

abbrev pub lengths_agree : ℕ → ℕ → ℕ → ℕ → Bool
lengths_agree hours volumes rows dms = every (leb hours most_hours ∷ eqb volumes (rows * hours) ∷ eqb dms hours ∷ [])

-- the number of groups, and the one asked
abbrev pub places_ok : ℕ → ℕ → Bool
places_ok rows group = every (within 1 most_rows rows ∷ ltb group rows ∷ [])

abbrev pub price_ok : ℕ → Bool
price_ok price = leb price most_price

-- tables whose lengths agree
abbrev pub agree : Tables → Bool
agree m = lengths_agree (hours m) (length m.imbalance) m.rows (length m.dm)

-- each answer of a closure, by the relation of its calls, is that of a test
abbrev pub Tests : {T : Type 0} → (T → Bool → Type 0) → (T → Bool) → Type 0
Tests {T} post ok = (x : T) (answer : Bool) → post x answer → answer ≡ ok x
