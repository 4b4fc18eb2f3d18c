-- The checks of a file's items with the closed days in a table (01, 'Day file').
use Rattle.std.specs.Prelude.{◌≡◌, Bool, false, not, ◌&&◌, List, [], ◌∷◌, map, ℕ, ◌<◌, length, get_or}
use Rattle.numbers.specs.Causes.{unless, first_of, if_done}
use Rattle.rules.specs.Refusals.{day_closed}
use Rattle.rules.specs.Entry.{Record, day_places, fault, is_bilateral}
use Rattle.rules.specs.Book.{is_closed}
use Rattle.rules.specs.DayFile.{Item, line, empty_block, item_cause, lines_of}
use Rattle.rules.specs.declared.FileRead.{FileRead}

-- the table says of each day what the book says; a day past its end is not closed
abbrev pub TableOf : List Bool → List Record → Type 0
TableOf cs rs = (d : ℕ) → d < day_places → get_or cs d false ≡ is_closed d rs

-- the causes of an item, with the closed days looked up in a table
unfoldable pub cause_by : List Bool → Item → ℕ
cause_by closed (line k a) =
    first_of (fault k a ∷ unless (not (is_bilateral k && get_or closed k.day false)) day_closed ∷ [])
cause_by closed (empty_block p d) = item_cause [] (empty_block p d)

abbrev pub first_cause : List Bool → List Item → ℕ
first_cause closed is = first_of (map (cause_by closed) is)

-- the first cause of the items, and how many lines they have
unfoldable pub scanned : List Record → List Item → FileRead
scanned rs is =
    let k = first_of (map (item_cause rs) is) in
    record { answer = k; posted = if_done k (length (lines_of is)) 0 }
