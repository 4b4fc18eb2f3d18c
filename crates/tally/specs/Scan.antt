-- What the scan of a book answers (01, 'The two balances'), and the cells that it adds entries to.
use Rattle.std.specs.Prelude.{Bool, not, ◌&&◌, List, [], ◌∷◌, ℕ, eqb}
use Rattle.numbers.specs.Tests.{every}
use Rattle.rules.specs.Entry.{Label, Record, is_volume, is_export, standing}
use Rattle.rules.specs.Balance.{tally_of, bought_by, no_tally, sum_place}
use Rattle.rules.specs.declared.PartyDay.{PartyDay}
use Rattle.rules.specs.declared.TallyAnswer.{TallyAnswer}
use Rattle.cells.specs.Cells.{Cells, one_if}

-- the tally and B of a party's day
abbrev pub scanned : ℕ → ℕ → List Record → PartyDay
scanned p d rs = record { tally = tally_of p d rs; bought = bought_by p d rs }

-- a refusal: every figure is zero
abbrev pub none_for : ℕ → TallyAnswer
none_for cause = record { answer = cause; tally = no_tally; bought = 0 }

-- an entry that counts in the sums of a day: standing, of the day, of a volume type, no export
unfoldable pub counts : ℕ → Label → Bool
counts d l = every (eqb l.status standing ∷ eqb l.key.day d ∷ is_volume l.key.type ∷ not (is_export l.key) ∷ [])

-- it goes to its party's sum of its type
abbrev pub own_cells : ℕ → ℕ → Cells
own_cells p d l = one_if (eqb l.key.party p && counts d l) (sum_place l.key.type)
