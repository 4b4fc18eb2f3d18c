-- What a pass of a control needs an entry of. Only the contracts of internal functions cite these.
use Rattle.std.specs.Prelude.{Bool, false, not, [], ◌∷◌, ℕ, eqb}
use Rattle.numbers.specs.Tests.{every}
use Rattle.rules.specs.Entry.{Record, key, is_standing, is_cancelled, is_export}
use Rattle.rules.specs.Control.{Parties}
use Rattle.detection.specs.Tables.{is_sale_type}

-- a pass without parties
abbrev pub nobody : Parties
nobody p = false

-- a cancelled entry of the day
unfoldable pub is_cancelled_on : ℕ → Record → Bool
is_cancelled_on d r = every (is_cancelled r ∷ eqb (key r).day d ∷ [])

-- a standing sale of the day in the day-ahead balance, no export (Article 7)
unfoldable pub is_sale_on : ℕ → Record → Bool
is_sale_on d r =
    every (is_standing r ∷ eqb (key r).day d ∷ is_sale_type (key r).type ∷ not (is_export (key r)) ∷ [])
