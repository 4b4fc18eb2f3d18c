-- A flag for each party's number.
use Rattle.std.specs.Prelude.{Bool, true, false, List, ℕ, get_or, set, replicate}
use Rattle.rules.specs.Entry.{party_places}
use Rattle.rules.specs.Control.{Parties}

-- the parties whose flag is set
abbrev pub flagged : List Bool → Parties
flagged flags p = get_or flags p false

unfoldable pub no_flags : List Bool
no_flags = replicate party_places false

unfoldable pub all_flags : List Bool
all_flags = replicate party_places true

abbrev pub with_flag : List Bool → ℕ → List Bool
with_flag flags k = set flags k true
