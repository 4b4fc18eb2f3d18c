-- The parties and days that a file names, by table (01, 'Day file').
use Rattle.std.specs.Prelude.{Bool, ◌&&◌, ◌||◌, List, ℕ, eqb, ltb}
use Rattle.numbers.specs.Tests.{any}
use Rattle.rules.specs.DayFile.{Item, line, empty_block, items}

-- a line names its party and its counterparty, if that is above 0
abbrev pub is_named : ℕ → ℕ → ℕ → Bool
is_named q c p = eqb q p || (ltb 0 c && eqb c p)

-- a party is named, on whatever day
unfoldable pub item_has : ℕ → Item → Bool
item_has p (line k a) = is_named k.party k.counterparty p
item_has p (empty_block q d) = eqb q p

unfoldable pub names_party : List ℕ → ℕ → Bool
names_party bs p = any (item_has p) (items bs)
