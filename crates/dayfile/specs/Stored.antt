-- The stores of a file's lines (01, 'Day file').
use Rattle.std.specs.Prelude.{List, [], ◌∷◌, ℕ, ◌+◌}
use Rattle.rules.specs.Stores.{stored_at}
use Rattle.rules.specs.DayFile.{Item, line, empty_block}

-- the lines stored one after the other, from a place on
unfoldable pub stored_from : List ℕ → ℕ → List Item → List ℕ
stored_from ws at [] = ws
stored_from ws at (line k a ∷ is) = stored_from (stored_at ws at k a) (at + 5) is
stored_from ws at (empty_block p d ∷ is) = stored_from ws at is
