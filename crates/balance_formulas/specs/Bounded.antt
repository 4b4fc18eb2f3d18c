-- What the sums of a book stay within, which keeps a balance within 64 bits.
use Rattle.std.specs.Prelude.{List, ℕ, ◌*◌, ◌≤◌, ◌<◌, get_or}
use Rattle.rules.specs.Entry.{most_volume}
use Rattle.rules.specs.Words.{most_entries}
use Rattle.rules.specs.Balance.{sum_count}

-- a full book's entries, each of the largest volume
abbrev pub most_sum : ℕ
most_sum = most_entries * most_volume

-- each of the sums
abbrev pub SumsWithin : List ℕ → Type 0
SumsWithin sums = (i : ℕ) → i < sum_count → get_or sums i 0 ≤ most_sum
