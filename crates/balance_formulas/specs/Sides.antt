-- Parts of a balance's sides that a function of the code makes by itself.
use Rattle.std.specs.Prelude.{ℕ, ◌+◌}
use Rattle.numbers.specs.Sums.{total}
use Rattle.rules.specs.Balance.{day_ahead, cover_types, sum_no, acquired}
use Rattle.rules.specs.declared.Tally.{Tally}

-- C without intraday purchases, with this generation program
unfoldable pub cover_with : Tally → ℕ → ℕ → ℕ
cover_with t program B = total (sum_no t) (cover_types day_ahead) + program + acquired t B
