-- Divisions that round. By a divisor of 0 both give 0.
use Rattle.std.specs.Prelude.{ℕ, ◌+◌, ◌*◌, ◌-◌, ◌/◌}

-- a / b, halves up
unfoldable pub half_up : ℕ → ℕ → ℕ
half_up a b = (2 * a + b) / (2 * b)

-- a / b, up
unfoldable pub round_up : ℕ → ℕ → ℕ
round_up a b = (a + (b - 1)) / b
