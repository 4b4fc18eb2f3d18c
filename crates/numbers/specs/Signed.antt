-- Signed figures.
use Rattle.std.specs.Prelude.{Bool, cond, ℕ, zero, suc, ℤ, pos, ◌+ℤ◌}
use Rattle.std.specs.Int.Signed.{lt_z}

-- above zero
abbrev pub is_positive : ℤ → Bool
is_positive z = lt_z (pos 0) z

-- below zero
abbrev pub is_negative : ℤ → Bool
is_negative z = lt_z z (pos 0)

-- the lower of two
abbrev pub lower : ℤ → ℤ → ℤ
lower a b = cond (lt_z b a) b a

-- f 0 + .. + f (n - 1), signed
unfoldable pub sum_ℤ : ℕ → (ℕ → ℤ) → ℤ
sum_ℤ zero f = pos 0
sum_ℤ (suc n) f = sum_ℤ n f +ℤ f n
