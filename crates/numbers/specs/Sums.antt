-- Sums by index and over a list.
use Rattle.std.specs.Prelude.{Bool, cond, List, [], ◌∷◌, ℕ, zero, suc, ◌+◌}

-- f 0 + .. + f (n - 1)
unfoldable pub sum : ℕ → (ℕ → ℕ) → ℕ
sum zero f = 0
sum (suc n) f = sum n f + f n

-- how many numbers below n pass a test
unfoldable pub count_below : ℕ → (ℕ → Bool) → ℕ
count_below n f = sum n (λ k. cond (f k) 1 0)

module _ {A : Type 0} where
  -- the sum of f over a list
  unfoldable pub total : (A → ℕ) → List A → ℕ
  total f [] = 0
  total f (x ∷ xs) = f x + total f xs

  -- how many members of a list pass a test
  unfoldable pub count : (A → Bool) → List A → ℕ
  count f xs = total (λ x. cond (f x) 1 0) xs
