-- Tests over lists and over indices.
use Rattle.std.specs.Prelude.{Bool, true, false, ◌&&◌, ◌||◌, List, [], ◌∷◌, ℕ, zero, suc}

abbrev pub and_all : Bool → List Bool → Bool
and_all t [] = t
and_all t (u ∷ us) = and_all (t && u) us

-- each test of a list holds: t₀ && t₁ && ..
abbrev pub every : List Bool → Bool
every [] = true
every (t ∷ ts) = and_all t ts

module _ {A : Type 0} where
  -- a test holds of each member
  unfoldable pub all : (A → Bool) → List A → Bool
  all f [] = true
  all f (x ∷ xs) = f x && all f xs

  -- a test holds of some member
  unfoldable pub any : (A → Bool) → List A → Bool
  any f [] = false
  any f (x ∷ xs) = f x || any f xs

-- a test holds of each number below n
unfoldable pub all_below : ℕ → (ℕ → Bool) → Bool
all_below zero f = true
all_below (suc n) f = f n && all_below n f
