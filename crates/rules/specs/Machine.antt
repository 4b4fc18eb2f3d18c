-- Calls on a state and lists of them: the first call gets the state, each later one what the one before left.
use Rattle.std.specs.Prelude.{List, [], ◌∷◌, ℕ}
use Rattle.numbers.specs.Causes.{if_done}

-- what calls do to a state: the cause of a refusal, the figures of a done call and the state that it leaves
pub record Machine (S C F : Type 0) : Type 0 where
  pub cause : S → C → ℕ
  pub figures : S → C → F
  pub done : S → C → S

-- what a call answers
pub record Answer (F : Type 0) : Type 0 where
  pub cause : ℕ
  pub figures : F

module _ {S C F : Type 0} where
  -- a refused call leaves the state as it was
  unfoldable pub leaves_of : Machine S C F → S → C → S
  leaves_of m s c = if_done (m.cause s c) (m.done s c) s

  -- and its other figures are those of `none`
  unfoldable pub figures_of : F → Machine S C F → S → C → F
  figures_of none m s c = if_done (m.cause s c) (m.figures s c) none

  unfoldable pub after : Machine S C F → S → List C → S
  after m s [] = s
  after m s (c ∷ cs) = after m (leaves_of m s c) cs

  unfoldable pub answers : F → Machine S C F → S → List C → List (Answer F)
  answers none m s [] = []
  answers none m s (c ∷ cs) = record { cause = m.cause s c; figures = figures_of none m s c } ∷ answers none m (leaves_of m s c) cs
