-- Two lists with the same members, equally often, in any order.
use Rattle.std.specs.Prelude.{List, [], ◌∷◌}

module _ {A : Type 0} where
  pub data Reordered : List A → List A → Type 0 where
    none : Reordered [] []
    keep : (x : A) {xs ys : List A} → Reordered xs ys → Reordered (x ∷ xs) (x ∷ ys)
    exchange : (x y : A) (xs : List A) → Reordered (x ∷ y ∷ xs) (y ∷ x ∷ xs)
    further : {xs ys zs : List A} → Reordered xs ys → Reordered ys zs → Reordered xs zs
