-- Laws of two lists compared place by place (specs/Compared.antt). Assumes nothing.
use mathlib.Core.Path.{◌≡◌, refl, ap}
use mathlib.Core.List.{List, [], ◌∷◌, ◌++◌}
use Prim.Native.Nat.{ℕ, zero, suc}
use lib.ListN.{length, get_or, take}
use Rattle.rules.specs.Compared.{Each}

pub each-equal : {C : Type 0} (cs : List C) → Each (λ c d. c ≡ d) cs cs
each-equal [] = tt
each-equal (c ∷ cs) = (refl, each-equal cs)

module _ {A : Type 0} (P : A → A → Type 0) where
  pub each-length : (xs ys : List A) → Each P xs ys → length ys ≡ length xs
  each-length [] [] h = refl
  each-length [] (y ∷ ys) h = absurd h
  each-length (x ∷ xs) [] h = absurd h
  each-length (x ∷ xs) (y ∷ ys) h = ap suc (each-length xs ys h.1)

  pub each-get_or : (d : A) → P d d → (xs ys : List A) → Each P xs ys → (i : ℕ) → P (get_or xs i d) (get_or ys i d)
  each-get_or d p [] [] h i = p
  each-get_or d p [] (y ∷ ys) h i = absurd h
  each-get_or d p (x ∷ xs) [] h i = absurd h
  each-get_or d p (x ∷ xs) (y ∷ ys) h zero = h.0
  each-get_or d p (x ∷ xs) (y ∷ ys) h (suc i) = each-get_or d p xs ys h.1 i

  pub each_take : (k : ℕ) (xs ys : List A) → Each P xs ys → Each P (take k xs) (take k ys)
  each_take zero xs ys h = tt
  each_take (suc k) [] [] h = tt
  each_take (suc k) [] (y ∷ ys) h = absurd h
  each_take (suc k) (x ∷ xs) [] h = absurd h
  each_take (suc k) (x ∷ xs) (y ∷ ys) h = (h.0, each_take k xs ys h.1)

  pub each_snoc : (xs ys : List A) (x y : A) → Each P xs ys → P x y → Each P (xs ++ (x ∷ [])) (ys ++ (y ∷ []))
  each_snoc [] [] x y h p = (p, tt)
  each_snoc [] (b ∷ ys) x y h p = absurd h
  each_snoc (a ∷ xs) [] x y h p = absurd h
  each_snoc (a ∷ xs) (b ∷ ys) x y h p = (h.0, each_snoc xs ys x y h.1 p)
