-- Laws of lists: places after a prefix, of an image, of equal members, and of a list written in order. Assumes nothing.
use mathlib.Core.Path.{◌≡◌, refl, ◌∙◌}
use mathlib.Core.List.{List, [], ◌∷◌, ◌++◌, map}
use Prim.Native.Nat.{ℕ, zero, suc, ◌+◌, ◌<◌}
use native.Mathlib.Omega.{arith}
use lib.ListN.{length, get_or, set, drop, replicate}
use lib.Seq.{drop-append-add, get_or-append-add, get_or-set_same, get_or-set_other}
use borrow.Author.Count.{below_more}

module _ {A : Type 0} where
  pub drop-past : (p q : List A) (n m : ℕ) → length p ≡ n → drop (n + m) (p ++ q) ≡ drop m q
  drop-past p q n m e = rw (← e) (drop-append-add p q m)

  pub get_or-past : (p q : List A) (n m : ℕ) (x : A) → length p ≡ n → get_or (p ++ q) (n + m) x ≡ get_or q m x
  get_or-past p q n m x e = rw (← e) (get_or-append-add p q m x)

  -- equal members, and the same past the end
  pub get_or-blank : (n i : ℕ) (x : A) → get_or (replicate n x) i x ≡ x
  get_or-blank zero i x = refl
  get_or-blank (suc n) zero x = refl
  get_or-blank (suc n) (suc i) x = get_or-blank n i x

  -- one element more of a list that is written in order
  pub set_more : (z : A) (f : ℕ → A) (xs : List A) (k : ℕ) → k < length xs → ((j : ℕ) → j < k → get_or xs j z ≡ f j) →
      (j : ℕ) → j < k + 1 → get_or (set xs k (f k)) j z ≡ f j
  set_more z f xs k h e =
      below_more (λ j. get_or (set xs k (f k)) j z ≡ f j) k
      (λ j l. get_or-set_other xs k j (f k) z (λ s. absurd (omega (arith, l, s))) ∙ e j l)
      (get_or-set_same xs k (f k) z h)

pub get_or-map : {A B : Type 0} (f : A → B) (xs : List A) (i : ℕ) (x : A) (y : B) → i < length xs → get_or (map f xs) i y ≡ f (get_or xs i x)
get_or-map f [] i x y h = absurd (omega arith)
get_or-map f (a ∷ xs) zero x y h = refl
get_or-map f (a ∷ xs) (suc i) x y h = get_or-map f xs i x y (omega arith)
