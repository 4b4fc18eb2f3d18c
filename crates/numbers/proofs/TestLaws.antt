-- Laws of the tests of Tests.antt. Assumes nothing.
use mathlib.Core.Path.{◌≡◌, refl, sym, ◌∙◌}
use mathlib.Core.Logic.{◌⊎◌, inl, inr}
use mathlib.Core.Bool.{Bool, true, false, ◌&&◌, ◌||◌, false≢true, true≢false}
use mathlib.Core.List.{List, [], ◌∷◌, ◌++◌}
use Prim.Native.Nat.{ℕ, zero, suc, ◌≤◌, ◌<◌}
use native.Mathlib.Nat.{le_of_suc-le-suc, not-suc-le-zero, eq-or-lt_of_le}
use native.Mathlib.Omega.{arith}
use lib.Dec.{ltb}
use lib.ListN.{length, get_or, set}
use borrow.Author.Tests.{ltb-true, ltb-false}
use Rattle.numbers.specs.Tests.{every, all, any, all_below}

pub bool_cases : (b : Bool) → (b ≡ true) ⊎ (b ≡ false)
bool_cases true = inl refl
bool_cases false = inr refl

-- two numbers: the first below the second, or not
pub below-or-above : (a b : ℕ) → (a < b) ⊎ (b ≤ a)
below-or-above a b = elim (bool_cases (ltb a b)) [ inl e ↦ inl (ltb-true a b e) | inr e ↦ inr (ltb-false a b e) ]

pub and_split : (a b : Bool) → a && b ≡ true → (a ≡ true) × (b ≡ true)
and_split true b e = (refl, e)
and_split false b e = absurd (false≢true e)

pub and-join : (a b : Bool) → a ≡ true → b ≡ true → a && b ≡ true
and-join true b p q = q
and-join false b p q = p

pub or_cases : (a b : Bool) → a || b ≡ true → (a ≡ true) ⊎ (b ≡ true)
or_cases true b e = inl refl
or_cases false b e = inr e

pub or_left : (a b : Bool) → a ≡ true → a || b ≡ true
or_left a b e = rw e

pub or_right : (a b : Bool) → b ≡ true → a || b ≡ true
or_right true b e = refl
or_right false b e = e

pub or-false-split : (a b : Bool) → a || b ≡ false → (a ≡ false) × (b ≡ false)
or-false-split true b e = absurd (true≢false e)
or-false-split false b e = (refl, e)

-- each test of a list holds, as facts
abbrev pub Holds : List Bool → Type 0
Holds [] = Unit {0}
Holds (t ∷ ts) = (t ≡ true) × Holds ts

pub every-cons : (t : Bool) (ts : List Bool) → every (t ∷ ts) ≡ t && every ts
every-cons true [] = refl
every-cons true (u ∷ us) = refl
every-cons false [] = refl
every-cons false (u ∷ us) = every-cons false us

pub every_holds : (ts : List Bool) → every ts ≡ true → Holds ts
every_holds [] e = tt
every_holds (t ∷ ts) e =
    let s = and_split t (every ts) (sym (every-cons t ts) ∙ e) in
    (s.0, every_holds ts s.1)

pub holds-every : (ts : List Bool) → Holds ts → every ts ≡ true
holds-every [] h = refl
holds-every (t ∷ ts) h = every-cons t ts ∙ and-join t (every ts) h.0 (holds-every ts h.1)

pub every-fails : (ts : List Bool) → ¬ Holds ts → every ts ≡ false
every-fails ts h = elim (bool_cases (every ts)) [ inl e ↦ absurd (h (every_holds ts e)) | inr e ↦ e ]

module _ {A : Type 0} where
  pub all_append : (f : A → Bool) (xs ys : List A) → all f (xs ++ ys) ≡ all f xs && all f ys
  unfolding all
  all_append f [] ys = refl
  all_append f (x ∷ xs) ys = and-assoc-step (f x) (all f xs) (all f ys) (all_append f xs ys)
    where
      and-assoc-step : (a b c : Bool) {d : Bool} → d ≡ b && c → a && d ≡ a && b && c
      and-assoc-step true b c e = e
      and-assoc-step false b c e = refl

  pub any_append : (f : A → Bool) (xs ys : List A) → any f (xs ++ ys) ≡ any f xs || any f ys
  unfolding any
  any_append f [] ys = refl
  any_append f (x ∷ xs) ys = or-assoc-step (f x) (any f xs) (any f ys) (any_append f xs ys)
    where
      or-assoc-step : (a b c : Bool) {d : Bool} → d ≡ b || c → a || d ≡ a || b || c
      or-assoc-step true b c e = refl
      or-assoc-step false b c e = e

  -- what holds of each member holds at each place
  pub all_get_d : (f : A → Bool) (xs : List A) → all f xs ≡ true → (i : ℕ) (d : A) → i < length xs → f (get_or xs i d) ≡ true
  unfolding all
  all_get_d f [] e i d h = absurd (not-suc-le-zero h)
  all_get_d f (x ∷ xs) e zero d h = (and_split (f x) (all f xs) e).0
  all_get_d f (x ∷ xs) e (suc i) d h = all_get_d f xs (and_split (f x) (all f xs) e).1 i d (le_of_suc-le-suc h)

  -- and past the end, where it holds of what stands there
  pub get_or-holds : (f : A → Bool) (xs : List A) → all f xs ≡ true → (i : ℕ) (d : A) → f d ≡ true → f (get_or xs i d) ≡ true
  unfolding all
  get_or-holds f [] e i d h = h
  get_or-holds f (x ∷ xs) e zero d h = (and_split (f x) (all f xs) e).0
  get_or-holds f (x ∷ xs) e (suc i) d h = get_or-holds f xs (and_split (f x) (all f xs) e).1 i d h

pub all_below-at : (n : ℕ) (f : ℕ → Bool) → all_below n f ≡ true → (k : ℕ) → k < n → f k ≡ true
unfolding all_below
all_below-at zero f e k h = absurd (not-suc-le-zero h)
all_below-at (suc n) f e k h =
    let s = and_split (f n) (all_below n f) e in
    elim (eq-or-lt_of_le (le_of_suc-le-suc h)) [ inl q ↦ rw q s.0 | inr l ↦ all_below-at n f s.1 k l ]

pub all_below-from : (n : ℕ) (f : ℕ → Bool) → ((k : ℕ) → k < n → f k ≡ true) → all_below n f ≡ true
unfolding all_below
all_below-from zero f h = refl
all_below-from (suc n) f h =
    and-join (f n) (all_below n f) (h n (omega arith)) (all_below-from n f (λ k l. h k (omega arith)))

pub all_set : {A : Type 0} (f : A → Bool) (xs : List A) (i : ℕ) (x : A) → all f xs ≡ true → f x ≡ true → all f (set xs i x) ≡ true
unfolding all
all_set f [] i x e h = refl
all_set f (y ∷ ys) zero x e h = and-join (f x) (all f ys) h (and_split (f y) (all f ys) e).1
all_set f (y ∷ ys) (suc i) x e h =
    let s = and_split (f y) (all f ys) e in
    and-join (f y) _ s.0 (all_set f ys i x s.1 h)
