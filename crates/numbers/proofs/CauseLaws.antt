-- Laws of the causes of Causes.antt. Assumes nothing.
use mathlib.Core.Path.{◌≡◌, refl}
use mathlib.Core.Logic.{◌≢◌}
use mathlib.Core.Bool.{Bool, true, false}
use mathlib.Core.List.{List, [], ◌∷◌, ◌++◌}
use Prim.Native.Nat.{ℕ, zero, suc}
use native.Mathlib.Nat.{suc-ne-zero}
use Rattle.numbers.specs.Causes.{unless, or_else, first_of, if_done}

pub unless-zero : (t : Bool) (n : ℕ) → unless t (suc n) ≡ 0 → t ≡ true
unless-zero true n e = refl
unless-zero false n e = absurd (suc-ne-zero n e)

pub else-split : (c later : ℕ) → or_else c later ≡ 0 → (c ≡ 0) × (later ≡ 0)
else-split zero later e = (refl, e)
else-split (suc n) later e = absurd (suc-ne-zero n e)

pub else-stop : (c later : ℕ) → (c ≡ 0 → ⊥) → or_else c later ≡ c
else-stop zero later n = absurd (n refl)
else-stop (suc c) later n = refl

pub else-none : (c : ℕ) → or_else c 0 ≡ c
else-none zero = refl
else-none (suc c) = refl

-- each cause of a list is none
abbrev pub Clear : List ℕ → Type 0
Clear [] = Unit {0}
Clear (c ∷ cs) = (c ≡ 0) × Clear cs

pub clear-all : (cs : List ℕ) → first_of cs ≡ 0 → Clear cs
clear-all [] e = tt
clear-all (c ∷ cs) e = let s = else-split c (first_of cs) e in (s.0, clear-all cs s.1)

-- the first cause of two lists in turn
pub first-append : (cs ds : List ℕ) → first_of (cs ++ ds) ≡ or_else (first_of cs) (first_of ds)
first-append [] ds = refl
first-append (zero ∷ cs) ds = first-append cs ds
first-append (suc n ∷ cs) ds = refl

module _ {ℓ} {A : Type ℓ} where
  pub done-zero : (c : ℕ) (new old : A) → c ≡ 0 → if_done c new old ≡ new
  done-zero c new old e = rw e

  pub done-else : (c : ℕ) (new old : A) → c ≢ 0 → if_done c new old ≡ old
  done-else zero new old h = absurd (h refl)
  done-else (suc k) new old h = refl
