-- The month after each digit is the month that the whole number names. Assumes nothing.
use Rattle.std.specs.Prelude.{MatchOption, None, Some}
use mathlib.Core.Path.{◌≡◌, refl, ap}
use mathlib.Core.Bool.{Bool, true, false, cond}
use mathlib.Core.List.{List, [], ◌∷◌}
use mathlib.Core.Logic.{inl, inr}
use Prim.Native.Nat.{ℕ, suc, ◌+◌, ◌-◌, ◌*◌, ◌≤◌, ◌<◌}
use native.Mathlib.Nat.{le_refl, le_trans}
use native.Mathlib.Numerals.{add-one}
use native.Mathlib.Omega.{arith}
use lib.Dec.{ltb}
use lib.ListN.{length, get_or, drop, drop_of_length-le}
use lib.Seq.{drop-cons}
use borrow.Author.Tests.{ltb-true, ltb-false, lt-ltb, le-ltb, ne_eqb}
use Rattle.numbers.specs.Tests.{every, all}
use Rattle.numbers.proofs.TestLaws.{bool_cases}
use Rattle.calendar.specs.Calendar.{months}
use Rattle.month_argument.specs.Argument.{is_digit, is_digits, number_from, number_of, month_named}
use Rattle.month_argument.specs.Longer.{month_at, longer, month_from}

-- more digits make no smaller number
grows : (bs : List ℕ) (n : ℕ) → n ≤ number_from n bs
unfolding number_from
grows [] n = le_refl n
grows (b ∷ bs) n = le_trans (omega arith) (grows bs (10 * n + (b - 48)))

-- a number past the months names none, whatever digits follow
past : (n : ℕ) (bs : List ℕ) → months ≤ n → month_from n bs ≡ None
unfolding month_from
past n bs h = go (all is_digit bs)
  where
    go : (d : Bool) → cond d (month_at (number_from n bs)) None ≡ None
    go true = rw (le-ltb (number_from n bs) months (le_trans h (grows bs n)))
    go false = refl

-- one byte more: a month's number goes on, and none stays none
goes-on : (n b : ℕ) (bs : List ℕ) {m : ℕ} → longer n b ≡ Some m → month_from n (b ∷ bs) ≡ month_from m bs
unfolding month_from all number_from
goes-on n b bs {m} e =
    elim (bool_cases (is_digit b)) [
      | inl p ↦ elim (bool_cases (ltb (10 * n + (b - 48)) months)) [
        | inl q ↦ (let same = rw (p, q) at e in rw p (let k : 10 * n + (b - 48) ≡ m = cc in ap (λ j. month_from j bs) k))
        | inr q ↦ (let no = rw (p, q) at e in absurd cc)
      ]
      | inr p ↦ (let no = rw p at e in absurd cc)
    ]

ends-there : (n b : ℕ) (bs : List ℕ) → longer n b ≡ None → month_from n (b ∷ bs) ≡ None
unfolding month_from all number_from
ends-there n b bs e =
    elim (bool_cases (is_digit b)) [
      | inl p ↦ elim (bool_cases (ltb (10 * n + (b - 48)) months)) [
        | inl q ↦ (let no = rw (p, q) at e in absurd cc)
        | inr q ↦ rw p (past (10 * n + (b - 48)) bs (ltb-false (10 * n + (b - 48)) months q))
      ]
      | inr p ↦ rw p
    ]

pub longer-below : (n b : ℕ) {m : ℕ} → longer n b ≡ Some m → m < months
longer-below n b {m} e =
    elim (bool_cases (is_digit b)) [
      | inl p ↦ elim (bool_cases (ltb (10 * n + (b - 48)) months)) [
        | inl q ↦ (let same = rw (p, q) at e in let k : 10 * n + (b - 48) ≡ m = cc in omega (arith, ltb-true (10 * n + (b - 48)) months q))
        | inr q ↦ (let no = rw (p, q) at e in absurd cc)
      ]
      | inr p ↦ (let no = rw p at e in absurd cc)
    ]

-- the bytes from a place on: one of them, or none
module _ (bs : List ℕ) (i n : ℕ) where
  pub next-digit : {m : ℕ} → i < length bs → longer n (get_or bs i 0) ≡ Some m → month_from n (drop i bs) ≡ month_from m (drop (i + 1) bs)
  next-digit h e = rw (add-one i, drop-cons bs i 0 h) (goes-on n (get_or bs i 0) (drop (suc i) bs) e)

  pub no-digit : i < length bs → longer n (get_or bs i 0) ≡ None → month_from n (drop i bs) ≡ None
  no-digit h e = rw (drop-cons bs i 0 h) (ends-there n (get_or bs i 0) (drop (suc i) bs) e)

  pub digits-end : length bs ≤ i → n < months → month_from n (drop i bs) ≡ Some n
  unfolding month_from all number_from
  digits-end h k = rw (drop_of_length-le bs h, lt-ltb n months k)

-- the month by the number of arguments, and by the only one
pub not-one : (n : ℕ) (bs : List ℕ) → (n ≡ 1 → ⊥) → month_named n bs ≡ months
unfolding month_named
not-one n bs h = rw (ne_eqb n 1 h)

pub empty-one : (bs : List ℕ) → length bs ≡ 0 → month_named 1 bs ≡ months
unfolding month_named is_digits
empty-one [] e = refl
empty-one (b ∷ bs) e = absurd (omega arith)

pub one-named : (bs : List ℕ) → (length bs ≡ 0 → ⊥) → MatchOption (month_from 0 bs) (month_named 1 bs ≡ months) (λ m. (m < months) × (month_named 1 bs ≡ m))
unfolding month_named is_digits number_of month_from
one-named [] h = absurd (h refl)
one-named (b ∷ bs) h = go (all is_digit (b ∷ bs)) (ltb (number_from 0 (b ∷ bs)) months) refl
  where
    go : (d l : Bool) → ltb (number_from 0 (b ∷ bs)) months ≡ l
        → MatchOption (cond d (cond l (Some (number_from 0 (b ∷ bs))) None) None) (cond (every (true ∷ d ∷ l ∷ [])) (number_from 0 (b ∷ bs)) months ≡ months) (λ m. (m < months) × (cond (every (true ∷ d ∷ l ∷ [])) (number_from 0 (b ∷ bs)) months ≡ m))
    go true true e = (ltb-true (number_from 0 (b ∷ bs)) months e, refl)
    go true false e = refl
    go false l e = refl
