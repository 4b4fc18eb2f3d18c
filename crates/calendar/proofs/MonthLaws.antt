-- Laws of months: their lengths, their starts, and the month of a day. Assumes nothing.
use mathlib.Core.Path.{◌≡◌, refl, sym, ◌∙◌, ap, subst, subst⁻¹}
use mathlib.Core.Logic.{inl, inr}
use mathlib.Core.Bool.{Bool, true, false, cond, ◌||◌}
use Prim.Native.Nat.{ℕ, zero, suc, ◌+◌, ◌-◌, ◌≤◌, ◌<◌, zero-le}
use native.Mathlib.Nat.{add-zero, le_antisymm, le_of_eq, le_of_lt, le_step, le_refl, eq-or-lt_of_le, le_of_suc-le-suc}
use native.Mathlib.Omega.{arith}
use lib.Dec.{eqb, ltb}
use borrow.Author.Tests.{ltb-true, ltb-false, le-ltb}
use Rattle.calendar.specs.Calendar.{months, days, year_of, month_in_year, is_leap, days_in, month_length, month_start, month_from, month_of, date_of}
use Rattle.numbers.specs.Sums.{sum}
use Rattle.numbers.proofs.TestLaws.{bool_cases}

-- a month has 28 to 31 days
pub days_in-range : (y m : ℕ) → (28 ≤ days_in y m) × (days_in y m ≤ 31)
unfolding days_in
days_in-range y m = go (eqb m 2) (is_leap y) (eqb m 4 || eqb m 6 || eqb m 9 || eqb m 11)
  where
    go : (february leap short : Bool) → (28 ≤ cond february (cond leap 29 28) (cond short 30 31)) × (cond february (cond leap 29 28) (cond short 30 31) ≤ 31)
    go true true s = omega arith
    go true false s = omega arith
    go false l true = omega arith
    go false l false = omega arith

pub month-length : (n : ℕ) → (28 ≤ month_length n) × (month_length n ≤ 31)
unfolding month_length
month-length n = days_in-range (year_of n) (month_in_year n)

pub start-zero : month_start 0 ≡ 0
unfolding month_start
start-zero = refl

pub start-step : (n : ℕ) → month_start (suc n) ≡ month_start n + month_length n
unfolding month_start
start-step n = refl

-- the days of all months before
pub start-sum : (n : ℕ) → month_start n ≡ sum n month_length
unfolding month_start sum
start-sum zero = refl
start-sum (suc n) = ap (λ d. d + month_length n) (start-sum n)

pub start-mono : (m n : ℕ) → m ≤ n → month_start m ≤ month_start n
start-mono m zero h = le_of_eq (ap month_start (omega arith))
start-mono m (suc n) h =
    elim (eq-or-lt_of_le h) [
      | inl e ↦ le_of_eq (ap month_start e)
      | inr l ↦ omega (arith, start-mono m n (le_of_suc-le-suc l), start-step n)
    ]

pub start-lt : (m n : ℕ) → month_start m < month_start n → m < n
start-lt m n h =
    elim (bool_cases (ltb m n)) [
      | inl e ↦ ltb-true m n e
      | inr e ↦ absurd (omega (arith, start-mono n m (ltb-false m n e)))
    ]

pub start-end : month_start months ≡ days
unfolding month_start month_length days_in is_leap
start-end = refl

-- the search finds the one month that holds the day, and the end where none does
from_found : (k m left n : ℕ) → m ≤ n → n < m + k → month_start n ≤ month_start m + left → month_start m + left < month_start (suc n) → month_from k m left ≡ n
unfolding month_from
from_found zero m left n h l low high = absurd (omega arith)
from_found (suc k) m left n h l low high =
    elim (bool_cases (ltb left (month_length m))) [
      | inl e ↦
          let short : left < month_length m = ltb-true _ _ e in
          rw e (le_antisymm h (le_of_suc-le-suc (start-lt n (suc m) (omega (arith, start-step m)))))
      | inr e ↦
          let long : month_length m ≤ left = ltb-false _ _ e in
          let next : suc m ≤ n = le_of_suc-le-suc (start-lt (suc m) (suc n) (omega (arith, start-step m))) in
          rw e (from_found k (suc m) (left - month_length m) n next (omega arith) (omega (arith, start-step m)) (omega (arith, start-step m)))
    ]

from_past : (k m left : ℕ) → month_start (m + k) ≤ month_start m + left → month_from k m left ≡ m + k
unfolding month_from
from_past zero m left h = sym (add-zero m)
from_past (suc k) m left h =
    let long : month_length m ≤ left = omega (arith, start-step m, start-mono (suc m) (m + suc k) (omega arith)) in
    let next : suc m + k ≡ m + suc k = omega arith in
    rw (le-ltb left (month_length m) long)
    (from_past k (suc m) (left - month_length m) (omega (arith, start-step m, ap month_start next)) ∙ next)

pub month-unique : (m d : ℕ) → m < months → month_start m ≤ d → d < month_start (suc m) → month_of d ≡ m
unfolding month_of
month-unique m d h low high = from_found months 0 d m zero-le (omega arith) (omega (arith, start-zero)) (omega (arith, start-zero))

pub month-past : (d : ℕ) → days ≤ d → month_of d ≡ months
unfolding month_of
month-past d h = from_past months 0 d (omega (arith, start-zero, start-end))

-- some month below n holds a day before month n
held : (n d : ℕ) → d < month_start n → (m : ℕ) × (m < n) × (month_start m ≤ d) × (d < month_start (suc m))
held zero d h = absurd (omega (arith, start-zero))
held (suc n) d h =
    elim (bool_cases (ltb d (month_start n))) [
      | inl e ↦ let r = held n d (ltb-true d (month_start n) e) in (r.0, le_step r.1, r.2, r.3)
      | inr e ↦ (n, le_refl (suc n), ltb-false d (month_start n) e, h)
    ]

-- where a day stands in its month
pub record InMonth (d m : ℕ) : Type 0 where
  pub below : m < months
  pub from : month_start m ≤ d
  pub until : d < month_start (suc m)

pub month-holds : (d : ℕ) → d < days → InMonth d (month_of d)
month-holds d h =
    let r = held months d (omega (arith, start-end)) in
    subst⁻¹ (InMonth d) (month-unique r.0 d r.1 r.2 r.3)
    (record { below = r.1; from = r.2; until = r.3 })

-- the days of a month of the table
pub month-days : (m d : ℕ) → m < months → month_of d ≡ m → (month_start m ≤ d) × (d < month_start m + month_length m)
month-days m d h e =
    elim (bool_cases (ltb d days)) [
      | inl t ↦ (let r = subst (InMonth d) e (month-holds d (ltb-true d days t)) in omega (arith, start-step m))
      | inr t ↦ absurd (omega (arith, month-past d (ltb-false d days t)))
    ]

pub month-day : (m d : ℕ) → m < months → month_start m ≤ d → d < month_start m + month_length m → month_of d ≡ m
month-day m d h low high = month-unique m d h low (omega (arith, start-step m))

-- and none lies past the table
pub month-last : (m d : ℕ) → m < months → d < month_start m + month_length m → d < days
month-last m d h high = omega (arith, start-step m, start-mono (suc m) months h, start-end)

pub month-most : (d : ℕ) → month_of d ≤ months
month-most d =
    elim (bool_cases (ltb d days)) [
      | inl e ↦ le_of_lt (month-holds d (ltb-true d days e)).below
      | inr e ↦ le_of_eq (month-past d (ltb-false d days e))
    ]

pub month-mono : (d e : ℕ) → d ≤ e → month_of d ≤ month_of e
month-mono d e h =
    elim (bool_cases (ltb e days)) [
      | inl t ↦
          let l : e < days = ltb-true e days t in
          let r = month-holds d (omega arith) in
          let s = month-holds e l in
          le_of_suc-le-suc (start-lt (month_of d) (suc (month_of e)) (omega arith))
      | inr t ↦ rw (month-past e (ltb-false e days t)) (month-most d)
    ]

pub day-59 : date_of 59 ≡ record { year = 2000; month = 2; day = 29 }
unfolding date_of month_of month_from month_start month_length days_in is_leap
day-59 = refl

pub day-36524 : date_of 36524 ≡ record { year = 2099; month = 12; day = 31 }
unfolding date_of month_of month_from month_start month_length days_in is_leap
day-36524 = refl
