-- The first day of a month by the Gregorian rule, over the month number, for all months (02, T-08). Assumes nothing.
use mathlib.Core.Path.{◌≡◌, refl, sym, ◌∙◌, ap}
use mathlib.Core.Logic.{inl, inr}
use mathlib.Core.Bool.{Bool, true, false, not, cond, ◌&&◌, ◌||◌, false≢true}
use Prim.Native.Nat.{ℕ, zero, suc, ◌+◌, ◌-◌, ◌*◌, ◌/◌, ◌%◌, ◌≤◌, ◌<◌}
use native.Mathlib.Nat.{add-mul, div-add-mod', div-eq_of_lt-le, mod-lt, zero-lt-suc}
use native.Mathlib.Omega.{arith}
use lib.Dec.{eqb}
use lib.ListN.{get_or}
use borrow.Author.Tests.{eqb-true, eqb-false, eq-eqb, ne_eqb}
use Rattle.calendar.specs.Calendar.{months, year_of, is_leap, leap_days, days_in, month_length, month_start}
use Rattle.numbers.specs.Sums.{sum, count_below}
use Rattle.numbers.specs.Tests.{all_below}
use Rattle.numbers.proofs.TestLaws.{bool_cases, or_cases, all_below-at}
use Rattle.calendar.proofs.MonthLaws.{start-zero, start-step, start-mono}
use Rattle.calendar.proofs.MonthTable.{table, table_at}

-- n / d rounded up is one more for n + 1 where d divides n; d is k + 1
up_step : (k n : ℕ) → (suc n + k) / suc k ≡ (n + k) / suc k + cond (eqb (n % suc k) 0) 1 0
up_step k n =
    let q = n / suc k in
    let whole = div-add-mod' n (suc k) in
    let rest : n % suc k < suc k = mod-lt n (zero-lt-suc k) in
    let one = add-mul q 1 (suc k) in
    let two = add-mul (q + 1) 1 (suc k) in
    let next : (suc n + k) / suc k ≡ q + 1 = div-eq_of_lt-le (suc k) (omega arith) (omega arith) in
    elim (bool_cases (eqb (n % suc k) 0)) [
      | inl e ↦
          let none : n % suc k ≡ 0 = eqb-true _ _ e in
          let this : (n + k) / suc k ≡ q = div-eq_of_lt-le (suc k) (omega arith) (omega arith) in
          rw (e, next, this)
      | inr e ↦
          let some : n % suc k ≡ 0 → ⊥ = eqb-false _ _ e in
          let this : (n + k) / suc k ≡ q + 1 = div-eq_of_lt-le (suc k) (omega arith) (omega arith) in
          rw (e, next, this) (omega arith)
    ]

-- the leap days of the first n years from 2000 on: of each fourth year, not of a hundredth, but of a four-hundredth
abbrev leap_rule : ℕ → ℕ
leap_rule n = (n + 3) / 4 - (n + 99) / 100 + (n + 399) / 400

-- what one year more adds to the three counts, and to their sum
leap-adds : (a b c : ℕ) (fourth hundredth fourhundredth : Bool) → b ≤ a → (hundredth ≡ true → fourth ≡ true) → (fourhundredth ≡ true → hundredth ≡ true) →
    (a + cond fourth 1 0) - (b + cond hundredth 1 0) + (c + cond fourhundredth 1 0) ≡ a - b + c + cond (fourth && (not hundredth || fourhundredth)) 1 0
leap-adds a b c true true true h p q = omega arith
leap-adds a b c true true false h p q = omega arith
leap-adds a b c true false false h p q = omega arith
leap-adds a b c false false false h p q = omega arith
leap-adds a b c fourth false true h p q = absurd (false≢true (q refl))
leap-adds a b c false true f h p q = absurd (false≢true (p refl))

leap-rule-step : (n : ℕ) → leap_rule (suc n) ≡ leap_rule n + cond (is_leap (2000 + n)) 1 0
unfolding is_leap
leap-rule-step n =
    let fourths : (suc n + 3) / 4 ≡ (n + 3) / 4 + cond (eqb (n % 4) 0) 1 0 = up_step 3 n in
    let hundredths : (suc n + 99) / 100 ≡ (n + 99) / 100 + cond (eqb (n % 100) 0) 1 0 = up_step 99 n in
    let fourhundredths : (suc n + 399) / 400 ≡ (n + 399) / 400 + cond (eqb (n % 400) 0) 1 0 = up_step 399 n in
    let by4 : (2000 + n) % 4 ≡ n % 4 = omega arith in
    let by100 : (2000 + n) % 100 ≡ n % 100 = omega arith in
    let by400 : (2000 + n) % 400 ≡ n % 400 = omega arith in
    rw (fourths, hundredths, fourhundredths, by4, by100, by400)
    (leap-adds ((n + 3) / 4) ((n + 99) / 100) ((n + 399) / 400) (eqb (n % 4) 0) (eqb (n % 100) 0) (eqb (n % 400) 0) (omega arith)
    (λ e. let z = eqb-true (n % 100) 0 e in eq-eqb (n % 4) 0 (omega arith))
    (λ e. let z = eqb-true (n % 400) 0 e in eq-eqb (n % 100) 0 (omega arith)))

pub leap-rule : (n : ℕ) → leap_days n ≡ leap_rule n
unfolding leap_days count_below sum
leap-rule zero = refl
leap-rule (suc n) = ap (λ l. l + cond (is_leap (2000 + n)) 1 0) (leap-rule n) ∙ sym (leap-rule-step n)

-- at most one a year
pub leap-most : (n : ℕ) → leap_days n ≤ n
leap-most n = rw (leap-rule n) (omega arith)

-- the days before a month of a year that begins in March: 153 days in each five months
abbrev from_march : ℕ → ℕ
from_march i = (153 * i + 2) / 5

-- the first day of month m: years begin in March, the first in March 1999, 306 days before day 0
unfoldable pub by_rule : ℕ → ℕ
by_rule m = 365 * ((m + 10) / 12) + leap_days ((m + 10) / 12) + from_march ((m + 10) % 12) - 306

-- nothing is taken from less: the first year is told of from January on
pub from-march-1999 : (y leaps i : ℕ) → (y ≡ 0 → 10 ≤ i) → 306 ≤ 365 * y + leaps + from_march i
from-march-1999 zero leaps i h = omega (arith, h refl)
from-march-1999 (suc y) leaps i h = omega arith

since-march : (m : ℕ) → 306 ≤ 365 * ((m + 10) / 12) + leap_days ((m + 10) / 12) + from_march ((m + 10) % 12)
since-march m = from-march-1999 _ _ _ (λ z. omega arith)

-- each month but February is as long as the step to the next
usual-test : all_below 12 (λ j. eqb j 1 || eqb (from_march (suc ((j + 10) % 12))) (from_march ((j + 10) % 12) + days_in 2001 (1 + j))) ≡ true
unfolding all_below days_in is_leap
usual-test = refl

other-year : (y j : ℕ) → eqb j 1 ≡ false → days_in y (1 + j) ≡ days_in 2001 (1 + j)
unfolding days_in
other-year y j e =
    let n : eqb (1 + j) 2 ≡ false = ne_eqb (1 + j) 2 (λ q. eqb-false j 1 e (omega arith)) in
    rw n

usual : (y j : ℕ) → j < 12 → eqb j 1 ≡ false → from_march (suc ((j + 10) % 12)) ≡ from_march ((j + 10) % 12) + days_in y (1 + j)
usual y j h e =
    elim (or_cases (eqb j 1) _ (all_below-at 12 _ usual-test j h)) [
      | inl t ↦ absurd (false≢true (sym e ∙ t))
      | inr t ↦ rw (other-year y j e) (eqb-true _ _ t)
    ]

-- a year with a leap day has it in February, its last month here
february : (q : ℕ) → 365 * suc q + leap_days (suc q) + 0 - 306 ≡ 365 * q + leap_days q + 337 - 306 + days_in (2000 + q) 2
unfolding leap_days count_below sum days_in
february q = go (leap_days q) (is_leap (2000 + q))
  where
    go : (l : ℕ) (leap : Bool) → 365 * suc q + (l + cond leap 1 0) + 0 - 306 ≡ 365 * q + l + 337 - 306 + cond leap 29 28
    go l true = omega arith
    go l false = omega arith

same_rest : (m : ℕ) → (m % 12 + 10) % 12 ≡ (m + 10) % 12
same_rest m = go (m / 12) (m % 12) (omega arith)
  where
    go : (q j : ℕ) → m ≡ 12 * q + j → (j + 10) % 12 ≡ (m + 10) % 12
    go q j e = omega arith

-- the month after begins where the month ends, whatever the year
pub rule-step : (m : ℕ) → by_rule (suc m) ≡ by_rule m + month_length m
unfolding by_rule month_length
rule-step m =
    let p = since-march m in
    let below : m % 12 < 12 = omega arith in
    elim (bool_cases (eqb (m % 12) 1)) [
      | inl e ↦
          let z : m % 12 ≡ 1 = eqb-true _ _ e in
          let y : (m + 10) / 12 ≡ m / 12 = omega arith in
          let i : (m + 10) % 12 ≡ 11 = omega arith in
          let y' : (suc m + 10) / 12 ≡ suc (m / 12) = omega arith in
          let i' : (suc m + 10) % 12 ≡ 0 = omega arith in
          rw (z, y, i, y', i') (february (m / 12))
      | inr e ↦
          let n : m % 12 ≡ 1 → ⊥ = eqb-false _ _ e in
          let y : (suc m + 10) / 12 ≡ (m + 10) / 12 = omega arith in
          let i : (suc m + 10) % 12 ≡ suc ((m + 10) % 12) = omega arith in
          let u = usual (year_of m) (m % 12) below e in
          rw (y, i) (omega (arith, rw (same_rest m) at u))
    ]

pub rule-zero : by_rule 0 ≡ 0
unfolding by_rule leap_days count_below sum
rule-zero = refl

-- the definition and the rule are one function
pub start-by-rule : (m : ℕ) → month_start m ≡ by_rule m
start-by-rule zero = start-zero ∙ sym rule-zero
start-by-rule (suc m) = start-step m ∙ ap (λ d. d + month_length m) (start-by-rule m) ∙ sym (rule-step m)

-- and give the table of the source at each place
pub table-by-rule : (k : ℕ) → k ≤ months → get_or table k 0 ≡ by_rule k
table-by-rule k h = table_at k h ∙ start-by-rule k

-- 400 years have 146,097 days
pub leap-cycle : (n : ℕ) → leap_days (n + 400) ≡ leap_days n + 97
leap-cycle n =
    let fourths : (n + 400 + 3) / 4 ≡ (n + 3) / 4 + 100 = omega arith in
    let hundredths : (n + 400 + 99) / 100 ≡ (n + 99) / 100 + 4 = omega arith in
    let fourhundredths : (n + 400 + 399) / 400 ≡ (n + 399) / 400 + 1 = omega arith in
    leap-rule (n + 400) ∙ rw (fourths, hundredths, fourhundredths, leap-rule n) (omega arith)

pub start-cycle : (m : ℕ) → month_start (m + 4800) ≡ month_start m + 146097
unfolding by_rule
start-cycle m =
    let p = since-march m in
    let y : (m + 4800 + 10) / 12 ≡ (m + 10) / 12 + 400 = omega arith in
    let i : (m + 4800 + 10) % 12 ≡ (m + 10) % 12 = omega arith in
    start-by-rule (m + 4800) ∙ rw (y, i, leap-cycle ((m + 10) / 12)) (omega arith) ∙ ap (λ d. d + 146097) (sym (start-by-rule m))

pub start-most : (m : ℕ) → m ≤ 4800 → month_start m ≤ 146097
start-most m h = omega (arith, start-mono m (0 + 4800) (omega arith), start-cycle 0, start-zero)
