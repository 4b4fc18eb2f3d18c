-- The month step (01, 'Month step').
use Rattle.std.specs.Prelude.{Bool, List, [], ◌∷◌, ℕ, ◌+◌, ◌*◌, eqb, leb, ltb, ℤ, pos, nat_abs, ◌-ℤ◌, length, get_or}
use Rattle.numbers.specs.Sums.{sum}
use Rattle.numbers.specs.Tests.{every, all}
use Rattle.numbers.specs.Causes.{unless, first_of, if_done}
use Rattle.numbers.specs.Rounding.{half_up}
use Rattle.numbers.specs.Signed.{sum_ℤ}
use Rattle.rules.specs.Refusals.{bad_length, bad_figure}
use Rattle.rules.specs.Entry.{within}
use Rattle.case_figures.specs.declared.Month.{Month}
use Rattle.rules.specs.declared.MonthAnswer.{MonthAnswer}

abbrev pub most_hours : ℕ
most_hours = 745

abbrev pub most_rows : ℕ
most_rows = 64

abbrev pub most_price : ℕ
most_price = 1000000

abbrev pub most_imbalance : ℕ
most_imbalance = 10000000

-- the tables of a month: an hourly price; rows × hours imbalances, a row a group; an hourly DM; the group asked
pub record Tables : Type 0 where
  pub prices : List ℕ
  pub imbalance : List ℤ
  pub rows : ℕ
  pub dm : List ℤ
  pub group : ℕ

abbrev pub tables_of : List ℕ → List ℤ → ℕ → List ℤ → ℕ → Tables
tables_of prices imbalance rows dm group =
    record { prices = prices; imbalance = imbalance; rows = rows; dm = dm; group = group }

abbrev pub hours : Tables → ℕ
hours m = length m.prices

abbrev pub volume_ok : ℤ → Bool
volume_ok z = leb (nat_abs z) most_imbalance

unfoldable pub month_cause : Tables → ℕ
month_cause m =
    first_of
    (unless (every (leb (hours m) most_hours ∷ eqb (length m.imbalance) (m.rows * hours m) ∷ eqb (length m.dm) (hours m) ∷ [])) bad_length
    ∷ unless
    (every
    (within 1 most_rows m.rows
    ∷ ltb m.group m.rows
    ∷ all (λ price. leb price most_price) m.prices
    ∷ all volume_ok m.imbalance
    ∷ all volume_ok m.dm
    ∷ []))
    bad_figure
    ∷ [])

-- the figures of an hour
abbrev pub price_at : Tables → ℕ → ℕ
price_at m h = get_or m.prices h 0

abbrev pub imbalance_at : Tables → ℕ → ℕ → ℤ
imbalance_at m row h = get_or m.imbalance (row * hours m + h) (pos 0)

abbrev pub dm_at : Tables → ℕ → ℤ
dm_at m h = get_or m.dm h (pos 0)

-- AOSMF: Σ|imbalance| × price over all rows, divided by Σ|imbalance|, halves up; 0 where the divisor is 0
unfoldable pub weighted_prices : Tables → ℕ
weighted_prices m = sum m.rows (λ row. sum (hours m) (λ h. nat_abs (imbalance_at m row h) * price_at m h))

unfoldable pub weights : Tables → ℕ
weights m = sum m.rows (λ row. sum (hours m) (λ h. nat_abs (imbalance_at m row h)))

unfoldable pub aosmf : Tables → ℕ
aosmf m = half_up (weighted_prices m) (weights m)

-- AEDM: Σ(imbalance − DM) of the group asked
unfoldable pub aedm : Tables → ℤ
aedm m = sum_ℤ (hours m) (λ h. imbalance_at m m.group h -ℤ dm_at m h)

unfoldable pub month_figures : Tables → Month
month_figures m = record { aosmf = aosmf m; aedm = aedm m }

unfoldable pub month_answer : Tables → MonthAnswer
month_answer m =
    record {
      answer = month_cause m;
      month = if_done (month_cause m) (month_figures m) (record { aosmf = 0; aedm = pos 0 });
    }
