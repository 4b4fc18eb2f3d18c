-- One row of month tables: what may be read of it, and its sums.
use Rattle.std.specs.Prelude.{List, ℕ, ◌+◌, ◌*◌, ◌≤◌, ℤ, pos, nat_abs, ◌-ℤ◌, length, get_or}
use Rattle.numbers.specs.Sums.{sum}
use Rattle.numbers.specs.Signed.{sum_ℤ}
use Rattle.rules.specs.Month.{most_hours, most_price, most_imbalance}

-- the row that starts at a place of the imbalance
abbrev pub figure_at : List ℤ → ℕ → ℕ → ℤ
figure_at imbalance at h = get_or imbalance (at + h) (pos 0)

abbrev pub difference_at : List ℤ → ℕ → List ℤ → ℕ → ℤ
difference_at imbalance at dm h = figure_at imbalance at h -ℤ get_or dm h (pos 0)

-- a row beside the prices, in range
pub record PricedRow (prices : List ℕ) (imbalance : List ℤ) (at : ℕ) : Type 0 where
  pub hours : length prices ≤ most_hours
  pub inside : at + length prices ≤ length imbalance
  pub price : (h : ℕ) → get_or prices h 0 ≤ most_price
  pub volume : (h : ℕ) → nat_abs (figure_at imbalance at h) ≤ most_imbalance

-- a row beside DM, with their differences in range
pub record DmRow (imbalance : List ℤ) (at : ℕ) (dm : List ℤ) : Type 0 where
  pub hours : length dm ≤ most_hours
  pub inside : at + length dm ≤ length imbalance
  pub difference : (h : ℕ) → nat_abs (difference_at imbalance at dm h) ≤ 2 * most_imbalance

-- the sums of the first n hours
unfoldable pub first_weighted : List ℕ → List ℤ → ℕ → ℕ → ℕ
first_weighted prices imbalance at n = sum n (λ h. nat_abs (figure_at imbalance at h) * get_or prices h 0)

unfoldable pub first_weights : List ℤ → ℕ → ℕ → ℕ
first_weights imbalance at n = sum n (λ h. nat_abs (figure_at imbalance at h))

unfoldable pub first_volume : List ℤ → ℕ → List ℤ → ℕ → ℤ
first_volume imbalance at dm n = sum_ℤ n (difference_at imbalance at dm)

abbrev pub row_weighted : List ℕ → List ℤ → ℕ → ℕ
row_weighted prices imbalance at = first_weighted prices imbalance at (length prices)

abbrev pub row_weights : List ℕ → List ℤ → ℕ → ℕ
row_weights prices imbalance at = first_weights imbalance at (length prices)

abbrev pub row_volume : List ℤ → ℕ → List ℤ → ℤ
row_volume imbalance at dm = first_volume imbalance at dm (length dm)
