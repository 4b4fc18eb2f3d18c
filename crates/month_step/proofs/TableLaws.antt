-- The rows of month tables that no cause refuses. Assumes nothing.
use mathlib.Core.Path.{◌≡◌, sym, ◌∙◌, ap, ap₂}
use Prim.Native.Nat.{ℕ, ◌+◌, ◌*◌, ◌≤◌, ◌<◌}
use native.Mathlib.Nat.{le_trans, le_of_lt, mul-le-mul, mul-le-mul_right, suc-mul}
use native.Mathlib.Omega.{arith}
use lib.IntN.{ℤ}
use lib.ListN.{length}
use mir.Syntax.{w64}
use mir.Val.{SFits, to_z, of_z}
use mir.ValLaws.{to_z-of_z}
use Rattle.numbers.specs.Rounding.{half_up}
use Rattle.numbers.proofs.SumLaws.{sum_step, sum_bound}
use Rattle.rules.specs.Month.{Tables, tables_of, hours, weighted_prices, weights, aosmf, aedm, month_figures}
use Rattle.case_figures.specs.declared.Month.{Month}
use Rattle.rules.proofs.Limits.{MonthRanges, hour-limit}
use Rattle.month_step.specs.Rows.{PricedRow, DmRow, first_weighted, first_weights, first_volume, row_weighted, row_weights, row_volume}
use Rattle.month_step.proofs.RowLaws.{weighted-limit, weights-limit}

-- tables cut to their first rows
abbrev pub first_rows : Tables → ℕ → Tables
first_rows m n = tables_of m.prices m.imbalance n m.dm m.group

abbrev month_of : ℕ → ℤ → Month
month_of price volume = record { aosmf = price; aedm = volume }

-- one row more: both sums stay within 64 bits, and are those of the rows so far
pub record RowAdded (m : Tables) (row weighted weight more more_weight : ℕ) : Type 0 where
  pub added : weighted + more ≤ 500000000000000000
  pub counted : weight + more_weight ≤ 500000000000
  pub weighted-more : weighted + more ≡ weighted_prices (first_rows m (row + 1))
  pub weights-more : weight + more_weight ≡ weights (first_rows m (row + 1))

module _ (m : Tables) (r : MonthRanges m) where
  row_inside : (row : ℕ) → row < m.rows → row * hours m + hours m ≤ length m.imbalance
  row_inside row l = omega (arith, r.cells, suc-mul row (hours m), mul-le-mul_right (hours m) l)

  pub row-place : (row : ℕ) → row < m.rows → row * hours m ≤ 47680
  row-place row l = le_trans (mul-le-mul (le_of_lt l) r.hours) (mul-le-mul_right 745 r.rows.1)

  pub priced : (row : ℕ) → row < m.rows → PricedRow m.prices m.imbalance (row * hours m)
  priced row l = record { hours = r.hours; inside = row_inside row l; price = r.price; volume = r.volume row }

  pub beside_dm : DmRow m.imbalance (m.group * hours m) m.dm
  beside_dm =
      record {
        hours = rw r.dms r.hours;
        inside = rw r.dms (row_inside m.group r.group);
        difference = hour-limit m r;
      }

  -- the volume of the group's row is AEDM
  pub volume-is : row_volume m.imbalance (m.group * hours m) m.dm ≡ aedm m
  unfolding first_volume aedm
  volume-is = rw r.dms

  weighted-row : (row : ℕ) → row < m.rows → row_weighted m.prices m.imbalance (row * hours m) ≤ 7450000000000000
  weighted-row row l =
      omega (arith, r.hours, weighted-limit m.prices m.imbalance (row * hours m) (hours m) (priced row l))

  weights-row : (row : ℕ) → row < m.rows → row_weights m.prices m.imbalance (row * hours m) ≤ 7450000000
  weights-row row l =
      omega (arith, r.hours, weights-limit m.prices m.imbalance (row * hours m) (hours m) (priced row l))

  weighted-rows : (n : ℕ) → n ≤ m.rows → weighted_prices (first_rows m n) ≤ n * 7450000000000000
  unfolding weighted_prices first_weighted
  weighted-rows n l = sum_bound n _ 7450000000000000 (λ row b. weighted-row row (omega arith))

  weights-rows : (n : ℕ) → n ≤ m.rows → weights (first_rows m n) ≤ n * 7450000000
  unfolding weights first_weights
  weights-rows n l = sum_bound n _ 7450000000 (λ row b. weights-row row (omega arith))

  pub row-added : (row : ℕ) {weighted weight more more_weight : ℕ} → row < m.rows →
      weighted ≡ weighted_prices (first_rows m row) → weight ≡ weights (first_rows m row) →
      more ≡ row_weighted m.prices m.imbalance (row * hours m) → more_weight ≡ row_weights m.prices m.imbalance (row * hours m) →
      RowAdded m row weighted weight more more_weight
  unfolding weighted_prices weights first_weighted first_weights
  row-added row l e f g h =
      record {
        added = omega (arith, r.rows, weighted-rows row (omega arith), weighted-row row l);
        counted = omega (arith, r.rows, weights-rows row (omega arith), weights-row row l);
        weighted-more = rw (e, g) (sym (sum_step row _));
        weights-more = rw (f, h) (sym (sum_step row _));
      }

  -- the two figures, from what the code has after all rows
  pub figures-are : (row weighted weight : ℕ) {price : ℕ} {volume : ℤ} → row ≡ m.rows →
      weighted ≡ weighted_prices (first_rows m row) → weight ≡ weights (first_rows m row) →
      price ≡ half_up weighted weight → volume ≡ row_volume m.imbalance (m.group * hours m) m.dm → SFits w64 volume →
      month_of price (to_z w64 (of_z w64 volume)) ≡ month_figures m
  unfolding month_figures aosmf
  figures-are row weighted weight {price} {volume} last e f p v fits =
      ap₂ month_of
      (p ∙ ap₂ half_up (e ∙ ap (λ n. weighted_prices (first_rows m n)) last) (f ∙ ap (λ n. weights (first_rows m n)) last))
      (to_z-of_z w64 volume fits ∙ v ∙ volume-is)
