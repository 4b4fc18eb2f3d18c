-- The debts of the latest days over a window table, day by day as the code walks. Assumes nothing.
use mathlib.Core.Path.{◌≡◌, refl}
use mathlib.Core.Bool.{Bool}
use mathlib.Core.List.{List}
use Prim.Native.Nat.{ℕ, zero, suc, ◌+◌, ◌-◌, ◌*◌, min, ◌≤◌, ◌<◌}
use native.Mathlib.Omega.{arith}
use lib.ListN.{get_or}
use Rattle.numbers.proofs.SumLaws.{cond_below}
use Rattle.rules.specs.Collateral.{Money, debt_of, debts}
use Rattle.cells.specs.Cells.{AtMost}
use Rattle.trading_debts.specs.Window.{most_in_cell, money_in}
use Rattle.trading_debts.specs.Walk.{chosen, left_after, owed}

pub owed-limit : (a i : Bool) (b s c t : ℕ) → b ≤ most_in_cell → c ≤ most_in_cell → owed a i b s c t ≤ 2 * most_in_cell
owed-limit a i b s c t hb hc = omega (arith, cond_below a b, cond_below i c)

-- one day of the walk
module _ (cells : List ℕ) (g i : ℕ) (d : i < 30) (e : i < g) (a b : ℕ) where
  abbrev at : ℕ → ℕ
  at j = get_or cells (4 * i + j) 0

  pub walk-day : debts (money_in cells g) (30 - i) (g - i) a b
      ≡ owed (chosen a (get_or cells (4 * i) 0) (at 1)) (chosen b (at 2) (at 3)) (get_or cells (4 * i) 0) (at 1) (at 2) (at 3)
      + debts (money_in cells g) (30 - (i + 1)) (g - (i + 1)) (left_after a (get_or cells (4 * i) 0) (at 1)) (left_after b (at 2) (at 3))
  unfolding debts debt_of
  walk-day =
      let n : 30 - i ≡ suc (30 - (i + 1)) = omega arith in
      let m : g - i ≡ suc (g - (i + 1)) = omega arith in
      let e0 : 4 * (g - 1 - (g - (i + 1))) + 0 ≡ 4 * i = omega arith in
      let e1 : 4 * (g - 1 - (g - (i + 1))) + 1 ≡ 4 * i + 1 = omega arith in
      let e2 : 4 * (g - 1 - (g - (i + 1))) + 2 ≡ 4 * i + 2 = omega arith in
      let e3 : 4 * (g - 1 - (g - (i + 1))) + 3 ≡ 4 * i + 3 = omega arith in
      rw (n, m, e0, e1, e2, e3)

  -- the debts so far and those still to come
  pub walk_more : {w v x y all : ℕ} → AtMost most_in_cell cells → w ≤ i * (2 * most_in_cell) → all ≡ w + debts (money_in cells g) (30 - i) (g - i) a b →
      v ≡ w + owed (chosen a (get_or cells (4 * i) 0) (at 1)) (chosen b (at 2) (at 3)) (get_or cells (4 * i) 0) (at 1) (at 2) (at 3) →
      x ≡ left_after a (get_or cells (4 * i) 0) (at 1) → y ≡ left_after b (at 2) (at 3) →
      (v ≤ (i + 1) * (2 * most_in_cell)) × (all ≡ v + debts (money_in cells g) (30 - (i + 1)) (g - (i + 1)) x y)
  walk_more l few q ev ex ey =
      let most =
      owed-limit (chosen a (get_or cells (4 * i) 0) (at 1)) (chosen b (at 2) (at 3)) (get_or cells (4 * i) 0) (at 1) (at 2) (at 3)
      (l.at_most (4 * i)) (l.at_most (4 * i + 2)) in
      (omega arith, rw (ex, ey) (omega (arith, walk-day)))

-- nothing is left past the window, or before day 0
pub walk_end : (f : Money) (n g a b : ℕ) → min n g ≡ 0 → debts f n g a b ≡ 0
unfolding debts
walk_end f zero g a b e = refl
walk_end f (suc n) zero a b e = refl
walk_end f (suc n) (suc g) a b e = absurd (omega arith)
