-- `trading_debts::debts_of` meets its contract. The loop's invariant: the debts so far and those still to come. Assumes nothing.
use mathlib.Core.Path.{◌≡◌}
use Prim.Native.Nat.{◌+◌, ◌-◌, ◌*◌, ◌≤◌}
use Rattle.rules.specs.Collateral.{debts}
use Rattle.trading_debts.specs.Window.{most_in_cell, money_in}
use Rattle.trading_debts.proofs.debts_of.Given as goal

abbrev pub invariant-loop-i : goal.invariant-loop-i
invariant-loop-i l =
    (l.walk.debt ≤ l.i * (2 * most_in_cell))
    × (debts (money_in l.window.cells l.day) 30 l.day l.k l.k ≡ l.walk.debt + debts (money_in l.window.cells l.day) (30 - l.i) (l.day - l.i) l.walk.ahead l.walk.intraday)
