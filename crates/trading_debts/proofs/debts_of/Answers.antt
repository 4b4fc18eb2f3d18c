-- `trading_debts::debts_of` meets its contract. Assumes nothing.
use mathlib.Core.Path.{◌≡◌, ap, ◌∙◌}
use Prim.Native.Nat.{◌+◌, ◌-◌, ◌*◌}
use native.Mathlib.Omega.{arith}
use lib.ListN.{get_or}
use Rattle.trading_debts.specs.Window.{money_in}
use Rattle.trading_debts.proofs.DebtLaws.{walk_more, walk_end}
use Rattle.trading_debts.proofs.debts_of.Goals as goal

pub loop-i-preserved : goal.loop-i-preserved
loop-i-preserved c =
    let a = c.args in
    let cells = a.window.now.cells in
    let l = c.loop-i in
    let e = c.day_before-walk.ensures in
    let t = c.trades_at.ensures in
    let u = c.trades_at-in-loop-i.ensures in
    let s : c.trades_at-in-loop-i.result.sold ≡ get_or cells (4 * l.i + 3) 0 = u.sold ∙ ap (λ k. get_or cells k 0) (omega arith) in
    walk_more cells a.day l.i (omega arith) (omega arith) l.walk.ahead l.walk.intraday a.window.now.within l.invariant.0 l.invariant.1
    (rw (t.bought, t.sold, u.bought, s) at e.debt) (rw (t.bought, t.sold) at e.ahead) (rw (u.bought, s) at e.intraday)

pub returns : goal.returns
returns c =
    let l = c.loop-i in
    omega (arith, l.invariant.1, walk_end (money_in c.args.window.now.cells c.args.day) (30 - l.i) (c.args.day - l.i) l.walk.ahead l.walk.intraday (omega arith))
