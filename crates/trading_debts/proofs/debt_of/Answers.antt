-- `trading_debts::debt_of` meets its contract. Assumes nothing.
use mathlib.Core.Path.{◌∙◌, ap}
use Rattle.rules.specs.Words.{entries}
use Rattle.rules.specs.Collateral.{debts}
use Rattle.trading_debts.specs.Window.{money_in}
use Rattle.trading_debts.proofs.WindowLaws.{window-debts}
use Rattle.trading_debts.proofs.debt_of.Goals as goal

pub returns-clause-debt : goal.returns-clause-debt
returns-clause-debt c =
    let a = c.args in
    c.debts_of.ensures
    ∙ ap (λ x. debts (money_in x a.day) 30 a.day a.k a.k) c.of.ensures.cells
    ∙ window-debts a.party a.day a.k (entries a.book.now)
