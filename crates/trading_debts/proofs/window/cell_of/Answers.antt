-- `trading_debts::window::cell_of` meets its contract. Assumes nothing.
use mathlib.Core.Path.{sym, ◌∙◌}
use native.Mathlib.Omega.{arith}
use Rattle.entry_words.specs.Words.{words_in, entry_in}
use Rattle.trading_debts.proofs.WindowLaws.{Read, cell_other, cell-below, cell-is, cell-none, day-bits}
use Rattle.trading_debts.proofs.window.cell_of.Goals as goal
use Rattle.trading_debts.proofs.window.cell_of.Goals.{After-is_money}

-- the figures read of the entry
figures : (c : After-is_money) →
    Read c.args.party (entry_in c.args.e).label c.entry_type-entry_type.result c.day-entry_day.result
    c.status.result c.is_money.result
figures c =
    record {
      party = sym c.party.ensures ∙ c.if-party.false;
      type = c.entry_type-entry_type.ensures;
      day = c.day-entry_day.ensures;
      status = c.status.ensures;
      money = c.is_money.ensures;
    }

pub returns-then-party : goal.returns-then-party
returns-then-party c =
    sym (cell_other c.args.party c.args.day (entry_in c.args.e).label c.party.ensures c.if-party.true)

pub overflow_add-counts : goal.overflow_add-counts
overflow_add-counts c = omega (arith, c.day-entry_day.ensures, day-bits (words_in c.args.e))

pub returns-then-counts : goal.returns-then-counts
returns-then-counts c =
    let f = figures (goal.at.returns-then-counts c).After-is_money in
    (cell-below c.args.day f c.if-counts.true, cell-is c.args.day f c.if-counts.true)

pub returns-else-counts : goal.returns-else-counts
returns-else-counts c =
    sym (cell-none c.args.day (figures (goal.at.returns-else-counts c).After-is_money) c.if-counts.false)
